use Rattle.std.proofs.Common.{arith}
use Rattle.ivl_places.proofs.FirstFit.{at_least_by_count, below_by_count}
use Rattle.ivl_paged.proofs.Longest.{next_part, no_part, part_of_all, size_of_next}
use Rattle.ivl_paged.proofs.page.longest_of.Goals as goal

pub loop-run-init : goal.loop-run-init
loop-run-init g c = (no_part c.args.runs.now c.empty-longest.result c.empty-longest.ensures.crossed, c.size-most.ensures.width)

pub loop-run-preserved : goal.loop-run-preserved
loop-run-preserved g c =
    let is = c.loop-run.invariant.1 in
    let w = c.size-size.ensures.width in
    let up = at_least_by_count g.met.B.Output.SizeNumber.ordered _ _ _ c.ge-is_longer.ensures in
    let down = below_by_count g.met.B.Output.SizeNumber.ordered _ _ _ c.ge-is_longer.ensures in (
      next_part c.args.runs.now c.loop-run.run-index c.run-item.result c.loop-run.longest c.select_unpredictable-longest.result c.ge-is_longer.result
          c.requires c.loop-run-test.true c.run-item.is c.loop-run.invariant.0
          (λ t. let le = up t in omega (arith, is, w, le)) (λ f. let lt = down f in omega (arith, is, w, lt)) c.select_unpredictable-longest.ensures,
      size_of_next g.B.Output.SizeNumber.size c.size-size.result c.loop-run.most c.select_unpredictable-most.result c.run-item.result c.loop-run.longest c.select_unpredictable-longest.result c.ge-is_longer.result
          w is c.select_unpredictable-most.ensures c.select_unpredictable-longest.ensures,
    )

pub returns : goal.returns
returns g c = part_of_all c.args.runs.now c.loop-run.run-index _ c.loop-run-test.false c.loop-run.invariant.0

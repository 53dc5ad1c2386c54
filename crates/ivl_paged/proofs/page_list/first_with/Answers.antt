use Rattle.std.proofs.Common.{arith}
use Rattle.ivl_places.proofs.FirstFit.{at_least_by_count, below_by_count}
use Rattle.ivl_paged.proofs.Bounding.{is_long, none_long_next}
use Rattle.ivl_paged.proofs.page_list.first_with.Goals as goal

pub loop-i-init : goal.loop-i-init
loop-i-init g c k h = absurd (omega (arith, h))

pub returns-then-ge : goal.returns-then-ge
returns-then-ge g c = record {
  from = omega arith;
  less = c.loop-i-test.true;
  long = is_long c.args.pages.now c.loop-i.i (g.B.Output.SizeNumber.size c.longest.result) (g.B.Output.SizeNumber.size c.args.count) c.index-pages-i.result c.loop-i-test.true c.index-pages-i.is c.longest.ensures
      (at_least_by_count g.met.B.Output.SizeNumber.ordered _ _ _ c.ge.ensures c.if-ge.true);
  passed = λ k a lt. c.loop-i.invariant k lt;
}

pub loop-i-preserved : goal.loop-i-preserved
loop-i-preserved g c =
    none_long_next c.args.pages.now c.loop-i.i (g.B.Output.SizeNumber.size c.longest.result) (g.B.Output.SizeNumber.size c.args.count) c.index-pages-i.result c.loop-i-test.true c.index-pages-i.is c.longest.ensures
    (below_by_count g.met.B.Output.SizeNumber.ordered _ _ _ c.ge.ensures c.if-ge.false) c.loop-i.invariant

pub returns : goal.returns
returns g c k less = let done = c.loop-i-test.false in c.loop-i.invariant k (omega (arith, done, less))

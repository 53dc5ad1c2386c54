use Rattle.std.proofs.Common.{◌+◌, subst, take, arith}
use Rattle.ivl_laws.specs.Runs.{Covers}
use Rattle.ivl_paged.specs.Pages.{flattened}
use Rattle.ivl_paged.proofs.Paging.{IsMaximal-taken}
use Rattle.ivl_paged.proofs.Shortest.{IsBestSoFar, best_with_next}
use Rattle.ivl_paged.proofs.pages.shortest_up_to.Goals as goal

pub loop-i-init : goal.loop-i-init
loop-i-init g c = (c.requires.in_order, c.requires.known)

pub bounds-pages-i : goal.bounds-pages-i
bounds-pages-i g c = let less = c.loop-i-test.true in omega (arith, less, c.requires.at_most)

pub loop-i-preserved : goal.loop-i-preserved
loop-i-preserved g c =
    let less = c.loop-i-test.true in (
      omega (arith, less),
      best_with_next (g.B.Output.SizeNumber.size c.args.count) c.args.pages.now c.index-pages-i.result c.loop-i.i c.loop-i.best c.better_of-best.result c.requires.above_zero (omega (arith, less, c.requires.at_most))
          (IsMaximal-taken c.args.pages.now (c.loop-i.i + 1) c.requires.runs) c.index-pages-i.is c.loop-i.invariant.1 c.better_of-best.ensures,
    )

pub returns : goal.returns
returns g c =
    let done = c.loop-i-test.false in
    let most = c.loop-i.invariant.0 in
    subst (λ k. IsBestSoFar (g.B.Output.SizeNumber.size c.args.count) (Covers (flattened (take k c.args.pages.now))) c.loop-i.best) (omega (arith, done, most)) c.loop-i.invariant.1

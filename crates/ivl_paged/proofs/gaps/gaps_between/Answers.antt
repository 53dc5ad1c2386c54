use Rattle.std.proofs.Common.{◌+◌, List, ℤ, arith, ap, inl, refl, subst, sym}
use Rattle.ivl_paged.specs.Gaps.{AreGaps}
use Rattle.ivl_paged.specs.Pages.{flattened}
use Rattle.ivl_paged.proofs.Freeing.{all_gaps, more_gaps}
use Rattle.ivl_paged.proofs.gaps.gaps_between.Goals as goal

pub loop-i-init : goal.loop-i-init
loop-i-init g c = inl (refl, ap flattened c.new-gaps.ensures)

pub loop-i-preserved : goal.loop-i-preserved
loop-i-preserved g c =
    subst (λ (G : List (ℤ × ℤ)). AreGaps g.B.Width.whole c.args.pages.now (c.loop-i.i + 1) G) (sym c.in_ok-push_some.ensures)
    (more_gaps g.B.Width.whole c.args.pages.now c.loop-i.i c.in_ok-part.part c.requires.runs c.in_ok-part.ensures (flattened c.loop-i.gaps) c.loop-i.invariant)

pub returns : goal.returns
returns g c = all_gaps g.B.Width.whole c.args.pages.now c.loop-i.i (flattened c.loop-i.gaps) c.requires.some (let done = c.loop-i-test.false in let len = c.len-i-end.ensures.value in omega (arith, done, len)) c.loop-i.invariant

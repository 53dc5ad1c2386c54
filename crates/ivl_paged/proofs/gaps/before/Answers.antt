use Rattle.std.proofs.Common.{ℤ, arith, inl, inr, ap, ◌∙◌}
use Rattle.std.proofs.lemmas.Int.{ints}
use Rattle.ivl_paged.proofs.Paging.{covers_page}
use Rattle.ivl_paged.proofs.gaps.before.Goals as goal

pub new-requires : goal.new-requires
new-requires g c =
    let low = c.min_value.ensures in
    let high = (c.requires.runs.within _ (covers_page c.args.pages.now c.args.i _ c.head.ensures.0)).1 in
    (omega (arith, ints, low), high)

pub returns-then-i-eq0 : goal.returns-then-i-eq0
returns-then-i-eq0 g c = inl (c.if-i-eq0.true, c.empty.ensures.members)

pub returns : goal.returns
returns g c = inr (g.B.Width.value c.head.result, let more = c.if-i-eq0.false in omega (arith, more), c.head.ensures, c.new.ensures.value ∙ ap (λ (v : ℤ). (v, g.B.Width.value c.head.result)) c.min_value.ensures)

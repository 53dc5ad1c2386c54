use Rattle.std.proofs.Common.{◌+◌, ℤ, arith, inr, ap, ◌∙◌}
use Rattle.std.proofs.lemmas.Int.{ints}
use Rattle.ivl_paged.proofs.Paging.{covers_page}
use Rattle.ivl_paged.proofs.gaps.after.Goals as goal

pub new-requires : goal.new-requires
new-requires g c =
    let high = c.max_value.ensures in
    let low = (c.requires.runs.within _ (covers_page c.args.pages.now (c.args.i + 1) _ c.head.ensures.0)).0 in
    (low, omega (arith, ints, high))

pub returns : goal.returns
returns g c = inr (g.B.Width.value c.head.result, c.head.ensures, c.new.ensures.value ∙ ap (λ (v : ℤ). (g.B.Width.value c.head.result, v)) c.max_value.ensures)

use Rattle.std.proofs.Common.{◌≡◌, ◌∙◌, ⊎_elim, inl, inr, [], arith, get_or, subst, sym, ℤ, List}
use Rattle.std.proofs.lemmas.List.{get_or_default}
use Rattle.ivl_laws.specs.Sets.{HasSome, Intersection, IsBetween}
use Rattle.ivl_laws.specs.Runs.{Covers}
use Rattle.ivl_places.specs.Edits.{widened}
use Rattle.ivl_paged.proofs.pages.insert_into_one.Goals as goal

pub returns-then-is_more_uncounted-clause-in_place : goal.returns-then-is_more_uncounted-clause-in_place
returns-then-is_more_uncounted-clause-in_place g c (z, s) =
    let page : c.page.result.now ≡ get_or c.args.pages.now c.args.i [] = c.page.ensures ∙ get_or_default c.args.pages.now c.args.i _ [] c.requires.less in
    absurd (c.is_more_uncounted.ensures.more c.if-is_more_uncounted.true z (subst (λ (L : List (ℤ × ℤ)). Intersection (Covers L) (IsBetween (widened c.args.interval)) z) (sym page) s))

pub insert_into-requires-clause-room : goal.insert_into-requires-clause-room
insert_into-requires-clause-room g c =
    let page : c.page.result.now ≡ get_or c.args.pages.now c.args.i [] = c.page.ensures ∙ get_or_default c.args.pages.now c.args.i _ [] c.requires.less in
    let count = c.interval_count.ensures in
    ⊎_elim
    (λ h. inl (omega (arith, h, count)))
    (λ h. inr (subst (λ (L : List (ℤ × ℤ)). HasSome (Intersection (Covers L) (IsBetween (widened c.args.interval)))) page h))
    (c.is_more_uncounted.ensures.counted c.if-is_more_uncounted.false)

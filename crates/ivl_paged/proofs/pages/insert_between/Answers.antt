use Rattle.std.proofs.Common.{◌≡◌, ◌∙◌, [], arith, get_or, subst, sym, ℤ, List}
use Rattle.std.proofs.lemmas.List.{get_or_default}
use Rattle.std.proofs.lemmas.Result.{on_ok_weaker}
use Rattle.ivl_laws.proofs.Adding.{untrue}
use Rattle.ivl_laws.specs.Sets.{HasSome, Intersection, IsBetween, Union}
use Rattle.ivl_laws.specs.Runs.{Covers, IsRunsOf}
use Rattle.ivl_places.specs.Edits.{widened}
use Rattle.ivl_paged.specs.Pages.{flattened}
use Rattle.ivl_paged.proofs.Paging.{inserted_in_one}
use Rattle.ivl_paged.proofs.Touching.{next_span, next_touched, not_in_untouched, touched_there}
use Rattle.ivl_paged.proofs.pages.insert_between.Goals as goal

pub returns-then-end-start-eq1-clause-ok : goal.returns-then-end-start-eq1-clause-ok
returns-then-end-start-eq1-clause-ok g c =
    let P = c.args.pages.now in
    let s = c.requires.span in
    on_ok_weaker c.insert_into_one.result
    (λ made. subst (λ (Q : List (List (ℤ × ℤ))). IsRunsOf (flattened Q) (Union (Covers (flattened P)) (IsBetween c.args.interval))) (sym made.1)
    (inserted_in_one g.B.Width.whole P made.0 c.args.interval s.next c.args.start c.args.end c.requires.runs c.requires.filled s.is_next s.span c.if-end-start-eq1.true made.2))
    c.insert_into_one.ensures.ok

pub returns-then-end-start-eq1-clause-in_place : goal.returns-then-end-start-eq1-clause-in_place
returns-then-end-start-eq1-clause-in_place g c touched =
    c.insert_into_one.ensures.in_place
    (touched_there g.B.Width.whole c.args.pages.now c.args.interval c.args.start c.args.end c.requires.runs c.requires.filled c.requires.span c.if-end-start-eq1.true touched)

pub insert_over-requires-clause-touched : goal.insert_over-requires-clause-touched
insert_over-requires-clause-touched g c =
    let P = c.args.pages.now in
    let o = c.requires.span.span.in_order in
    let most = c.requires.span.span.at_most in
    let page : c.page.result.now ≡ get_or P c.args.start [] = c.page.ensures ∙ get_or_default P c.args.start _ [] (omega (arith, o, most)) in
    let F : List (ℤ × ℤ) → Type 0 = λ L. HasSome (Intersection (Covers L) (IsBetween (widened c.args.interval))) in
    subst F page (c.touches.ensures.0 c.if-touches.true)

pub insert_over-requires-2-clause-span : goal.insert_over-requires-2-clause-span
insert_over-requires-2-clause-span g c =
    let P = c.args.pages.now in
    let o = c.requires.span.span.in_order in
    let most = c.requires.span.span.at_most in
    let page : c.page.result.now ≡ get_or P c.args.start [] = c.page.ensures ∙ get_or_default P c.args.start _ [] (omega (arith, o, most)) in
    let F : List (ℤ × ℤ) → Type 0 = λ L. HasSome (Intersection (Covers L) (IsBetween (widened c.args.interval))) in
    let free : ¬ (F (get_or P c.args.start [])) = λ h. untrue c.touches.result c.if-touches.false c.touches.ensures (subst F (sym page) h) in
    next_span g.B.Width.whole P c.args.interval c.args.start c.args.end c.requires.runs c.requires.filled c.requires.span c.if-end-start-eq1.false free

pub insert_over-requires-2-clause-touched : goal.insert_over-requires-2-clause-touched
insert_over-requires-2-clause-touched g c = next_touched g.B.Width.whole c.args.pages.now c.args.interval c.args.start c.args.end c.requires.runs c.requires.filled c.requires.span c.if-end-start-eq1.false _ c.head.ensures

pub returns-clause-was_member : goal.returns-clause-was_member
returns-clause-was_member g c =
    let P = c.args.pages.now in
    let o = c.requires.span.span.in_order in
    let most = c.requires.span.span.at_most in
    let page : c.page.result.now ≡ get_or P c.args.start [] = c.page.ensures ∙ get_or_default P c.args.start _ [] (omega (arith, o, most)) in
    let F : List (ℤ × ℤ) → Type 0 = λ L. HasSome (Intersection (Covers L) (IsBetween (widened c.args.interval))) in
    let free : ¬ (F (get_or P c.args.start [])) = λ h. untrue c.touches.result c.if-touches.false c.touches.ensures (subst F (sym page) h) in
    not_in_untouched (Covers (get_or P c.args.start [])) c.args.interval c.requires.filled free

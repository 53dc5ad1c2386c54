use Rattle.std.proofs.Common.{◌≡◌, ◌∙◌, ◌-◌, ◌+◌, ◌++◌, [], arith, drop, refl, set, subst, sym, take, ℤ, List}
use Rattle.std.proofs.lemmas.List.{get_or_default}
use Rattle.std.specs.Prelude.{◌↔◌, IsTrue}
use Rattle.std.proofs.lemmas.Int.{ints}
use Rattle.std.proofs.lemmas.Result.{IfOk-at_ok}
use Rattle.ivl_laws.specs.Families.{set_at}
use Rattle.ivl_laws.specs.Sets.{IsBetween, Union}
use Rattle.ivl_laws.specs.Runs.{Covers, IsRunsOf}
use Rattle.ivl_paged.specs.Pages.{IsPageCut, flattened}
use Rattle.ivl_paged.proofs.Paging.{inserted_in_one}
use Rattle.ivl_paged.proofs.Removing.{last_is_cut, middle_fits, on_ok_holds, first_there}
use Rattle.ivl_paged.proofs.Touching.{first_test, first_touched, inserted_over, reached_span, reaching}
use Rattle.ivl_paged.proofs.pages.insert_over.Goals as goal

pub returns-then-end-start-eq1-clause-runs : goal.returns-then-end-start-eq1-clause-runs
returns-then-end-start-eq1-clause-runs g c =
    let P = c.args.pages.now in
    let s = c.requires.span in
    let (L, e, made) = on_ok_holds ((L : List (ℤ × ℤ)) × (c.insert_into_one.new.pages ≡ set P c.args.start L) × IsRunsOf L (Union (set_at P c.args.start) (IsBetween c.args.interval))) c.insert_into_one.result c.unwrap.result c.unwrap.ensures c.insert_into_one.ensures.ok in
    subst (λ (Q : List (List (ℤ × ℤ))). IsRunsOf (flattened Q) (Union (Covers (flattened P)) (IsBetween c.args.interval))) (sym e)
    (inserted_in_one g.B.Width.whole P L c.args.interval s.next c.args.start c.args.end c.requires.runs c.requires.filled s.is_next s.span c.if-end-start-eq1.true made)

pub unwrap-requires-2 : goal.unwrap-requires-2
unwrap-requires-2 g c =
    let P = c.args.pages.now in
    let several = c.if-end-start-eq1.false in
    let o = c.requires.span.span.in_order in
    let most = c.requires.span.span.at_most in
    let reach = reaching P c.page.result.now c.args.interval c.with_run_above-whole.result (c.args.end - 1) (c.page.ensures ∙ get_or_default P (c.args.end - 1) _ [] (omega (arith, o, most))) c.with_run_above-whole.ensures in
    let filled = c.requires.filled in
    let same = reach.starts in
    let ends = reach.ends in
    c.remove_from_one.ensures.in_place (last_is_cut P c.with_run_above-whole.result c.args.start c.args.end (reached_span g.B.Width.whole P c.args.interval c.args.start c.args.end c.requires.runs c.requires.filled c.requires.span several c.with_run_above-whole.result reach) several (omega (arith, ints, filled, same, ends)))

pub take_out-requires-clause-at_most : goal.take_out-requires-clause-at_most
take_out-requires-clause-at_most g c =
    let P = c.args.pages.now in
    let several = c.if-end-start-eq1.false in
    let o = c.requires.span.span.in_order in
    let most = c.requires.span.span.at_most in
    let reach = reaching P c.page.result.now c.args.interval c.with_run_above-whole.result (c.args.end - 1) (c.page.ensures ∙ get_or_default P (c.args.end - 1) _ [] (omega (arith, o, most))) c.with_run_above-whole.ensures in
    let Q = c.remove_from_one.new.pages in
    let high : IsPageCut P c.with_run_above-whole.result (c.args.end - 1) Q = on_ok_holds (IsPageCut P c.with_run_above-whole.result (c.args.end - 1) Q) c.remove_from_one.result c.unwrap-2.result c.unwrap-2.ensures c.remove_from_one.ensures.ok in
    middle_fits P Q (take (c.args.start + 1) Q ++ drop (c.args.end - 1) Q) [] c.with_run_above-whole.result c.args.start c.args.end c.requires.runs.maximal (reached_span g.B.Width.whole P c.args.interval c.args.start c.args.end c.requires.runs c.requires.filled c.requires.span several c.with_run_above-whole.result reach) several high refl

pub insert_into_one-requires-2-clause-less : goal.insert_into_one-requires-2-clause-less
insert_into_one-requires-2-clause-less g c =
    let P = c.args.pages.now in
    let several = c.if-end-start-eq1.false in
    let o = c.requires.span.span.in_order in
    let most = c.requires.span.span.at_most in
    let reach = reaching P c.page.result.now c.args.interval c.with_run_above-whole.result (c.args.end - 1) (c.page.ensures ∙ get_or_default P (c.args.end - 1) _ [] (omega (arith, o, most))) c.with_run_above-whole.ensures in
    let Q = c.remove_from_one.new.pages in
    let high : IsPageCut P c.with_run_above-whole.result (c.args.end - 1) Q = on_ok_holds (IsPageCut P c.with_run_above-whole.result (c.args.end - 1) Q) c.remove_from_one.result c.unwrap-2.result c.unwrap-2.ensures c.remove_from_one.ensures.ok in
    first_there P Q c.take_out.new.self [] c.with_run_above-whole.result c.args.start c.args.end c.requires.runs.maximal (reached_span g.B.Width.whole P c.args.interval c.args.start c.args.end c.requires.runs c.requires.filled c.requires.span several c.with_run_above-whole.result reach) several high c.take_out.ensures

pub unwrap-requires-3 : goal.unwrap-requires-3
unwrap-requires-3 g c =
    let P = c.args.pages.now in
    let several = c.if-end-start-eq1.false in
    let o = c.requires.span.span.in_order in
    let most = c.requires.span.span.at_most in
    let reach = reaching P c.page.result.now c.args.interval c.with_run_above-whole.result (c.args.end - 1) (c.page.ensures ∙ get_or_default P (c.args.end - 1) _ [] (omega (arith, o, most))) c.with_run_above-whole.ensures in
    let Q = c.remove_from_one.new.pages in
    let high : IsPageCut P c.with_run_above-whole.result (c.args.end - 1) Q = on_ok_holds (IsPageCut P c.with_run_above-whole.result (c.args.end - 1) Q) c.remove_from_one.result c.unwrap-2.result c.unwrap-2.ensures c.remove_from_one.ensures.ok in
    c.insert_into_one-2.ensures.in_place (first_touched g.B.Width.whole P c.args.interval c.args.start c.args.end c.requires.runs c.requires.filled c.requires.span several c.with_run_above-whole.result reach Q c.take_out.new.self [] [] high c.take_out.ensures c.requires.touched)

pub returns-clause-runs : goal.returns-clause-runs
returns-clause-runs g c =
    let P = c.args.pages.now in
    let several = c.if-end-start-eq1.false in
    let o = c.requires.span.span.in_order in
    let most = c.requires.span.span.at_most in
    let reach = reaching P c.page.result.now c.args.interval c.with_run_above-whole.result (c.args.end - 1) (c.page.ensures ∙ get_or_default P (c.args.end - 1) _ [] (omega (arith, o, most))) c.with_run_above-whole.ensures in
    let Q = c.remove_from_one.new.pages in
    let high : IsPageCut P c.with_run_above-whole.result (c.args.end - 1) Q = on_ok_holds (IsPageCut P c.with_run_above-whole.result (c.args.end - 1) Q) c.remove_from_one.result c.unwrap-2.result c.unwrap-2.ensures c.remove_from_one.ensures.ok in
    let R = c.take_out.new.self in
    let (L, e, made) = on_ok_holds ((L : List (ℤ × ℤ)) × (c.insert_into_one-2.new.pages ≡ set R c.args.start L) × IsRunsOf L (Union (set_at R c.args.start) (IsBetween c.with_run_above-whole.result))) c.insert_into_one-2.result c.unwrap-3.result c.unwrap-3.ensures c.insert_into_one-2.ensures.ok in
    inserted_over g.B.Width.whole P c.args.interval c.args.start c.args.end c.requires.runs c.requires.filled c.requires.span several c.with_run_above-whole.result reach Q R c.insert_into_one-2.new.pages L high c.take_out.ensures e made

pub returns-clause-was_member : goal.returns-clause-was_member
returns-clause-was_member g c =
    let P = c.args.pages.now in
    let several = c.if-end-start-eq1.false in
    let o = c.requires.span.span.in_order in
    let most = c.requires.span.span.at_most in
    let reach = reaching P c.page.result.now c.args.interval c.with_run_above-whole.result (c.args.end - 1) (c.page.ensures ∙ get_or_default P (c.args.end - 1) _ [] (omega (arith, o, most))) c.with_run_above-whole.ensures in
    let Q = c.remove_from_one.new.pages in
    let high : IsPageCut P c.with_run_above-whole.result (c.args.end - 1) Q = on_ok_holds (IsPageCut P c.with_run_above-whole.result (c.args.end - 1) Q) c.remove_from_one.result c.unwrap-2.result c.unwrap-2.ensures c.remove_from_one.ensures.ok in
    let R = c.take_out.new.self in
    first_test g.B.Width.whole P c.args.interval c.args.start c.args.end c.requires.runs c.requires.filled c.requires.span several c.with_run_above-whole.result reach Q R [] [] high c.take_out.ensures c.unwrap-3.result
    (IfOk-at_ok (λ t. IsTrue t ↔ set_at R c.args.start c.with_run_above-whole.result.0) c.unwrap-3.ensures c.insert_into_one-2.ensures.was_member)

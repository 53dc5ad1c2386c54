use Rattle.std.proofs.Common.{◌-◌, ◌+◌, ◌++◌, Bool, ℤ, List, [], drop, refl, subst, take}
use Rattle.std.specs.Prelude.{◌↔◌, IsTrue}
use Rattle.std.proofs.lemmas.Result.{IfOk-at_ok, on_ok_weaker}
use Rattle.ivl_laws.specs.Families.{set_at}
use Rattle.ivl_laws.specs.Runs.{Covers}
use Rattle.ivl_paged.specs.Pages.{IsPageCut}
use Rattle.ivl_paged.proofs.Removing.{first_is, first_is_cut, first_there, last_is_cut, middle_fits, on_ok_holds, page_is_cut, removed_once, removed_twice}
use Rattle.ivl_paged.proofs.pages.remove_between.Goals as goal

pub returns-then-end-start-eq1-clause-ok : goal.returns-then-end-start-eq1-clause-ok
returns-then-end-start-eq1-clause-ok g c =
    on_ok_weaker c.remove_from_one.result
    (λ cut. removed_once c.args.pages.now _ c.args.interval c.args.start c.args.end c.requires.runs.maximal c.requires.span c.if-end-start-eq1.true cut)
    c.remove_from_one.ensures.ok

pub returns-then-end-start-eq1-clause-in_place : goal.returns-then-end-start-eq1-clause-in_place
returns-then-end-start-eq1-clause-in_place g c n = c.remove_from_one.ensures.in_place (page_is_cut c.args.pages.now c.args.interval c.args.start n)

pub unwrap-requires : goal.unwrap-requires
unwrap-requires g c =
    c.remove_from_one-2.ensures.in_place (last_is_cut c.args.pages.now c.args.interval c.args.start c.args.end c.requires.span c.if-end-start-eq1.false c.requires.filled)

pub take_out-requires-clause-at_most : goal.take_out-requires-clause-at_most
take_out-requires-clause-at_most g c =
    let P = c.args.pages.now in
    let Q = c.remove_from_one-2.new.pages in
    let high : IsPageCut P c.args.interval (c.args.end - 1) Q = on_ok_holds (IsPageCut P c.args.interval (c.args.end - 1) Q) c.remove_from_one-2.result c.unwrap.result c.unwrap.ensures c.remove_from_one-2.ensures.ok in
    middle_fits P Q (take (c.args.start + 1) Q ++ drop (c.args.end - 1) Q) [] c.args.interval c.args.start c.args.end c.requires.runs.maximal c.requires.span c.if-end-start-eq1.false high refl

pub remove_from_one-requires-3-clause-less : goal.remove_from_one-requires-3-clause-less
remove_from_one-requires-3-clause-less g c =
    let P = c.args.pages.now in
    let Q = c.remove_from_one-2.new.pages in
    let high : IsPageCut P c.args.interval (c.args.end - 1) Q = on_ok_holds (IsPageCut P c.args.interval (c.args.end - 1) Q) c.remove_from_one-2.result c.unwrap.result c.unwrap.ensures c.remove_from_one-2.ensures.ok in
    first_there P Q c.take_out.new.self [] c.args.interval c.args.start c.args.end c.requires.runs.maximal c.requires.span c.if-end-start-eq1.false high c.take_out.ensures

pub unwrap-was_member-requires : goal.unwrap-was_member-requires
unwrap-was_member-requires g c =
    let P = c.args.pages.now in
    let Q = c.remove_from_one-2.new.pages in
    let high : IsPageCut P c.args.interval (c.args.end - 1) Q = on_ok_holds (IsPageCut P c.args.interval (c.args.end - 1) Q) c.remove_from_one-2.result c.unwrap.result c.unwrap.ensures c.remove_from_one-2.ensures.ok in
    c.remove_from_one-3.ensures.in_place (first_is_cut P Q c.take_out.new.self [] c.args.interval c.args.start c.args.end c.requires.runs.maximal c.requires.span c.if-end-start-eq1.false high c.take_out.ensures c.requires.filled)

pub returns-clause-ok : goal.returns-clause-ok
returns-clause-ok g c =
    let P = c.args.pages.now in
    let Q = c.remove_from_one-2.new.pages in
    let R = c.take_out.new.self in
    let T = c.remove_from_one-3.new.pages in
    let high : IsPageCut P c.args.interval (c.args.end - 1) Q = on_ok_holds (IsPageCut P c.args.interval (c.args.end - 1) Q) c.remove_from_one-2.result c.unwrap.result c.unwrap.ensures c.remove_from_one-2.ensures.ok in
    let low : IsPageCut R c.args.interval c.args.start T = on_ok_holds (IsPageCut R c.args.interval c.args.start T) c.remove_from_one-3.result c.unwrap-was_member.result c.unwrap-was_member.ensures c.remove_from_one-3.ensures.ok in
    removed_twice P Q R T c.args.interval c.args.start c.args.end c.requires.runs.maximal c.requires.span c.if-end-start-eq1.false high c.take_out.ensures low

pub returns-clause-was_member : goal.returns-clause-was_member
returns-clause-was_member g c =
    let P = c.args.pages.now in
    let Q = c.remove_from_one-2.new.pages in
    let high : IsPageCut P c.args.interval (c.args.end - 1) Q = on_ok_holds (IsPageCut P c.args.interval (c.args.end - 1) Q) c.remove_from_one-2.result c.unwrap.result c.unwrap.ensures c.remove_from_one-2.ensures.ok in
    let here = first_is P Q c.take_out.new.self [] c.args.interval c.args.start c.args.end c.requires.runs.maximal c.requires.span c.if-end-start-eq1.false high c.take_out.ensures in
    subst (λ (L : List (ℤ × ℤ)). IsTrue c.unwrap-was_member.result ↔ Covers L c.args.interval.0) here
    (IfOk-at_ok (λ (t : Bool). IsTrue t ↔ set_at c.take_out.new.self c.args.start c.args.interval.0) c.unwrap-was_member.ensures c.remove_from_one-3.ensures.was_member)

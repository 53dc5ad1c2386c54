use Rattle.std.proofs.Common.{◌≡◌, ◌∙◌, [], get_or, subst, sym, ℤ, List}
use Rattle.std.proofs.lemmas.List.{get_or_default}
use Rattle.std.proofs.lemmas.Result.{on_ok_weaker}
use Rattle.ivl_laws.specs.Sets.{HasSome, IsBetween, IsSubset, Without}
use Rattle.ivl_laws.specs.Runs.{Covers}
use Rattle.ivl_paged.specs.Pages.{IsPageCut}
use Rattle.ivl_paged.proofs.Heads.{test_in_page}
use Rattle.ivl_paged.proofs.Removing.{cut_some, cut_whole}
use Rattle.ivl_paged.proofs.pages.remove_from_one.Goals as goal

pub returns-then-lies_within-clause-ok : goal.returns-then-lies_within-clause-ok
returns-then-lies_within-clause-ok g c =
    let P = c.args.pages.now in
    let i = c.args.i in
    let page : c.page-page.result.now ≡ get_or P i [] = c.page-page.ensures ∙ get_or_default P i _ [] c.requires.less in
    subst (λ (Q : List (List (ℤ × ℤ))). IsPageCut P c.args.interval i Q) (sym c.remove.ensures)
    (cut_whole P c.args.interval i (subst (λ (L : List (ℤ × ℤ)). IsSubset (Covers L) (IsBetween c.args.interval)) page (c.lies_within.ensures.all c.if-lies_within.true)))

pub returns-then-lies_within-clause-was_member : goal.returns-then-lies_within-clause-was_member
returns-then-lies_within-clause-was_member g c =
    let P = c.args.pages.now in
    let i = c.args.i in
    let page : c.set.result.now ≡ get_or P i [] = c.set.ensures.same ∙ c.page-page.ensures ∙ get_or_default P i _ [] c.requires.less in
    test_in_page P c.set.result.now i (g.B.Width.value c.lower.result) c.args.interval.0 c.contains-was_member.result page c.lower.ensures.value c.contains-was_member.ensures

pub remove_from-requires-clause-some : goal.remove_from-requires-clause-some
remove_from-requires-clause-some g c =
    let P = c.args.pages.now in
    let i = c.args.i in
    let page : c.page-page.result.now ≡ get_or P i [] = c.page-page.ensures ∙ get_or_default P i _ [] c.requires.less in
    let f = c.if-lies_within.false in
    subst (λ (L : List (ℤ × ℤ)). HasSome (Without (Covers L) (IsBetween c.args.interval))) page (c.lies_within.ensures.rest (λ t. absurd (cc)))

pub returns-clause-ok : goal.returns-clause-ok
returns-clause-ok g c =
    let P = c.args.pages.now in
    on_ok_weaker c.remove_from.result
    (λ (M, e, r). subst (λ (Q : List (List (ℤ × ℤ))). IsPageCut P c.args.interval c.args.i Q) (sym e) (cut_some P M c.args.interval c.args.i c.requires.less r))
    c.remove_from.ensures.ok

use Rattle.std.proofs.Common.{◌≡◌, ◌∙◌, [], List, ℤ, get_or, subst, sym}
use Rattle.std.proofs.lemmas.List.{get_or_default}
use Rattle.ivl_laws.specs.Families.{set_at}
use Rattle.ivl_laws.specs.Sets.{IsBetween, IsSubset}
use Rattle.ivl_laws.specs.Runs.{Covers}
use Rattle.ivl_paged.specs.Pages.{IsPageCut}
use Rattle.ivl_paged.proofs.Paging.{covers_page}
use Rattle.ivl_paged.proofs.Removing.{cut_some, cut_whole, removed_alone}
use Rattle.ivl_paged.proofs.pages.pop_from_first.Goals as goal

pub singleton-requires : goal.singleton-requires
singleton-requires g c =
    let P = c.args.pages.now in
    let v = g.B.Width.value c.head-least.result in
    let page : c.page-page.result.now ≡ get_or P 0 [] = c.page-page.ensures ∙ get_or_default P 0 _ [] c.requires.some in
    c.requires.runs.within v (covers_page P 0 v (subst (λ (L : List (ℤ × ℤ)). Covers L v) page c.head-least.ensures.0))

pub returns-then-lies_within-clause-rest : goal.returns-then-lies_within-clause-rest
returns-then-lies_within-clause-rest g c =
    let P = c.args.pages.now in
    let v = g.B.Width.value c.head-least.result in
    let page : c.page-page.result.now ≡ get_or P 0 [] = c.page-page.ensures ∙ get_or_default P 0 _ [] c.requires.some in
    let within : IsSubset (set_at P 0) (IsBetween c.singleton.result) = subst (λ (L : List (ℤ × ℤ)). IsSubset (Covers L) (IsBetween c.singleton.result)) page (c.lies_within.ensures.all c.if-lies_within.true) in
    subst (λ (Q : List (List (ℤ × ℤ))). IsPageCut P (v, v) 0 Q) (sym c.remove.ensures)
    (cut_whole P (v, v) 0 (subst (λ (p : ℤ × ℤ). IsSubset (set_at P 0) (IsBetween p)) c.singleton.ensures.value within))

pub returns-clause-rest : goal.returns-clause-rest
returns-clause-rest g c =
    let P = c.args.pages.now in
    let v = g.B.Width.value c.pop_from.result in
    let (M, e, r) = c.pop_from.ensures.rest in
    subst (λ (Q : List (List (ℤ × ℤ))). IsPageCut P (v, v) 0 Q) (sym e) (cut_some P M (v, v) 0 c.requires.some (removed_alone (set_at P 0) M v r))

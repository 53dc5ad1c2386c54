use Rattle.std.proofs.Common.{◌≡◌, ◌∙◌, ◌++◌, List, ℤ, ap, ap₂, sym, subst, get_or, take_all}
use Rattle.ivl_laws.specs.Runs.{IsMaximal}
use Rattle.ivl_paged.specs.Pages.{flattened}
use Rattle.ivl_paged.proofs.Paging.{flattened_more}
use Rattle.ivl_paged.proofs.paged_set.PagedSet.to_set.Goals as goal

pub loop-page-preserved : goal.loop-page-preserved
loop-page-preserved g c =
    let P = c.as_slice-page-items.result.now in
    let k = c.loop-page.page-index in
    let part : c.as_slice.result.now ≡ get_or P k c.page-item.result = c.as_slice.ensures.value ∙ c.iter.ensures.rest ∙ c.set.ensures.same ∙ c.page-item.is in
    c.in_ok-extend_from_slice.ensures.items ∙ ap₂ (λ (A B : List (ℤ × ℤ)). A ++ B) c.loop-page.invariant part ∙ sym (flattened_more P k c.page-item.result c.loop-page-test.true)

pub from_runs-requires : goal.from_runs-requires
from_runs-requires g c =
    let P = c.as_slice-page-items.result.now in
    let all : c.loop-page.runs.items ≡ flattened c.self.inside.pages =
    c.loop-page.invariant ∙ ap flattened (take_all c.loop-page.page-index P c.loop-page-test.false ∙ c.as_slice-page-items.ensures.value) in
    subst IsMaximal (sym all) c.self.invariant.maximal

pub returns : goal.returns
returns g c =
    let P = c.as_slice-page-items.result.now in
    c.from_runs.ensures ∙ c.loop-page.invariant ∙ ap flattened (take_all c.loop-page.page-index P c.loop-page-test.false ∙ c.as_slice-page-items.ensures.value) ∙ c.self.view_is

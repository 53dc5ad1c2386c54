use Rattle.std.proofs.Common.{◌≡◌, ◌∙◌, ap, sym, subst, take_all}
use Rattle.ivl_laws.specs.Runs.{IsRunListIn}
use Rattle.ivl_paged.specs.Pages.{flattened}
use Rattle.ivl_paged.proofs.Iterating.{pages_so_far}
use Rattle.ivl_paged.proofs.paged_set.PagedSet.try_clone.Goals as goal

pub loop-page-preserved : goal.loop-page-preserved
loop-page-preserved g c =
    ap flattened c.in_ok-push.ensures.ok
    ∙ pages_so_far c.as_slice-page-items.result.now c.loop-page.pages _ c.page-item.result c.loop-page.page-index c.loop-page-test.true c.loop-page.invariant (c.in_ok-copy_of.ensures ∙ c.page-item.is)

pub invariant_of-result : goal.invariant_of-result
invariant_of-result g c =
    let all : flattened c.loop-page.pages ≡ flattened c.self.inside.pages =
    c.loop-page.invariant ∙ ap flattened (take_all c.loop-page.page-index c.as_slice-page-items.result.now c.loop-page-test.false ∙ c.as_slice-page-items.ensures.value) in
    subst (IsRunListIn g.B.Width.whole) (sym all) c.self.invariant

pub returns : goal.returns
returns g c =
    c.loop-page.invariant ∙ ap flattened (take_all c.loop-page.page-index c.as_slice-page-items.result.now c.loop-page-test.false ∙ c.as_slice-page-items.ensures.value) ∙ c.self.view_is

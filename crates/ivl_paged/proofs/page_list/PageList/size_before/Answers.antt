use Rattle.std.proofs.Common.{◌+◌, ◌%◌, ◌^◌, ◌∙◌, ℤ, List, take, ap}
use Rattle.ivl_paged.specs.Sizes.{member_total}
use Rattle.ivl_paged.proofs.Totals.{total_before}
use Rattle.ivl_paged.proofs.page_list.PageList.size_before.Goals as goal

pub returns : goal.returns
returns g c = total_before c.self.inside.pages.items c.args.self.now c.self.inside.gone c.args.i c.total_to-all.result c.total_to.result c.self.view_is
    (c.total_to-all.ensures ∙ ap (λ (Q : List (List (ℤ × ℤ))). member_total (take (c.self.inside.gone + c.args.i) Q) % 2 ^ 128) c.as_slice-pages.ensures.value)
    (c.total_to.ensures ∙ ap (λ (Q : List (List (ℤ × ℤ))). member_total (take c.self.inside.gone Q) % 2 ^ 128) c.as_slice-pages.ensures.value)

use Rattle.std.proofs.Common.{ℤ, List, ap, sum_by, ◌∙◌}
use Rattle.ivl_laws.specs.Bounds.{width_of}
use Rattle.ivl_laws.proofs.Widths.{count_is_total_width}
use Rattle.ivl_paged.proofs.page.Page.member_count.Goals as goal

pub returns : goal.returns
returns g c = c.number.ensures.number ∙ (count_is_total_width c.self.inside.set _ c.in_whole.ensures.maximal).0 c.size.ensures ∙ ap (λ (L : List (ℤ × ℤ)). sum_by width_of L) c.self.view_is

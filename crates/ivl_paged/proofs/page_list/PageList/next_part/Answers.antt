use Rattle.std.proofs.Common.{◌<◌, ◌≤◌, ℕ, ℤ, List, ap, drop, length, subst, arith}
use Rattle.std.specs.Prelude.{MatchOption}
use Rattle.ivl_paged.specs.Longests.{HasLong, IsNextLongPart}
use Rattle.ivl_paged.proofs.Bounding.{bounded_length, part_of_pages}
use Rattle.ivl_paged.proofs.page_list.PageList.next_part.Goals as goal

pub next_with-requires : goal.next_with-requires
next_with-requires g c =
    let same = bounded_length c.self.inside.longests (drop c.self.inside.gone c.self.inside.pages.items) c.self.invariant.1 in
    let here = ap length c.rest-pages.ensures in
    omega (arith, same, here)

pub returns : goal.returns
returns g c =
    let n = g.B.Output.SizeNumber.size c.args.count in
    subst (λ (Q : List (List (ℤ × ℤ))). MatchOption c.next_with.result ((k : ℕ) → c.args.from ≤ k → k < length Q → ¬ (HasLong n Q k)) (IsNextLongPart n Q c.args.from)) c.self.view_is
    (part_of_pages c.self.inside.longests (drop c.self.inside.gone c.self.inside.pages.items) c.args.from n c.next_with.result c.self.invariant.1 c.next_with.ensures)

use Rattle.std.proofs.Common.{◌+◌, ◌-◌, ◌≡◌, ℕ, ℤ, List, drop, subst, arith}
use Rattle.ivl_laws.proofs.Places.{IsMaximal-drop, IsMaximal-take}
use Rattle.ivl_places.specs.Places.{StartAbove}
use Rattle.ivl_paged.proofs.PageSearch.{above_from_part, at_most_in_part, starts_from_part}
use Rattle.ivl_paged.proofs.page_search.starts_up_to.Goals as goal

pub count_up_to-requires-2 : goal.count_up_to-requires-2
count_up_to-requires-2 g c =
    let first = c.row_up_to-first.result in
    IsMaximal-take (drop first c.args.runs.now) (first + 16 - first) (IsMaximal-drop c.args.runs.now first c.requires)

pub returns-clause-starts : goal.returns-clause-starts
returns-clause-starts g c =
    let L : List (ℤ × ℤ) = c.args.runs.now in
    let first = c.row_up_to-first.result in
    let n = first + 16 - first in
    starts_from_part (g.B.Width.value c.args.value) L first n c.count_up_to-2.result (at_most_in_part (drop first L) n c.count_up_to-2.result c.count_up_to-2.ensures.at_most) c.row_up_to-first.ensures.starts c.count_up_to-2.ensures.starts

pub returns-clause-above : goal.returns-clause-above
returns-clause-above g c =
    let v : ℤ = g.B.Width.value c.args.value in
    let L : List (ℤ × ℤ) = c.args.runs.now in
    let first = c.row_up_to-first.result in
    let n = first + 16 - first in
    let same : first + 16 ≡ first + n = omega arith in
    above_from_part v L first n c.count_up_to-2.result (at_most_in_part (drop first L) n c.count_up_to-2.result c.count_up_to-2.ensures.at_most) c.count_up_to-2.ensures.above
    (subst (λ (j : ℕ). StartAbove v (drop j L)) same c.row_up_to-first.ensures.above)

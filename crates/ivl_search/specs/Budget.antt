-- How many nodes suffice for a search. Each node cuts the domains in two parts that have points, so there are no more leaves than points.
--     points_of whole sets      how many points there are: the product of how many members each set has within the range
--     nodes_each rules      how many nodes domains take at most until they lose a member: one, and one more for every
--         500 constraints or rules of the list
--     nodes_enough whole rules sets      so many nodes suffice to find all solutions: twice the number of points less
--         one, times `nodes_each`; where there is no point, as many as for one
--     nodes_for_best whole rules sets      so many suffice to find the best solution: twice the number of points times
--         `nodes_each`, and one; where there is no point, as many as for one
use Rattle.std.specs.Prelude.{ℕ, ◌+◌, ◌*◌, ◌-◌, ◌/◌, ℤ, List, [], ◌∷◌, length, max}
use Rattle.ivl_laws.specs.Bounds.{width_of}
use Rattle.ivl_store.specs.Measure.{count_from}

abbrev pub points_of : ℤ × ℤ → List (List (ℤ × ℤ)) → ℕ
points_of whole [] = 1
points_of whole (s ∷ sets) = count_from s whole.0 (width_of whole) * points_of whole sets

abbrev pub nodes_each : {A : Type 0} → List A → ℕ
nodes_each rules = length rules / 500 + 1

abbrev pub nodes_enough : {A : Type 0} → ℤ × ℤ → List A → List (List (ℤ × ℤ)) → ℕ
nodes_enough whole rules sets = (2 * max 1 (points_of whole sets) - 1) * nodes_each rules

abbrev pub nodes_for_best : {A : Type 0} → ℤ × ℤ → List A → List (List (ℤ × ℤ)) → ℕ
nodes_for_best whole rules sets = 2 * max 1 (points_of whole sets) * nodes_each rules + 1

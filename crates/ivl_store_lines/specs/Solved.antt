-- What is printed of the solutions of the rules over the domains.
--     point_line names point      a solution: the name and the number of each variable, with spaces between
--     point_lines names points      a line for each solution
--     end_line count end      whether the solutions found are all, by how many they are
--     count_line count end      how many solutions there are, or so many at least where others may be
--     HasNodes needed state      one node for each 500 of the limit are as many
--     IsSolved most state text      the text shows solutions, none of them twice and no more than the nodes, and says how their search ended
--     IsCounted state text      the text says how many solutions there are, no more than the nodes, and how their search ended
--     IsExtremeAt extreme variable solves point      no solution gives the variable a smaller number than the point
--         does, or a greater one, as the extreme is the least or the greatest
--     IsBest best name state found end      the point found is the best solution for the variable with this name, if the search ended with all, and a
--                       solution in any case
--     ShowsBest best name state text      the text shows such a point, and says how the search ended
--     best_text names found end      the point that was found, if any, and how the search ended
use Rattle.std.specs.Prelude.{◌≡◌, ◌≢◌, ◌≤◌, ◌==◌, ◌^◌, ◌-◌, ◌/◌, IfNone, IfSome, Option, None, Some, ℕ, ℤ, List, [], ◌∷◌, ◌++◌, codes, decimal, if◌then◌else◌, length}
use Rattle.std.specs.Fmt.{signed_decimal}
use Rattle.ivl_lines.specs.Escapes.{escaped}
use Rattle.ivl_lines.specs.Lines.{with_newline}
use Rattle.ivl_search.specs.declared.search.End.{End}
use Rattle.ivl_search.specs.declared.search.End.TheVariants.{All, Solutions, Nodes}
use Rattle.ivl_search.specs.Budget.{nodes_enough, nodes_for_best}
use Rattle.ivl_search.specs.Points.{Finds, IsGreatestAt, IsLeastAt, SolvesRules}
use Rattle.ivl_store_lines.specs.declared.solve.Extreme.{Extreme}
use Rattle.ivl_store_lines.specs.declared.solve.Extreme.TheVariants.{Least, Greatest}
use Rattle.ivl_store_lines.specs.Solving.{HasEmptyDomain, State, domain_range, variable_named}

-- each variable with its number, after a separator, which is a space from the second on
abbrev pub entries : List ℕ → List (List ℕ) → List ℤ → List ℕ
entries separator [] numbers = []
entries separator (name ∷ names) [] = []
entries separator (name ∷ names) (number ∷ numbers) = separator ++ (escaped name ++ (codes " " ++ signed_decimal number)) ++ entries (codes " ") names numbers

abbrev pub point_line : List (List ℕ) → List ℤ → List ℕ
point_line names point = with_newline (entries [] names point)

abbrev pub point_lines : List (List ℕ) → List (List ℤ) → List ℕ
point_lines names [] = []
point_lines names (point ∷ points) = point_line names point ++ point_lines names points

abbrev pub end_text : ℕ → End → List ℕ
end_text count All = if count == 0 then codes "no solution" else codes "ok"
end_text count Solutions = codes "more possible"
end_text count Nodes = codes "unfinished"

abbrev pub end_line : ℕ → End → List ℕ
end_line count end = with_newline (end_text count end)

-- all that there are, or so many at least
abbrev pub count_line : ℕ → End → List ℕ
count_line count All = codes "count " ++ with_newline (decimal count)
count_line count Solutions = codes "count at least " ++ with_newline (decimal count)
count_line count Nodes = codes "count at least " ++ with_newline (decimal count)

abbrev pub HasNodes : ℕ → State → Type 0
HasNodes needed state = needed ≤ state.limit / 500

pub record IsSolved (most : ℕ) (state : State) (text : List ℕ) : Type 0 where
  pub points : List (List ℤ)
  pub end : End
  pub finds : Finds (SolvesRules state.rules state.domains) points end
  pub at_most : length points ≤ most
  pub visited : length points ≤ state.limit / 500
  pub full : end ≡ Solutions → length points ≡ most
  pub known : HasEmptyDomain state → end ≡ All
  pub enough : HasNodes (nodes_enough domain_range state.rules state.domains) state → end ≢ Nodes
  pub shown : text ≡ point_lines state.names points ++ end_line (length points) end

pub record IsCounted (state : State) (text : List ℕ) : Type 0 where
  pub points : List (List ℤ)
  pub end : End
  pub finds : Finds (SolvesRules state.rules state.domains) points end
  pub visited : length points ≤ state.limit / 500
  pub full : end ≡ Solutions → length points ≡ 2 ^ 64 - 1
  pub known : HasEmptyDomain state → end ≡ All
  pub enough : HasNodes (nodes_enough domain_range state.rules state.domains) state → end ≢ Nodes
  pub shown : text ≡ count_line (length points) end ++ end_line (length points) end

abbrev pub IsExtremeAt : Extreme → ℕ → (List ℤ → Type 0) → List ℤ → Type 0
IsExtremeAt Least = λ variable solves point. IsLeastAt variable solves point
IsExtremeAt Greatest = λ variable solves point. IsGreatestAt variable solves point

abbrev pub best_text : List (List ℕ) → Option (List ℤ) → End → List ℕ
best_text names None end = end_line 0 end
best_text names (Some point) end = point_line names point ++ end_line 1 end

-- what `least` and `greatest` of a search promise; the search does not end because it found enough
pub record IsBest (best : ℕ → (List ℤ → Type 0) → List ℤ → Type 0) (name : List ℕ) (state : State) (found : Option (List ℤ)) (end : End) : Type 0 where
  pub variable : ℕ
  pub named : variable_named state.names name ≡ Some variable
  pub sound : IfSome found (SolvesRules state.rules state.domains)
  pub visited : IfSome found (λ _. 1 ≤ state.limit / 500)
  pub is_best : end ≡ All → IfSome found (best variable (SolvesRules state.rules state.domains))
  pub none : end ≡ All → IfNone found ((point : List ℤ) → ¬ (SolvesRules state.rules state.domains point))
  pub searched : end ≢ Solutions
  pub known : HasEmptyDomain state → end ≡ All
  pub enough : HasNodes (nodes_for_best domain_range state.rules state.domains) state → end ≢ Nodes

abbrev pub ShowsBest : (ℕ → (List ℤ → Type 0) → List ℤ → Type 0) → List ℕ → State → List ℕ → Type 0
ShowsBest best name state text = (found : Option (List ℤ)) × (end : End) × IsBest best name state found end × (text ≡ best_text state.names found end)

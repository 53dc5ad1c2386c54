-- The lines of points, and the points that a search found.
use Rattle.std.proofs.Common.{◌≡◌, ◌≢◌, ◌<◌, ◌≤◌, ◌+◌, ◌/◌, ◌++◌, ◌∷◌, [], ℕ, ℤ, List, length, get_or, map, take, ap, sym, ◌∙◌, append_assoc, refl, subst, Option, None, Some}
use Rattle.std.specs.Prelude.{All, Contains, IfNone, IfSome, option_map}
use Rattle.std.proofs.lemmas.List.{append-nil, map-append, map-id, take_more}
use Rattle.ivl_search.specs.declared.search.End.{End}
use Rattle.ivl_search.specs.declared.search.End.TheVariants.{All as AllFound, Nodes, Solutions}
use Rattle.ivl_search.specs.Budget.{nodes_for_best}
use Rattle.ivl_search.specs.Points.{EachOnce, Finds, SolvesRules}
use Rattle.ivl_rules.specs.declared.rules.Rule.{Rule}
use Rattle.ivl_store_lines.specs.Solved.{IsBest, point_line, point_lines}
use Rattle.ivl_store_lines.specs.Solving.{HasEmptyDomain, State, domain_range, variable_named}
use Rattle.ivl_store_lines.proofs.Nothing.{none_solves, not_used_up}

one_more : (names : List (List ℕ)) (points : List (List ℤ)) (point : List ℤ) → point_lines names (points ++ point ∷ []) ≡ point_lines names points ++ point_line names point
one_more names [] point = append-nil (point_line names point)
one_more names (first ∷ points) point = ap (λ (lines : List ℕ). point_line names first ++ lines) (one_more names points point) ∙ sym (append_assoc (point_line names first) (point_lines names points) (point_line names point))

pub lines_so_far : {V : Type 0} → (numbers : V → List ℤ) (names : List (List ℕ)) (points : List V) (i : ℕ) (point : V) → i < length points → point ≡ get_or points i point
    → point_lines names (map numbers (take (i + 1) points)) ≡ point_lines names (map numbers (take i points)) ++ point_line names (numbers point)
lines_so_far numbers names points i point below is =
    let more = ap (λ vs. map numbers vs) (take_more points i point below) ∙ map-append numbers (take i points) (get_or points i point ∷ []) in
    ap (λ ps. point_lines names ps) more
    ∙ one_more names (map numbers (take i points)) (numbers (get_or points i point))
    ∙ ap (λ v. point_lines names (map numbers (take i points)) ++ point_line names (numbers v)) (sym is)

-- a number of i64 is its own value
plain : {V : Type 0} → (numbers : V → List ℤ) (points : List V) → map (λ point. map (λ (x : ℤ). x) (numbers point)) points ≡ map numbers points
plain numbers [] = refl
plain numbers (point ∷ points) = rw (map-id (numbers point)) (ap (λ more. numbers point ∷ more) (plain numbers points))

pub finds_plain : {V : Type 0} → (numbers : V → List ℤ) (points : List V) (solves : List ℤ → Type 0) (end : End)
    → All solves (map (λ point. map (λ (x : ℤ). x) (numbers point)) points)
    → EachOnce (map (λ point. map (λ (x : ℤ). x) (numbers point)) points)
    → (end ≡ AllFound → (point : List ℤ) → solves point → Contains (map (λ point. map (λ (x : ℤ). x) (numbers point)) points) point)
    → Finds solves (map numbers points) end
finds_plain numbers points solves end sound once complete =
    subst (λ found. Finds solves found end) (plain numbers points) (record { sound = sound; once = once; complete = complete })

-- ---- a point that may have been found

some_plain : {V : Type 0} → (numbers : V → List ℤ) (P : List ℤ → Type 0) (found : Option V) → IfSome found (λ point. P (map (λ (x : ℤ). x) (numbers point))) → IfSome (option_map numbers found) P
some_plain numbers P None p = p
some_plain numbers P (Some point) p = subst P (map-id (numbers point)) p

none_plain : {V : Type 0} → (numbers : V → List ℤ) (P : Type 0) (found : Option V) → IfNone found P → IfNone (option_map numbers found) P
none_plain numbers P None p = p
none_plain numbers P (Some point) p = p

some_visited : {V : Type 0} → (numbers : V → List ℤ) (found : Option V) (solutions nodes : ℕ) → IfSome found (λ _. (1 ≤ solutions) × (1 ≤ nodes)) → IfSome (option_map numbers found) (λ _. 1 ≤ nodes)
some_visited numbers None solutions nodes h = tt
some_visited numbers (Some point) solutions nodes h = h.1

-- what a search found is told
pub best_told : {V : Type 0} → (best : ℕ → (List ℤ → Type 0) → List ℤ → Type 0) (numbers : V → List ℤ) (name : List ℕ) (old : State) (variable : ℕ)
    (rules : List Rule) (domains : List (List (ℤ × ℤ))) (found : Option V) (end : End) (nodes solutions : ℕ)
    → variable_named old.names name ≡ Some variable → rules ≡ old.rules → domains ≡ old.domains
    → IfSome found (λ point. SolvesRules rules domains (map (λ (x : ℤ). x) (numbers point)))
    → (end ≡ AllFound → IfSome found (λ point. best variable (SolvesRules rules domains) (map (λ (x : ℤ). x) (numbers point))))
    → (end ≡ AllFound → IfNone found ((point : List ℤ) → ¬ (SolvesRules rules domains point)))
    → IfSome found (λ _. (1 ≤ solutions) × (1 ≤ nodes)) → end ≢ Solutions → ¬ (HasEmptyDomain old) → nodes ≡ old.limit / 500 → (end ≡ Nodes → nodes < nodes_for_best domain_range rules domains)
    → IsBest best name old (option_map numbers found) end
best_told best numbers name old variable rules domains found end nodes solutions named same_rules same_domains sound is_best none visited searched filled as_many enough =
    record {
      variable = variable;
      named = named;
      sound = rw (← same_rules, ← same_domains) (some_plain numbers (SolvesRules rules domains) found sound);
      is_best = (λ every. rw (← same_rules, ← same_domains) (some_plain numbers (best variable (SolvesRules rules domains)) found (is_best every)));
      none = (λ every. rw (← same_rules, ← same_domains) (none_plain numbers ((point : List ℤ) → ¬ (SolvesRules rules domains point)) found (none every)));
      visited = subst (λ n. IfSome (option_map numbers found) (λ _. 1 ≤ n)) as_many (some_visited numbers found solutions nodes visited);
      searched = searched;
      known = (λ e. absurd (filled e));
      enough = not_used_up (nodes_for_best domain_range) old rules domains nodes end same_rules same_domains as_many enough;
    }

-- no point, where a domain is empty
pub best_none : {V : Type 0} → (best : ℕ → (List ℤ → Type 0) → List ℤ → Type 0) (numbers : V → List ℤ) (name : List ℕ) (old : State) (variable : ℕ) (found : Option V) (end : End)
    → variable_named old.names name ≡ Some variable → HasEmptyDomain old → found ≡ None → end ≡ AllFound → IsBest best name old (option_map numbers found) end
best_none best numbers name old variable found end named empty is all = rw (is, all) (record {
  variable = variable;
  named = named;
  sound = tt;
  visited = tt;
  is_best = (λ _. tt);
  none = (λ _ point s. none_solves old.rules old.domains empty point s);
  searched = (λ e. absurd (cc));
  known = (λ _. refl);
  enough = (λ _ e. absurd (cc));
})

-- The answer to a line, by what was carried out or told.
use Rattle.std.proofs.Common.{◌≡◌, ◌≢◌, ◌∙◌, ◌≤◌, ◌^◌, ◌-◌, ◌/◌, ℕ, ℤ, List, [], ◌++◌, length, map, get_or, Option, None, Some, inl, inr, refl, sym, ap}
use Rattle.std.specs.Prelude.{IsSome, IsTrue}
use Rattle.std.proofs.lemmas.List.{length-map}
use Rattle.ivl_search.specs.declared.search.End.{End}
use Rattle.ivl_search.specs.declared.search.End.TheVariants.{All as AllFound, Nodes, Solutions}
use Rattle.ivl_search.specs.Budget.{nodes_enough}
use Rattle.ivl_search.specs.Points.{Finds, SolvesRules}
use Rattle.ivl_store_lines.specs.declared.solve.Extreme.{Extreme}
use Rattle.ivl_store_lines.specs.declared.solve.Extreme.TheVariants.{Least, Greatest}
use Rattle.ivl_store_lines.specs.Answering.{AnswersAsked, AnswersRead}
use Rattle.ivl_store_lines.specs.Faults.{Told}
use Rattle.ivl_store_lines.specs.Printed.{domain_line, domain_lines, state_line, told_line}
use Rattle.ivl_store_lines.specs.Requests.{Asked, asked_extreme, show, solve, count, least, greatest, needs_list}
use Rattle.ivl_store_lines.specs.RuleForms.{why_no_request}
use Rattle.ivl_store_lines.specs.Solved.{HasNodes, IsBest, IsExtremeAt, best_text, count_line, end_line, point_lines}
use Rattle.ivl_store_lines.specs.Solving.{HasEmptyDomain, IsUndone, State, fault_of, domain_range, variable_named}
use Rattle.ivl_store_lines.proofs.Refusing.{no_memory_for, unchanged}

pub shown_reply : (asked : Asked) (old : State) → asked ≡ show None → AnswersAsked old asked (domain_lines old.names old.domains ++ state_line old.domains old.progress) old
shown_reply asked old e = rw e (inl (refl, refl, refl))

-- one variable
pub variable_shown : (name : List ℕ) (old : State) (domain : List (ℤ × ℤ)) → ((i : ℕ) × (variable_named old.names name ≡ Some i) × (domain ≡ get_or old.domains i []))
    → AnswersAsked old (show (Some name)) (domain_line name domain ++ state_line old.domains old.progress) old
variable_shown name old domain (i, named, is) = inl (rw named refl, refl, rw (named, is) refl)

pub refused : (told : Option Told) (asked : Asked) (old new : State) → told ≡ fault_of asked old → IsUndone told old new → AnswersAsked old asked (told_line told) new
refused None asked old new e same = inr (inr (refl, same))
refused (Some why) asked old new e same = inr (inl (why, sym e, refl, same))

pub no_request : (told : Option Told) (name : List ℕ) (words : List (List ℕ)) (o : Option Asked) (old : State) → (IsSome told → o ≡ None) → (IsSome told → told ≡ Some (why_no_request name words)) → (told ≡ None → IsTrue (needs_list name words)) → AnswersRead old name words o (told_line told) old
no_request (Some why) name words o old none fault memory = rw (none refl) (inl (ap (λ (t : Option Told). told_line t) (fault refl)), refl)
no_request None name words None old none fault memory = (inr (memory refl, refl), refl)
no_request None name words (Some asked) old none fault memory = no_memory_for asked old

pub solved : {V : Type 0} → (numbers : V → List ℤ) (most : ℕ) (old : State) (names : List (List ℕ)) (points : List V) (end : End)
    → names ≡ old.names → Finds (SolvesRules old.rules old.domains) (map numbers points) end → length points ≤ most → length points ≤ old.limit / 500
    → (end ≡ Solutions → length points ≡ most) → (HasEmptyDomain old → end ≡ AllFound) → (HasNodes (nodes_enough domain_range old.rules old.domains) old → end ≢ Nodes)
    → AnswersAsked old (solve most) (point_lines names (map numbers points) ++ end_line (length points) end) old
solved numbers most old names points end named finds few visited full known enough =
    inl (
      refl,
      refl,
      record {
        points = map numbers points;
        end = end;
        finds = finds;
        at_most = rw (length-map points numbers) few;
        visited = rw (length-map points numbers) visited;
        full = (λ stopped. length-map points numbers ∙ full stopped);
        known = known;
        enough = enough;
        shown = rw (named, length-map points numbers) refl;
      },
    )

pub counted : (old : State) (points : List (List ℤ)) (found : ℕ) (end : End)
    → length points ≡ found → Finds (SolvesRules old.rules old.domains) points end → found ≤ old.limit / 500 → (end ≡ Solutions → found ≡ 2 ^ 64 - 1)
    → (HasEmptyDomain old → end ≡ AllFound) → (HasNodes (nodes_enough domain_range old.rules old.domains) old → end ≢ Nodes)
    → AnswersAsked old count (count_line found end ++ end_line found end) old
counted old points found end as_many finds visited full known enough =
    inl (
      refl,
      refl,
      record {
        points = points;
        end = end;
        finds = finds;
        visited = rw as_many visited;
        full = (λ stopped. as_many ∙ full stopped);
        known = known;
        enough = enough;
        shown = ap (λ n. count_line n end ++ end_line n end) (sym as_many);
      },
    )

pub best_shown : (extreme : Extreme) (name : List ℕ) (old : State) (names : List (List ℕ)) (found : Option (List ℤ)) (end : End)
    → names ≡ old.names → IsBest (IsExtremeAt extreme) name old found end → AnswersAsked old (asked_extreme extreme name) (best_text names found end) old
best_shown Least name old names found end named best = inl (rw best.named refl, refl, (found, end, best, rw named refl))
best_shown Greatest name old names found end named best = inl (rw best.named refl, refl, (found, end, best, rw named refl))

pub best_refused : (extreme : Extreme) (told : Option Told) (name : List ℕ) (old : State) → told ≡ fault_of (show (Some name)) old → AnswersAsked old (asked_extreme extreme name) (told_line told) old
best_refused Least told name old e = refused told (least name) old old e (unchanged told old old refl)
best_refused Greatest told name old e = refused told (greatest name) old old e (unchanged told old old refl)

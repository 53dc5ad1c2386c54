-- The text of a state.
use Rattle.std.proofs.Common.{◌≡◌, ℤ, true, Bool, List, [], inl, inr, sym, ap, ◌∙◌}
use Rattle.std.specs.Prelude.{Any, IsTrue, ◌↔◌}
use Rattle.std.specs.List.{list_any}
use Rattle.std.proofs.lemmas.Bool.{cases_Bool, true≢false}
use Rattle.std.proofs.lemmas.List.Folds.{Any-from_list_any, list_any-from_Any}
use Rattle.ivl_store.specs.Posts.{has_no_run}
use Rattle.ivl_store.proofs.Empties.{no_run_from}

-- whether some list has no run, by its test
pub some_empty : (b : Bool) (Ls : List (List (ℤ × ℤ))) → (IsTrue b ↔ Any (λ L. L ≡ []) Ls) → list_any has_no_run Ls ≡ b
some_empty b Ls same =
    elim (cases_Bool (list_any has_no_run Ls)) [
      | inl some ↦
          let found = Any-from_list_any has_no_run Ls some in
          some ∙ sym (same.1 (found.0, found.1, found.2, found.3, no_run_from found.1 found.4))
      | inr none ↦ elim (cases_Bool b) [
        | inl holds ↦
            let found = same.0 holds in
            let some : list_any has_no_run Ls ≡ true = list_any-from_Any has_no_run Ls (found.0, found.1, found.2, found.3, ap (λ (L : List (ℤ × ℤ)). has_no_run L) found.4) in
            absurd (true≢false (sym some ∙ none))
        | inr fails ↦ none ∙ sym fails
      ]
    ]

-- What is left where a line is refused.
use Rattle.std.proofs.Common.{◌≡◌, ℕ, List, Option, None, Some, inr, refl, subst, sym}
use Rattle.ivl_network.specs.Network.{RulesState}
use Rattle.ivl_network.specs.Queue.{unsettled_count}
use Rattle.ivl_store_lines.specs.declared.progress.Progress.{Progress}
use Rattle.ivl_store_lines.specs.Answering.{AnswersAsked}
use Rattle.ivl_store_lines.specs.Faults.{Told}
use Rattle.ivl_store_lines.specs.Printed.{told_line}
use Rattle.ivl_store_lines.specs.Requests.{Asked}
use Rattle.ivl_store_lines.specs.Solving.{IsUndone, IsTakenBack, State}
use Rattle.ivl_store_lines.proofs.Adding.{state}

-- nothing changed
pub back_same : (old new : State) → new ≡ old → IsTakenBack old new
back_same old new e = subst (IsTakenBack old) (sym e) (record { others = refl; all = (λ none. none) })

pub unchanged : (told : Option Told) (old new : State) → new ≡ old → IsUndone told old new
unchanged (Some why) old new e = e
unchanged None old new e = back_same old new e

-- the network was taken back
pub back : (names : List (List ℕ)) (limit : ℕ) (progress : Progress) (before after : RulesState) (old : State) → state names before limit progress ≡ old
    → after.domains ≡ before.domains → after.rules ≡ before.rules → (unsettled_count before.settled ≡ 0 → unsettled_count after.settled ≡ 0)
    → IsTakenBack old (state names after limit progress)
back names limit progress before after old is domains rules all =
    subst (λ (s : State). IsTakenBack s (state names after limit progress)) is (record { others = rw (domains, rules) refl; all = all })

-- a request that changes nothing found no memory
pub no_memory_for : (asked : Asked) (old : State) → AnswersAsked old asked (told_line None) old
no_memory_for asked old = inr (inr (refl, back_same old old refl))

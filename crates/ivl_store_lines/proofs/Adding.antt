-- One variable more.
use Rattle.std.proofs.Common.{◌≡◌, ◌∙◌, ℕ, ℤ, ◌+◌, List, [], ◌∷◌, ◌++◌, length, refl, ap, sym, subst}
use Rattle.std.specs.Prelude.{String}
use Rattle.std.specs.Global.{Global}
use Rattle.std.proofs.lemmas.List.{length_push}
use Rattle.ivl_network.specs.Network.{RulesState}
use Rattle.ivl_store_lines.specs.declared.progress.Progress.{Progress}
use Rattle.ivl_store_lines.specs.Solving.{State}

module _ (names pushed : List (String Global)) (key : String Global) (before after : RulesState) (domain : List (ℤ × ℤ))
    (named : pushed ≡ names ++ key ∷ []) (added : after ≡ record { domains = before.domains ++ domain ∷ []; rules = before.rules; settled = before.settled; marked = before.marked; were_settled = before.were_settled }) where
  domains_after : after.domains ≡ before.domains ++ domain ∷ []
  domains_after = ap (λ (n : RulesState). n.domains) added

  pub one_each_added : length names ≡ length before.domains → length pushed ≡ length after.domains
  one_each_added one_each =
      ap (λ (keys : List (String Global)). length keys) named ∙ length_push names key ∙ ap (λ (n : ℕ). n + 1) one_each
      ∙ sym (ap (λ (Ls : List (List (ℤ × ℤ))). length Ls) domains_after ∙ length_push before.domains domain)

abbrev pub state : List (List ℕ) → RulesState → ℕ → Progress → State
state names network limit progress = record { names = names; domains = network.domains; rules = network.rules; settled = network.settled; limit = limit; progress = progress }

-- the state that a contract sees
pub state_added : (names named : List (List ℕ)) (name : List ℕ) (before after : RulesState) (domain : List (ℤ × ℤ)) (limit : ℕ) (progress : Progress) (old : State)
    → state names before limit progress ≡ old → named ≡ names ++ name ∷ [] → after ≡ record { domains = before.domains ++ domain ∷ []; rules = before.rules; settled = before.settled; marked = before.marked; were_settled = before.were_settled }
    → state named after limit progress ≡ record { names = old.names ++ name ∷ []; domains = old.domains ++ domain ∷ []; rules = old.rules; settled = old.settled; limit = old.limit; progress = old.progress }
state_added names named name before after domain limit progress old is named_is added_is =
    subst (λ (s : State). state named after limit progress ≡ record { names = s.names ++ name ∷ []; domains = s.domains ++ domain ∷ []; rules = s.rules; settled = s.settled; limit = s.limit; progress = s.progress }) is
    (rw (named_is, added_is) refl)

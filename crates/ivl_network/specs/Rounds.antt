-- What narrowing by a list of rules leaves of a family of sets.
--     narrowed_by_rules rules sets      the family narrowed by each rule in turn
--     IsLeftByRules rules before after      narrowing by each rule in turn leaves these members
use Rattle.std.specs.Prelude.{◌↔◌, ℕ, ℤ, List, [], ◌∷◌}
use Rattle.ivl_rules.specs.declared.rules.Rule.{Rule}
use Rattle.ivl_rules.specs.Rules.{NarrowedBy}

abbrev pub narrowed_by_rules : List Rule → (ℕ → ℤ → Type 0) → ℕ → ℤ → Type 0
narrowed_by_rules [] sets = sets
narrowed_by_rules (rule ∷ rules) sets = narrowed_by_rules rules (NarrowedBy rule sets)

abbrev pub IsLeftByRules : List Rule → (ℕ → ℤ → Type 0) → (ℕ → ℤ → Type 0) → Type 0
IsLeftByRules rules before after = (i : ℕ) (v : ℤ) → after i v ↔ narrowed_by_rules rules before i v

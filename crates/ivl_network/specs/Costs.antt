-- What narrowings by rules count for.
--     runs_of_rule rule sets      what narrowing by the rule may look at: of a sum the pairs of runs of two of its sets; of a rule
--         of two variables, which has its second at y and at z, the runs of both; 2^64 - 1 at most
--     cost_of_rule rule sets      one, and one more for each 256 of these
--     IsOneRuleNarrowing rule before after      narrowing by the rule makes the first sets the last
--     RuleCosts by cost before after      narrowing by these rules, one after the other, does, and counts for so many in all
--     AreRulesCounted rules by cost before after      so, and each of them is one of the list
use Rattle.std.specs.Prelude.{◌≡◌, ◌↔◌, ◌+◌, ◌-◌, ◌/◌, ◌^◌, ℕ, ℤ, List, [], ◌∷◌, All, Contains, eqb, if◌then◌else◌, length, min, slice_index_or}
use Rattle.ivl_laws.specs.Families.{set_at}
use Rattle.ivl_store.specs.Costs.{pairs_of}
use Rattle.ivl_rules.specs.declared.rules.Rule.{Rule}
use Rattle.ivl_rules.specs.Rules.{NarrowedBy, places}

unfoldable pub runs_of_rule : Rule → List (List (ℤ × ℤ)) → ℕ
runs_of_rule rule sets =
    let c = places rule in
    if eqb c.y c.z then min (length (slice_index_or sets c.x []) + length (slice_index_or sets c.y [])) (2 ^ 64 - 1) else pairs_of c sets

unfoldable pub cost_of_rule : Rule → List (List (ℤ × ℤ)) → ℕ
cost_of_rule rule sets = runs_of_rule rule sets / 256 + 1

abbrev pub IsOneRuleNarrowing : Rule → List (List (ℤ × ℤ)) → List (List (ℤ × ℤ)) → Type 0
IsOneRuleNarrowing rule before after = (i : ℕ) (v : ℤ) → set_at after i v ↔ NarrowedBy rule (set_at before) i v

abbrev pub RuleCosts : List Rule → ℕ → List (List (ℤ × ℤ)) → List (List (ℤ × ℤ)) → Type 0
RuleCosts [] cost before after = (cost ≡ 0) × (after ≡ before)
RuleCosts (rule ∷ by) cost before after =
    (next : List (List (ℤ × ℤ))) × (rest : ℕ) × IsOneRuleNarrowing rule before next × RuleCosts by rest next after × (cost ≡ cost_of_rule rule before + rest)

pub record AreRulesCounted (rules by : List Rule) (cost : ℕ) (before after : List (List (ℤ × ℤ))) : Type 0 where
  pub each : All (Contains rules) by
  pub costs : RuleCosts by cost before after

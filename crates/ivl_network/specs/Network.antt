-- What a network of rules keeps, and what its calls do to that.
--     RulesState      the domain of each variable, the rules so far, whether each of these is settled, so that it need not be looked at again, what the
--         first two were at each mark, and whether all rules were settled at it
--     IsUnsettledIn rules flags rule      the rule is one of those whose flag is not set
--     IsWaiting network rule      the rule is one of those that are not settled
--     work_of_rules whole network      how many narrowings are left at most, of which each removes a member or leaves one rule fewer to look at
--     IsSoundRules domains rules flags      the rules name different variables, which have a domain; narrowing by one whose flag is set changes nothing
--     IsRuleRequired rule old new      the rule is among the new ones, at the end, or where it was if it was among the old ones
--     IsCutAt i S before after      variable i keeps its members that are in S, and the others keep all
--     AreRuleNarrowings rules count before after      so many narrowings, each by one of the rules, leave these members
--     AreNarrowedTo whole before count after      so, and so many fewer are left of them
--     IsEmptiedLast rules count before after      so, and all but the last of them left no domain empty
use Rattle.std.specs.Prelude.{◌≡◌, ◌↔◌, ◌<◌, ◌≤◌, ◌⊎◌, ◌++◌, ◌∷◌, [], ◌+◌, ◌*◌, ℕ, ℤ, Bool, true, false, List, All, Any, Contains, length, slice_index_or}
use Rattle.ivl_laws.specs.Families.{set_at}
use Rattle.ivl_store.specs.Measure.{total}
use Rattle.ivl_rules.specs.declared.rules.Rule.{Rule}
use Rattle.ivl_rules.specs.Rules.{AreDifferent}
use Rattle.ivl_network.specs.Families.{ArePresent}
use Rattle.ivl_network.specs.Queue.{unsettled_count}
use Rattle.ivl_network.specs.Rounds.{IsLeftByRules}
use Rattle.ivl_network.specs.Settled.{AreSettledRules}
use Rattle.ivl_network.specs.Trail.{RulesPast}

pub record RulesState : Type 0 where
  pub domains : List (List (ℤ × ℤ))
  pub rules : List Rule
  pub settled : List Bool
  pub marked : List RulesPast
  pub were_settled : List Bool

abbrev pub work_of_rules : ℤ × ℤ → RulesState → ℕ
work_of_rules whole network = total whole network.domains * (length network.rules + 1) + unsettled_count network.settled

abbrev pub IsUnsettledIn : List Rule → List Bool → Rule → Type 0
IsUnsettledIn rules flags rule = (k : ℕ) × (k < length rules) × (slice_index_or rules k rule ≡ rule) × (slice_index_or flags k true ≡ false)

abbrev pub IsWaiting : RulesState → Rule → Type 0
IsWaiting network rule = IsUnsettledIn network.rules network.settled rule

pub record IsSoundRules (domains : List (List (ℤ × ℤ))) (rules : List Rule) (flags : List Bool) : Type 0 where
  pub different : All AreDifferent rules
  pub present : All (ArePresent (length domains)) rules
  pub settled : AreSettledRules rules flags (set_at domains)

abbrev pub IsRuleRequired : Rule → List Rule → List Rule → Type 0
IsRuleRequired rule old new = (Contains old rule × (new ≡ old)) ⊎ ((¬ (Contains old rule)) × (new ≡ old ++ rule ∷ []))

abbrev pub IsCutAt : ℕ → (ℤ → Type 0) → (ℕ → ℤ → Type 0) → (ℕ → ℤ → Type 0) → Type 0
IsCutAt variable S before after = (i : ℕ) (v : ℤ) → after i v ↔ (before i v × (i ≡ variable → S v))

pub record AreRuleNarrowings (rules : List Rule) (count : ℕ) (before after : ℕ → ℤ → Type 0) : Type 0 where
  pub by : List Rule
  pub as_many : length by ≡ count
  pub each : All (Contains rules) by
  pub left : IsLeftByRules by before after

pub record AreNarrowedTo (whole : ℤ × ℤ) (before : RulesState) (count : ℕ) (after : RulesState) : Type 0 where
  pub narrowings : AreRuleNarrowings before.rules count (set_at before.domains) (set_at after.domains)
  pub fewer : count + work_of_rules whole after ≤ work_of_rules whole before

pub record IsEmptiedLast (rules : List Rule) (count : ℕ) (before after : List (List (ℤ × ℤ))) : Type 0 where
  pub filled : List (List (ℤ × ℤ))
  pub none_empty : ¬ (Any (λ L. L ≡ []) filled)
  pub first : AreRuleNarrowings rules count (set_at before) (set_at filled)
  pub last : AreRuleNarrowings rules 1 (set_at filled) (set_at after)

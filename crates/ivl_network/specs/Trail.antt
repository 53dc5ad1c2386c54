-- The changes that a network writes down from its first mark on, and what it was at a mark.
--     RulesPast      the domains and the rules of a network
--     revert_rule change past      what a change was made to
--     reverted_rules changes past      what they all were made to; the last is taken back first
--     rules_past_at trail now mark      what the changes from this place of the trail on were made to
--     with_rule_change is_kept trail change      the trail, with one more change if it is written down
--     AreFixedIn past      narrowing by none of the rules changes anything
--     KeepsRuleAt i change      the change has the domain of variable i that was replaced
--     IsRuleKeptFrom start trail i      some change from this place of the trail on has it
--     ArePresentIn past      the rules name variables that have a domain
--     AreSettledMarks flags marked      one flag a mark, set only where narrowing by no rule would have changed anything at it
--     KeepsPast marks trail trail' domains domains' rules      domains that are replaced, and the trail then: as many, and at each mark all is as it was
--     IsSoundRuleTrail marks trail now      the marks are places of the trail, in order; at no place from a mark on does a rule name a variable without a domain
use Rattle.std.specs.Prelude.{◌≡◌, ◌<◌, ◌≤◌, ◌-◌, ◌++◌, ◌∷◌, [], ℕ, ℤ, Bool, true, false, List, All, HoldsAt, drop, length, map, slice_index_or, slice_set, take}
use Rattle.ivl_laws.specs.Families.{set_at}
use Rattle.ivl_rules.specs.declared.rules.Rule.{Rule}
use Rattle.ivl_network.specs.declared.network.change.Change.{Change}
use Rattle.ivl_network.specs.declared.network.change.Change.TheVariants.{Domain, Variable, Require}
use Rattle.ivl_network.specs.Families.{ArePresent, IsFixedBy}

pub record RulesPast : Type 0 where
  pub domains : List (List (ℤ × ℤ))
  pub rules : List Rule

abbrev pub revert_rule : {B O : Type 0} → Change B O → RulesPast → RulesPast
revert_rule (Domain i set) past = record { domains = slice_set past.domains i set; rules = past.rules }
revert_rule Variable past = record { domains = take (length past.domains - 1) past.domains; rules = past.rules }
revert_rule Require past = record { domains = past.domains; rules = take (length past.rules - 1) past.rules }

abbrev pub reverted_rules : {B O : Type 0} → List (Change B O) → RulesPast → RulesPast
reverted_rules [] past = past
reverted_rules (change ∷ changes) past = revert_rule change (reverted_rules changes past)

abbrev pub rules_past_at : {B O : Type 0} → List (Change B O) → RulesPast → ℕ → RulesPast
rules_past_at trail now mark = reverted_rules (drop mark trail) now

abbrev pub with_rule_change : {B O : Type 0} → Bool → List (Change B O) → Change B O → List (Change B O)
with_rule_change true trail change = trail ++ change ∷ []
with_rule_change false trail change = trail

abbrev pub ArePresentIn : RulesPast → Type 0
ArePresentIn past = All (ArePresent (length past.domains)) past.rules

abbrev pub AreFixedIn : RulesPast → Type 0
AreFixedIn past = All (IsFixedBy (set_at past.domains)) past.rules

abbrev pub KeepsRuleAt : {B O : Type 0} → ℕ → Change B O → Type 0
KeepsRuleAt variable (Domain i set) = i ≡ variable
KeepsRuleAt variable Variable = ⊥
KeepsRuleAt variable Require = ⊥

abbrev pub IsRuleKeptFrom : {B O : Type 0} → ℕ → List (Change B O) → ℕ → Type 0
IsRuleKeptFrom start trail variable = (k : ℕ) × (start ≤ k) × (k < length trail) × HoldsAt (KeepsRuleAt variable) trail k

pub record IsSoundRuleTrail {B O : Type 0} (marks : List ℕ) (trail : List (Change B O)) (now : RulesPast) : Type 0 where
  pub in_trail : (k : ℕ) → k < length marks → slice_index_or marks k 0 ≤ length trail
  pub in_order : (j k : ℕ) → j ≤ k → k < length marks → slice_index_or marks j 0 ≤ slice_index_or marks k 0
  pub present : (k m : ℕ) → k < length marks → slice_index_or marks k 0 ≤ m → m ≤ length trail → ArePresentIn (rules_past_at trail now m)

pub record KeepsPast {B O : Type 0} (marks : List ℕ) (trail trail' : List (Change B O)) (domains domains' : List (List (ℤ × ℤ))) (rules : List Rule) : Type 0 where
  pub same_count : length domains' ≡ length domains
  pub sound : IsSoundRuleTrail marks trail (record { domains = domains; rules = rules }) → All (ArePresent (length domains)) rules
      → IsSoundRuleTrail marks trail' (record { domains = domains'; rules = rules })
  pub marked : IsSoundRuleTrail marks trail (record { domains = domains; rules = rules }) → All (ArePresent (length domains)) rules
      → map (rules_past_at trail' (record { domains = domains'; rules = rules })) marks ≡ map (rules_past_at trail (record { domains = domains; rules = rules })) marks

pub record AreSettledMarks (flags : List Bool) (marked : List RulesPast) : Type 0 where
  pub one_each : length flags ≡ length marked
  pub fixed : (k : ℕ) (d : RulesPast) → k < length marked → slice_index_or flags k false ≡ true → AreFixedIn (slice_index_or marked k d)

-- Which narrowings by rules need not be made again.
--     AreSettledRules rules flags sets      one flag a rule, set only where narrowing by it changes nothing
--     claimed_flags claims flags      the flags; none of them is set where they claim nothing
--     HasTwo S      S has two members
--     KeepsSettled rules old new before after      a rule that was settled, and of whose variables none has lost a member, is settled still
--     AreTold c lost old new      one of three variables that is told to have lost a member has
--     AreClearedListed singles rules i Stays before after      flags were only cleared, at rules that name variable i; of the rules that are listed so at
--         it, one is left only at a rule that stays
--     AreSingleBeside rule i sets      the set of each other variable that the rule names has one member
--     StaysBeside keeps_one i sets rule      narrowing the sets by the rule changes nothing, or one is kept, as told, and the others are single
--     IsOneAtMost lost      no two of three variables have lost a member
--     StillDiffers alone i sets rule      what is left of variable i has two members; or it has one, no other variable has changed, and the others are single
--     AreClearedRules changed only_lost alone rules i sets before after      flags were only cleared, at rules that name variable i, and none if nothing
--         has changed; where variable i has changed, one is left at a rule that names it only if narrowing the sets by it changes nothing, or if i lost
--         members alone, the rule says that numbers differ, and it still does
use Rattle.std.specs.Prelude.{◌≡◌, ◌≢◌, ◌<◌, ◌<ℤ◌, ◌⊎◌, ℕ, ℤ, Bool, true, false, List, length, map, slice_index_or}
use Rattle.ivl_laws.specs.Sets.{HasSome, IsSubset, Only, SameMembers}
use Rattle.ivl_store.specs.declared.store.constraint.Constraint.{Constraint}
use Rattle.ivl_store.specs.declared.store.settled.Lost.{Lost}
use Rattle.ivl_rules.specs.declared.rules.Rule.{Rule}
use Rattle.ivl_rules.specs.Rules.{NamesOf, needs_singles}
use Rattle.ivl_network.specs.Families.{IsFixedBy}
use Rattle.ivl_network.specs.Queue.{IsListed}

pub record AreSettledRules (rules : List Rule) (flags : List Bool) (sets : ℕ → ℤ → Type 0) : Type 0 where
  pub one_each : length flags ≡ length rules
  pub fixed : (k : ℕ) (d : Rule) → k < length rules → slice_index_or flags k false ≡ true → IsFixedBy sets (slice_index_or rules k d)

abbrev pub claimed_flags : Bool → List Bool → List Bool
claimed_flags true flags = flags
claimed_flags false flags = map (λ _. false) flags

abbrev pub HasTwo : (ℤ → Type 0) → Type 0
HasTwo S = (x : ℤ) × (y : ℤ) × S x × S y × (x <ℤ y)

pub record KeepsSettled (rules : List Rule) (old new : ℕ → ℤ → Type 0) (before after : List Bool) : Type 0 where
  pub stays : (k : ℕ) (d : Rule) → k < length rules → slice_index_or before k false ≡ true
      → ((i : ℕ) → NamesOf (slice_index_or rules k d) i → IsSubset (old i) (new i)) → slice_index_or after k false ≡ true

pub record AreTold (c : Constraint) (lost : Lost) (old new : ℕ → ℤ → Type 0) : Type 0 where
  pub at_x : lost.x ≡ true → ¬ (IsSubset (old c.x) (new c.x))
  pub at_y : lost.y ≡ true → ¬ (IsSubset (old c.y) (new c.y))
  pub at_z : lost.z ≡ true → ¬ (IsSubset (old c.z) (new c.z))

pub record AreClearedListed (singles : Bool) (rules : List Rule) (variable : ℕ) (Stays : Rule → Type 0) (before after : List Bool) : Type 0 where
  pub same_count : length after ≡ length before
  pub only_cleared : (k : ℕ) → slice_index_or after k false ≡ true → slice_index_or before k false ≡ true
  pub left : (k : ℕ) (d : Rule) → k < length rules → slice_index_or after k false ≡ true → IsListed singles variable (slice_index_or rules k d) → Stays (slice_index_or rules k d)
  pub others : (k : ℕ) (d : Rule) → k < length rules → slice_index_or before k false ≡ true → ¬ (NamesOf (slice_index_or rules k d) variable) → slice_index_or after k false ≡ true

abbrev pub AreSingleBeside : Rule → ℕ → (ℕ → ℤ → Type 0) → Type 0
AreSingleBeside rule variable sets = (j : ℕ) → NamesOf rule j → j ≢ variable → (x : ℤ) × SameMembers (sets j) (Only x)

abbrev pub StaysBeside : Bool → ℕ → (ℕ → ℤ → Type 0) → Rule → Type 0
StaysBeside keeps_one variable sets rule = IsFixedBy sets rule ⊎ ((keeps_one ≡ true) × AreSingleBeside rule variable sets)

abbrev pub IsOneAtMost : Lost → Type 0
IsOneAtMost lost = (¬ ((lost.x ≡ true) × (lost.y ≡ true))) × (¬ ((lost.x ≡ true) × (lost.z ≡ true))) × (¬ ((lost.y ≡ true) × (lost.z ≡ true)))

abbrev pub StillDiffers : Bool → ℕ → (ℕ → ℤ → Type 0) → Rule → Type 0
StillDiffers alone variable sets rule = HasTwo (sets variable) ⊎ ((alone ≡ true) × HasSome (sets variable) × AreSingleBeside rule variable sets)

pub record AreClearedRules (changed only_lost alone : Bool) (rules : List Rule) (variable : ℕ) (sets : ℕ → ℤ → Type 0) (before after : List Bool) : Type 0 where
  pub same_count : length after ≡ length before
  pub kept : changed ≡ false → after ≡ before
  pub only_cleared : (k : ℕ) → slice_index_or after k false ≡ true → slice_index_or before k false ≡ true
  pub apart : changed ≡ true → (k : ℕ) (d : Rule) → k < length rules → slice_index_or after k false ≡ true → NamesOf (slice_index_or rules k d) variable
      → IsFixedBy sets (slice_index_or rules k d)
      ⊎ ((only_lost ≡ true) × (needs_singles (slice_index_or rules k d) ≡ true) × StillDiffers alone variable sets (slice_index_or rules k d))
  pub others : (k : ℕ) (d : Rule) → k < length rules → slice_index_or before k false ≡ true → ¬ (NamesOf (slice_index_or rules k d) variable) → slice_index_or after k false ≡ true

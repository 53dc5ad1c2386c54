-- What a list of rules says of points, and of families of sets.
--     IsCommonPoint rules sets point      the point satisfies each rule of the list, with a member of the set of each variable that these name
--     AllSupport rules sets      each rule of the list supports the family: each member of a set that it names stands in a point of the sets that satisfies it
--     IsGreatestUnder rules given family      the greatest family within the given one that the rules support, among families that are lists of runs
--     KeepsUnder rules old new      domains only lost members, and no family that the rules support lost one
--     IsFixedBy sets rule      narrowing by the rule changes nothing
--     ArePresent count rule      the variables of the rule are among the first `count`
use Rattle.std.specs.Prelude.{ℕ, ℤ, List, All}
use Rattle.ivl_laws.specs.Families.{set_at}
use Rattle.ivl_store.specs.Narrowing.{AllPresent}
use Rattle.ivl_store.specs.Solutions.{LiesWithin}
use Rattle.ivl_rules.specs.declared.rules.Rule.{Rule}
use Rattle.ivl_rules.specs.Rules.{IsPointOf, NarrowedBy, SupportsAll, places}

abbrev pub IsCommonPoint : List Rule → (ℕ → ℤ → Type 0) → (ℕ → ℤ) → Type 0
IsCommonPoint rules sets point = All (λ rule. IsPointOf rule sets point) rules

abbrev pub AllSupport : List Rule → (ℕ → ℤ → Type 0) → Type 0
AllSupport rules sets = All (λ rule. SupportsAll rule sets) rules

-- of all families that are finite lists of runs
pub record IsGreatestUnder (rules : List Rule) (given family : ℕ → ℤ → Type 0) : Type 0 where
  pub within : LiesWithin family given
  pub supported : AllSupport rules family
  pub greatest : (other : List (List (ℤ × ℤ))) → LiesWithin (set_at other) given → AllSupport rules (set_at other) → LiesWithin (set_at other) family

pub record KeepsUnder (rules : List Rule) (old new : List (List (ℤ × ℤ))) : Type 0 where
  pub within : LiesWithin (set_at new) (set_at old)
  pub families : (family : List (List (ℤ × ℤ))) → AllSupport rules (set_at family) → LiesWithin (set_at family) (set_at old) → LiesWithin (set_at family) (set_at new)

abbrev pub IsFixedBy : (ℕ → ℤ → Type 0) → Rule → Type 0
IsFixedBy sets rule = LiesWithin sets (NarrowedBy rule sets)

abbrev pub ArePresent : ℕ → Rule → Type 0
ArePresent count rule = AllPresent count (places rule)

-- That the order of the calls of a network plays no part. The sets that were posted are those with which the variables were
-- added, cut by what they were restricted to. Each call keeps `KeepsUnder rules posted domains`, and once all is settled the
-- domains are the greatest supported family within the posted sets, which is one.
--     AddingKeepsUnder      where a variable is added to both
--     RestrictingKeepsUnder      where a variable is cut in both
--     RequiringKeepsUnder      where a rule is required
--     SettlingKeepsUnder      where narrowing stops early
--     AllIsGreatestUnder      where all is settled
use Rattle.std.specs.Prelude.{◌≡◌, ◌++◌, ◌∷◌, [], ℕ, ℤ, List, All, length}
use Rattle.ivl_laws.specs.Families.{set_at}
use Rattle.ivl_laws.specs.Runs.{Covers}
use Rattle.ivl_network.specs.Network.{IsCutAt, IsRuleRequired}
use Rattle.ivl_rules.specs.declared.rules.Rule.{Rule}
use Rattle.ivl_network.specs.Families.{ArePresent, IsGreatestUnder, KeepsUnder}

abbrev pub AddingKeepsUnder : Type 0
AddingKeepsUnder = (rules : List Rule) (posted domains : List (List (ℤ × ℤ))) (domain : List (ℤ × ℤ)) → length posted ≡ length domains
    → All (ArePresent (length domains)) rules → KeepsUnder rules posted domains → KeepsUnder rules (posted ++ domain ∷ []) (domains ++ domain ∷ [])

abbrev pub RestrictingKeepsUnder : Type 0
RestrictingKeepsUnder = (rules : List Rule) (posted posted' domains domains' : List (List (ℤ × ℤ))) (variable : ℕ) (allowed : List (ℤ × ℤ))
    → IsCutAt variable (Covers allowed) (set_at posted) (set_at posted') → IsCutAt variable (Covers allowed) (set_at domains) (set_at domains')
    → KeepsUnder rules posted domains → KeepsUnder rules posted' domains'

abbrev pub RequiringKeepsUnder : Type 0
RequiringKeepsUnder = (rule : Rule) (rules rules' : List Rule) (posted domains : List (List (ℤ × ℤ)))
    → IsRuleRequired rule rules rules' → KeepsUnder rules posted domains → KeepsUnder rules' posted domains

abbrev pub SettlingKeepsUnder : Type 0
SettlingKeepsUnder = (rules : List Rule) (posted domains domains' : List (List (ℤ × ℤ)))
    → KeepsUnder rules posted domains → KeepsUnder rules domains domains' → KeepsUnder rules posted domains'

abbrev pub AllIsGreatestUnder : Type 0
AllIsGreatestUnder = (rules : List Rule) (posted domains domains' : List (List (ℤ × ℤ)))
    → KeepsUnder rules posted domains → IsGreatestUnder rules (set_at domains) (set_at domains') → IsGreatestUnder rules (set_at posted) (set_at domains')

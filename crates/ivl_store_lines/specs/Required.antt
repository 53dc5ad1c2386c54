-- Rules that a request states of variables, and that hold from then on.
--     AreRequired rules old new      each of the rules that is not among those before it stands after them, in order
--     related relation x y by      the rule that x and `by` are y, at most y, or not y
--     each_pair variables      the rules that no two of the variables have the same number, each variable with the later ones
use Rattle.std.specs.Prelude.{◌≡◌, ◌++◌, ◌∷◌, [], ℕ, ℤ, pos, List, map}
use Rattle.ivl_rules.specs.declared.rules.Rule.{Rule}
use Rattle.ivl_rules.specs.declared.rules.Rule.TheVariants as rule
use Rattle.ivl_network.specs.Network.{IsRuleRequired}
use Rattle.ivl_store_lines.specs.declared.relation.Relation.{Relation}
use Rattle.ivl_store_lines.specs.declared.relation.Relation.TheVariants.{Shifted, AtMost, Differs}

abbrev pub AreRequired : List Rule → List Rule → List Rule → Type 0
AreRequired [] old new = new ≡ old
AreRequired (first ∷ rules) old new = (next : List Rule) × IsRuleRequired first old next × AreRequired rules next new

abbrev pub related : Relation → ℕ → ℕ → ℤ → Rule
related Shifted x y by = rule.Shifted x y by
related AtMost x y by = rule.AtMost x y by
related Differs x y by = rule.Differs x y by

abbrev pub each_pair : List ℕ → List Rule
each_pair [] = []
each_pair (x ∷ variables) = map (λ y. rule.Differs x y (pos 0)) variables ++ each_pair variables

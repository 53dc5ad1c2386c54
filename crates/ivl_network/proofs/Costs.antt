-- What narrowings count for, one after the other.
use Rattle.std.proofs.Common.{◌≡◌, ℕ, ◌+◌, ◌-◌, ◌/◌, ◌^◌, ◌<◌, refl, subst, arith, eqb, min, true, false, List, [], ◌∷◌, ◌++◌, length, get_or}
use Rattle.std.specs.Prelude.{ℤ, Contains}
use Rattle.std.proofs.lemmas.List.Elements.{All-append, All-cons, All-nil}
use Rattle.ivl_rules.specs.declared.rules.Rule.{Rule}
use Rattle.ivl_rules.specs.Rules.{places}
use Rattle.ivl_store.specs.Costs.{cost_of}
use Rattle.ivl_network.specs.Costs.{AreRulesCounted, IsOneRuleNarrowing, RuleCosts, cost_of_rule, runs_of_rule}

-- where the second variable stands at y and at z, and where it does not
pub cost_of_pair : (rule : Rule) (sets : List (List (ℤ × ℤ))) (cost : ℕ) → (places rule).y ≡ (places rule).z
    → cost ≡ min (length (get_or sets (places rule).x []) + length (get_or sets (places rule).y [])) (2 ^ 64 - 1) / 256 + 1 → cost ≡ cost_of_rule rule sets
unfolding cost_of_rule runs_of_rule
cost_of_pair rule sets cost e is = rw (same (places rule).y (places rule).z e) is
  where
    same : (j k : ℕ) → j ≡ k → eqb j k ≡ true
    same j k h = grind arith

pub cost_of_three : (rule : Rule) (sets : List (List (ℤ × ℤ))) (cost : ℕ) → ((places rule).y ≡ (places rule).z → ⊥) → cost ≡ cost_of (places rule) sets → cost ≡ cost_of_rule rule sets
unfolding cost_of cost_of_rule runs_of_rule
cost_of_three rule sets cost ne is = rw (other (places rule).y (places rule).z ne) is
  where
    other : (j k : ℕ) → (j ≡ k → ⊥) → eqb j k ≡ false
    other j k n = grind arith

-- none so far
pub counted_none : (rules : List Rule) (sets : List (List (ℤ × ℤ))) → AreRulesCounted rules [] 0 sets sets
counted_none rules sets = record {
  each = All-nil (Contains rules);
  costs = (refl, refl);
}

-- one, by the rule at a place of the list
pub counted_one : (rules : List Rule) (k : ℕ) (c : Rule) (cost : ℕ) (before after : List (List (ℤ × ℤ))) → k < length rules → get_or rules k c ≡ c
    → IsOneRuleNarrowing c before after → cost ≡ cost_of_rule c before → AreRulesCounted rules (c ∷ []) cost before after
counted_one rules k c cost before after lt at narrowed is = record {
  each = All-cons (Contains rules) c [] (k, lt, at) (All-nil (Contains rules));
  costs = (after, 0, narrowed, (refl, refl), omega (arith, is));
}

costs_more : (by : List Rule) (c : Rule) (cost more : ℕ) (before mid after : List (List (ℤ × ℤ)))
    → RuleCosts by cost before mid → RuleCosts (c ∷ []) more mid after → RuleCosts (by ++ c ∷ []) (cost + more) before after
costs_more [] c cost more before mid after h g =
    subst (λ s. RuleCosts (c ∷ []) (cost + more) s after) h.1 (g.0, g.1, g.2, g.3, (let a = h.0 in let b = g.4 in omega (arith, a, b)))
costs_more (d ∷ by) c cost more before mid after h g =
    (h.0, h.1 + more, h.2, costs_more by c h.1 more h.0 mid after h.3 g, (let a = h.4 in omega (arith, a)))

-- and one more
pub counted_more : (rules by : List Rule) (c : Rule) (cost more : ℕ) (before mid after : List (List (ℤ × ℤ)))
    → AreRulesCounted rules by cost before mid → AreRulesCounted rules (c ∷ []) more mid after → AreRulesCounted rules (by ++ c ∷ []) (cost + more) before after
counted_more rules by c cost more before mid after f g = record {
  each = All-append (Contains rules) by (c ∷ []) f.each g.each;
  costs = costs_more by c cost more before mid after f.costs g.costs;
}

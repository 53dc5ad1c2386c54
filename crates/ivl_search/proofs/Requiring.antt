-- Rules that are required one by one.
use Rattle.std.proofs.Common.{◌≡◌, ◌<◌, ◌≤◌, ◌∙◌, ℕ, ◌⊎◌, ◌+◌, ap, inl, inr, sym, subst, arith, List, [], ◌∷◌, ◌++◌, length, get_or, take}
use Rattle.std.specs.Prelude.{ℤ, ◌↔◌, Contains}
use Rattle.std.proofs.lemmas.List.{length_push, take_more}
use Rattle.std.proofs.lemmas.List.Elements.{All-contains, Contains-get_or, Contains-append_left, Contains-push, Contains-push_cases}
use Rattle.ivl_rules.specs.declared.rules.Rule.{Rule}
use Rattle.ivl_rules.specs.Rules.{Satisfies}
use Rattle.ivl_network.specs.Network.{IsRuleRequired}
use Rattle.ivl_search.specs.Points.{SolvesRules, coordinate}

-- one more is required
pub required_more : (start old new rules : List Rule) (k : ℕ) (e : Rule) → k < length rules → IsRuleRequired (get_or rules k e) old new
    → ((d : Rule) → Contains old d ↔ (Contains start d ⊎ Contains (take k rules) d))
    → (d : Rule) → Contains new d ↔ (Contains start d ⊎ Contains (take (k + 1) rules) d)
required_more start old new rules k e lt is_required so_far d = (
  (λ h. elim (in_new is_required h) [
    | inl o ↦ elim ((so_far d).0 o) [ inl s ↦ inl s | inr t ↦ inr (subst (λ cs. Contains cs d) (sym front) (Contains-append_left (take k rules) (get_or rules k e ∷ []) d t)) ]
    | inr f ↦ inr (subst (Contains (take (k + 1) rules)) f here)
  ]),
  (λ h. elim h [
    | inl s ↦ old_in_new is_required ((so_far d).1 (inl s))
    | inr t ↦ elim (Contains-push_cases (take k rules) (get_or rules k e) d (subst (λ cs. Contains cs d) front t)) [
      | inl u ↦ old_in_new is_required ((so_far d).1 (inr u))
      | inr f ↦ subst (Contains new) f (c_in_new is_required)
    ]
  ]),
)
  where
    front : take (k + 1) rules ≡ take k rules ++ get_or rules k e ∷ []
    front = take_more rules k e lt

    here : Contains (take (k + 1) rules) (get_or rules k e)
    here = subst (λ cs. Contains cs (get_or rules k e)) (sym front) (Contains-push (take k rules) (get_or rules k e))

    in_new : IsRuleRequired (get_or rules k e) old new → Contains new d → Contains old d ⊎ (get_or rules k e ≡ d)
    in_new (inl r) h = inl (subst (λ cs. Contains cs d) r.1 h)
    in_new (inr r) h = Contains-push_cases old (get_or rules k e) d (subst (λ cs. Contains cs d) r.1 h)

    old_in_new : IsRuleRequired (get_or rules k e) old new → Contains old d → Contains new d
    old_in_new (inl r) h = subst (λ cs. Contains cs d) (sym r.1) h
    old_in_new (inr r) h = subst (λ cs. Contains cs d) (sym r.1) (Contains-append_left old (get_or rules k e ∷ []) d h)

    c_in_new : IsRuleRequired (get_or rules k e) old new → Contains new (get_or rules k e)
    c_in_new (inl r) = subst (λ cs. Contains cs (get_or rules k e)) (sym r.1) r.0
    c_in_new (inr r) = subst (λ cs. Contains cs (get_or rules k e)) (sym r.1) (Contains-push old (get_or rules k e))

none_in : (d : Rule) → Contains [] d → ⊥
none_in d c = let lt = c.1 in absurd (omega (arith, lt))

-- rules in another order, and repeated ones, have the same solutions
pub required_solves : (rules required : List Rule) (sets : List (List (ℤ × ℤ))) → ((d : Rule) → Contains required d ↔ (Contains [] d ⊎ Contains rules d))
    → (point : List ℤ) → SolvesRules rules sets point ↔ SolvesRules required sets point
required_solves rules required sets same point = (
  (λ s. record {
    one_each = s.one_each;
    members = s.members;
    satisfied = λ k d lt. All-contains (λ rule. Satisfies rule (coordinate point)) rules _ s.satisfied (in_list ((same _).0 (Contains-get_or required k d lt)));
  }),
  (λ s. record {
    one_each = s.one_each;
    members = s.members;
    satisfied = λ k d lt. All-contains (λ rule. Satisfies rule (coordinate point)) required _ s.satisfied ((same _).1 (inr (Contains-get_or rules k d lt)));
  }),
)
  where
    in_list : {d : Rule} → Contains [] d ⊎ Contains rules d → Contains rules d
    in_list {d} (inl n) = absurd (none_in d n)
    in_list (inr h) = h

-- one more rule at most
pub required_count : (c : Rule) (old new : List Rule) → IsRuleRequired c old new → length new ≤ length old + 1
required_count c old new (inl same) = let e = ap length same.1 in omega (arith, e)
required_count c old new (inr more) = let e = ap length more.1 ∙ length_push old c in omega (arith, e)

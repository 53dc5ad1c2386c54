-- A point that satisfies all the rules is itself a supported family, of one number for each variable that they name.
use Rattle.std.proofs.Common.{◌≡◌, ℕ, ◌⊎◌, inl, inr, sym, ap, subst, ◌∙◌, List, [], ◌∷◌}
use Rattle.std.specs.Prelude.{ℤ}
use Rattle.std.proofs.lemmas.List.Elements.{All-nil, All-cons, All-weaker}
use Rattle.ivl_laws.specs.Families.{set_at}
use Rattle.ivl_store.specs.Solutions.{LiesWithin}
use Rattle.ivl_store.proofs.Lists.{All-rest, All-head}
use Rattle.ivl_store.proofs.Points.{put, put-has, put-keeps, put-only}
use Rattle.ivl_rules.specs.declared.rules.Rule.{Rule}
use Rattle.ivl_rules.specs.Rules.{IsPointOf, NamesOf, SupportsAll, places}
use Rattle.ivl_network.specs.Families.{AllSupport, IsCommonPoint}

-- the point's numbers at the variables that the rules name
pub family_of_rules : List Rule → (ℕ → ℤ) → List (List (ℤ × ℤ))
family_of_rules [] point = []
family_of_rules (rule ∷ rules) point =
    put (places rule).x (point (places rule).x) (put (places rule).y (point (places rule).y) (put (places rule).z (point (places rule).z) (family_of_rules rules point)))

-- with no rule it is empty
family-none : (point : ℕ → ℤ) (i : ℕ) (v : ℤ) → set_at (family_of_rules [] point) i v → ⊥
unfolding family_of_rules
family-none point i v h = h

-- a member of the family is the point's number at a variable that the first rule names, or one of the family of the others
family-cases : (rule : Rule) (rules : List Rule) (point : ℕ → ℤ) (i : ℕ) (v : ℤ) → set_at (family_of_rules (rule ∷ rules) point) i v
    → (NamesOf rule i × (point i ≡ v)) ⊎ set_at (family_of_rules rules point) i v
unfolding family_of_rules
family-cases rule rules point i v h =
    elim (put-only (places rule).x (point (places rule).x) _ i v h) [
      | inl e ↦ inl (inl e.0, ap point e.0 ∙ sym e.1)
      | inr k ↦ elim (put-only (places rule).y (point (places rule).y) _ i v k) [
        | inl e ↦ inl (inr (inl e.0), ap point e.0 ∙ sym e.1)
        | inr l ↦ elim (put-only (places rule).z (point (places rule).z) _ i v l) [ inl e ↦ inl (inr (inr e.0), ap point e.0 ∙ sym e.1) | inr m ↦ inr m ]
      ]
    ]

-- the family of the others lies within
family-more : (rule : Rule) (rules : List Rule) (point : ℕ → ℤ) → LiesWithin (set_at (family_of_rules rules point)) (set_at (family_of_rules (rule ∷ rules) point))
unfolding family_of_rules
family-more rule rules point i v h = put-keeps (places rule).x _ _ i v (put-keeps (places rule).y _ _ i v (put-keeps (places rule).z _ _ i v h))

-- the family has the point's number at each variable that the first rule names
family-has : (rule : Rule) (rules : List Rule) (point : ℕ → ℤ) (i : ℕ) → NamesOf rule i → set_at (family_of_rules (rule ∷ rules) point) i (point i)
unfolding family_of_rules
family-has rule rules point i named = elim named [
  | inl e ↦ at_place (places rule).x e (put-has (places rule).x (point (places rule).x) _)
  | inr (inl e) ↦ at_place (places rule).y e (put-keeps (places rule).x _ _ _ _ (put-has (places rule).y (point (places rule).y) _))
  | inr (inr e) ↦ at_place (places rule).z e (put-keeps (places rule).x _ _ _ _ (put-keeps (places rule).y _ _ _ _ (put-has (places rule).z (point (places rule).z) _)))
]
  where
    at_place : (j : ℕ) → i ≡ j → set_at (family_of_rules (rule ∷ rules) point) j (point j) → set_at (family_of_rules (rule ∷ rules) point) i (point i)
    at_place j e h = subst (λ k. set_at (family_of_rules (rule ∷ rules) point) k (point k)) (sym e) h

-- a point of a family is one of each family within which that lies
point_within : (rule : Rule) (inner outer : ℕ → ℤ → Type 0) (point : ℕ → ℤ) → LiesWithin inner outer → IsPointOf rule inner point → IsPointOf rule outer point
point_within rule inner outer point w p = record { inside = (λ i named. w i (point i) (p.inside i named)); satisfies = p.satisfies }

-- the point is one of the family for each rule
family-satisfied : (rules : List Rule) (sets : ℕ → ℤ → Type 0) (point : ℕ → ℤ) → IsCommonPoint rules sets point
    → IsCommonPoint rules (set_at (family_of_rules rules point)) point
family-satisfied [] sets point h = All-nil (λ d. IsPointOf d (set_at (family_of_rules [] point)) point)
family-satisfied (rule ∷ rules) sets point h =
    All-cons (λ d. IsPointOf d (set_at (family_of_rules (rule ∷ rules) point)) point) rule rules
    (record { inside = family-has rule rules point; satisfies = (All-head (λ d. IsPointOf d sets point) rule rules h).satisfies })
    (All-weaker (λ d. IsPointOf d (set_at (family_of_rules rules point)) point) (λ d. IsPointOf d (set_at (family_of_rules (rule ∷ rules) point)) point)
    (λ d. point_within d _ _ point (family-more rule rules point)) rules
    (family-satisfied rules sets point (All-rest (λ d. IsPointOf d sets point) rule rules h)))

-- each member of the family is the point's number
family-point : (rules : List Rule) (point : ℕ → ℤ) (i : ℕ) (v : ℤ) → set_at (family_of_rules rules point) i v → point i ≡ v
family-point [] point i v h = absurd (family-none point i v h)
family-point (rule ∷ rules) point i v h = elim (family-cases rule rules point i v h) [ inl k ↦ k.1 | inr m ↦ family-point rules point i v m ]

-- the family lies within each family of which the point is one for all the rules
family-within : (rules : List Rule) (sets : ℕ → ℤ → Type 0) (point : ℕ → ℤ) → IsCommonPoint rules sets point
    → LiesWithin (set_at (family_of_rules rules point)) sets
family-within [] sets point h i v m = absurd (family-none point i v m)
family-within (rule ∷ rules) sets point h i v m =
    elim (family-cases rule rules point i v m) [
      | inl k ↦ subst (sets i) k.1 ((All-head (λ d. IsPointOf d sets point) rule rules h).inside i k.0)
      | inr n ↦ family-within rules sets point (All-rest (λ d. IsPointOf d sets point) rule rules h) i v n
    ]

-- the rules support the family of a point that satisfies them
family-supported : (rules : List Rule) (sets : ℕ → ℤ → Type 0) (point : ℕ → ℤ) → IsCommonPoint rules sets point
    → AllSupport rules (set_at (family_of_rules rules point))
family-supported rules sets point h =
    All-weaker (λ d. IsPointOf d (set_at (family_of_rules rules point)) point) (λ d. SupportsAll d (set_at (family_of_rules rules point)))
    (λ d p i named v m. record { point = point; is_point = p; at = family-point rules point i v m }) rules
    (family-satisfied rules sets point h)

-- where no supported family loses a member, no common point is lost
pub points_kept : (rules : List Rule) (old new : ℕ → ℤ → Type 0)
    → ((family : List (List (ℤ × ℤ))) → AllSupport rules (set_at family) → LiesWithin (set_at family) old → LiesWithin (set_at family) new)
    → (point : ℕ → ℤ) → IsCommonPoint rules old point → IsCommonPoint rules new point
points_kept rules old new keeps point h =
    let w = keeps (family_of_rules rules point) (family-supported rules old point h) (family-within rules old point h) in
    All-weaker (λ d. IsPointOf d (set_at (family_of_rules rules point)) point) (λ d. IsPointOf d new point)
    (λ d. point_within d _ new point w) rules (family-satisfied rules old point h)

-- A point that solves all the constraints is itself a supported family, of one number for each variable that they name.
use Rattle.std.proofs.Common.{◌≡◌, ℕ, zero, suc, ◌⊎◌, inl, inr, refl, sym, ap, subst, arith, ◌∙◌, List, [], ◌∷◌}
use Rattle.std.specs.Prelude.{ℤ, ◌≤ℤ◌}
use Rattle.std.proofs.lemmas.Int.{ints}
use Rattle.std.proofs.lemmas.List.Elements.{All-nil, All-cons, All-weaker}
use Rattle.ivl_store.proofs.Lists.{All-rest, All-head}
use Rattle.ivl_store.specs.declared.store.constraint.Constraint.{Constraint}
use Rattle.ivl_laws.specs.Families.{set_at}
use Rattle.ivl_store.specs.Solutions.{IsSolution, IsCommonSolution, Supports, SupportedBy, LiesWithin}

-- the family with one more number in the set at a place
pub put : ℕ → ℤ → List (List (ℤ × ℤ)) → List (List (ℤ × ℤ))
put zero x [] = ((x, x) ∷ []) ∷ []
put zero x (s ∷ sets) = ((x, x) ∷ s) ∷ sets
put (suc i) x [] = [] ∷ put i x []
put (suc i) x (s ∷ sets) = s ∷ put i x sets

-- that set has the number
pub put-has : (i : ℕ) (x : ℤ) (sets : List (List (ℤ × ℤ))) → set_at (put i x sets) i x
unfolding put
put-has zero x [] = let le : x ≤ℤ x = omega (arith, ints) in inl (le, le)
put-has zero x (s ∷ sets) = let le : x ≤ℤ x = omega (arith, ints) in inl (le, le)
put-has (suc i) x [] = put-has i x []
put-has (suc i) x (s ∷ sets) = put-has i x sets

-- no set loses a number
pub put-keeps : (i : ℕ) (x : ℤ) (sets : List (List (ℤ × ℤ))) → LiesWithin (set_at sets) (set_at (put i x sets))
unfolding put
put-keeps i x [] j v h = absurd h
put-keeps zero x (s ∷ sets) zero v h = inr h
put-keeps zero x (s ∷ sets) (suc j) v h = h
put-keeps (suc i) x (s ∷ sets) zero v h = h
put-keeps (suc i) x (s ∷ sets) (suc j) v h = put-keeps i x sets j v h

-- a number between one and the same is that one
same_number : (x v : ℤ) → x ≤ℤ v → v ≤ℤ x → v ≡ x
same_number x v a b = omega (arith, ints)

-- no other number is put anywhere
pub put-only : (i : ℕ) (x : ℤ) (sets : List (List (ℤ × ℤ))) (j : ℕ) (v : ℤ) → set_at (put i x sets) j v → ((j ≡ i) × (v ≡ x)) ⊎ set_at sets j v
unfolding put
put-only zero x [] zero v (inl h) = inl (refl, same_number x v h.0 h.1)
put-only zero x [] zero v (inr h) = absurd h
put-only zero x [] (suc j) v h = absurd h
put-only zero x (s ∷ sets) zero v (inl h) = inl (refl, same_number x v h.0 h.1)
put-only zero x (s ∷ sets) zero v (inr h) = inr h
put-only zero x (s ∷ sets) (suc j) v h = inr h
put-only (suc i) x [] zero v h = absurd h
put-only (suc i) x [] (suc j) v h = elim (put-only i x [] j v h) [ inl e ↦ inl (ap suc e.0, e.1) | inr k ↦ absurd k ]
put-only (suc i) x (s ∷ sets) zero v h = inr h
put-only (suc i) x (s ∷ sets) (suc j) v h = elim (put-only i x sets j v h) [ inl e ↦ inl (ap suc e.0, e.1) | inr k ↦ inr k ]

-- the point's numbers at the variables that the constraints name
pub family_of : List Constraint → (ℕ → ℤ) → List (List (ℤ × ℤ))
family_of [] point = []
family_of (c ∷ constraints) point = put c.x (point c.x) (put c.y (point c.y) (put c.z (point c.z) (family_of constraints point)))

-- with no constraint it is empty
family-none : (point : ℕ → ℤ) (i : ℕ) (v : ℤ) → set_at (family_of [] point) i v → ⊥
unfolding family_of
family-none point i v h = h

-- a member of the family is a number of the first constraint's, or of the family of the others
family-cases : (c : Constraint) (constraints : List Constraint) (point : ℕ → ℤ) (i : ℕ) (v : ℤ) → set_at (family_of (c ∷ constraints) point) i v
    → ((i ≡ c.x) × (v ≡ point c.x)) ⊎ (((i ≡ c.y) × (v ≡ point c.y)) ⊎ (((i ≡ c.z) × (v ≡ point c.z)) ⊎ set_at (family_of constraints point) i v))
unfolding family_of
family-cases c constraints point i v h =
    elim (put-only c.x (point c.x) _ i v h) [
      | inl e ↦ inl e
      | inr k ↦ elim (put-only c.y (point c.y) _ i v k) [
        | inl e ↦ inr (inl e)
        | inr l ↦ inr (inr (put-only c.z (point c.z) _ i v l))
      ]
    ]

-- the family of the others lies within
family-more : (c : Constraint) (constraints : List Constraint) (point : ℕ → ℤ) → LiesWithin (set_at (family_of constraints point)) (set_at (family_of (c ∷ constraints) point))
unfolding family_of
family-more c constraints point i v h = put-keeps c.x _ _ i v (put-keeps c.y _ _ i v (put-keeps c.z _ _ i v h))

-- a solution stays one over a family within which the first lies
solution_within : (c : Constraint) (inner outer : ℕ → ℤ → Type 0) (point : ℕ → ℤ) → LiesWithin inner outer → IsSolution c inner point → IsSolution c outer point
solution_within c inner outer point w s = record { in_x = w _ _ s.in_x; in_y = w _ _ s.in_y; in_z = w _ _ s.in_z; sum = s.sum }

-- the point solves the first constraint over the family
family-first : (c : Constraint) (constraints : List Constraint) (point : ℕ → ℤ) (sets : ℕ → ℤ → Type 0) → IsSolution c sets point → IsSolution c (set_at (family_of (c ∷ constraints) point)) point
unfolding family_of
family-first c constraints point sets s = record {
  in_x = put-has c.x (point c.x) _;
  in_y = put-keeps c.x _ _ _ _ (put-has c.y (point c.y) _);
  in_z = put-keeps c.x _ _ _ _ (put-keeps c.y _ _ _ _ (put-has c.z (point c.z) _));
  sum = s.sum;
}

-- the point solves each constraint over the family
pub family-solved : (constraints : List Constraint) (sets : ℕ → ℤ → Type 0) (point : ℕ → ℤ) → IsCommonSolution constraints sets point
    → IsCommonSolution constraints (set_at (family_of constraints point)) point
family-solved [] sets point h = All-nil (λ c. IsSolution c (set_at (family_of [] point)) point)
family-solved (c ∷ constraints) sets point h =
    All-cons (λ d. IsSolution d (set_at (family_of (c ∷ constraints) point)) point) c constraints
    (family-first c constraints point sets (All-head (λ d. IsSolution d sets point) c constraints h))
    (All-weaker (λ d. IsSolution d (set_at (family_of constraints point)) point) (λ d. IsSolution d (set_at (family_of (c ∷ constraints) point)) point)
    (λ d. solution_within d _ _ point (family-more c constraints point)) constraints
    (family-solved constraints sets point (All-rest (λ d. IsSolution d sets point) c constraints h)))

-- each member of the family is the point's number
pub family-point : (constraints : List Constraint) (point : ℕ → ℤ) (i : ℕ) (v : ℤ) → set_at (family_of constraints point) i v → point i ≡ v
family-point [] point i v h = absurd (family-none point i v h)
family-point (c ∷ constraints) point i v h =
    elim (family-cases c constraints point i v h) [
      | inl e ↦ ap point e.0 ∙ sym e.1
      | inr k ↦ elim k [
        | inl e ↦ ap point e.0 ∙ sym e.1
        | inr l ↦ elim l [ inl e ↦ ap point e.0 ∙ sym e.1 | inr m ↦ family-point constraints point i v m ]
      ]
    ]

-- the family lies within each family over which the point solves all the constraints
pub family-within : (constraints : List Constraint) (sets : ℕ → ℤ → Type 0) (point : ℕ → ℤ) → IsCommonSolution constraints sets point
    → LiesWithin (set_at (family_of constraints point)) sets
family-within [] sets point h i v m = absurd (family-none point i v m)
family-within (c ∷ constraints) sets point h i v m =
    let s = All-head (λ d. IsSolution d sets point) c constraints h in
    elim (family-cases c constraints point i v m) [
      | inl e ↦ at_place sets i v c.x (point c.x) e s.in_x
      | inr k ↦ elim k [
        | inl e ↦ at_place sets i v c.y (point c.y) e s.in_y
        | inr l ↦ elim l [
          | inl e ↦ at_place sets i v c.z (point c.z) e s.in_z
          | inr n ↦ family-within constraints sets point (All-rest (λ d. IsSolution d sets point) c constraints h) i v n
        ]
      ]
    ]
  where
    at_place : (sets : ℕ → ℤ → Type 0) (i : ℕ) (v : ℤ) (j : ℕ) (w : ℤ) → (i ≡ j) × (v ≡ w) → sets j w → sets i v
    at_place sets i v j w e k = subst (λ a. sets a v) (sym e.0) (subst (sets j) (sym e.1) k)

-- the constraints support the family of a point that solves them
pub family-supported : (constraints : List Constraint) (sets : ℕ → ℤ → Type 0) (point : ℕ → ℤ) → IsCommonSolution constraints sets point
    → SupportedBy constraints (set_at (family_of constraints point))
family-supported constraints sets point h =
    All-weaker (λ d. IsSolution d (set_at (family_of constraints point)) point) (λ d. Supports d (set_at (family_of constraints point)))
    (λ d s i names v m. record { point = point; solution = s; at = family-point constraints point i v m }) constraints
    (family-solved constraints sets point h)

-- where no supported family loses a member, no common solution is lost
pub solutions_kept : (constraints : List Constraint) (old new : ℕ → ℤ → Type 0)
    → ((family : List (List (ℤ × ℤ))) → SupportedBy constraints (set_at family) → LiesWithin (set_at family) old → LiesWithin (set_at family) new)
    → (point : ℕ → ℤ) → IsCommonSolution constraints old point → IsCommonSolution constraints new point
solutions_kept constraints old new keeps point h =
    let w = keeps (family_of constraints point) (family-supported constraints old point h) (family-within constraints old point h) in
    All-weaker (λ d. IsSolution d (set_at (family_of constraints point)) point) (λ d. IsSolution d new point)
    (λ d. solution_within d _ new point w) constraints (family-solved constraints old point h)

-- What is left of a set, and lists of what is left with their variables, where one more comes at the end.
use Rattle.std.proofs.Common.{◌≡◌, ◌↔◌, ◌⊎◌, inl, inr, ℕ, ℤ, List, [], ◌∷◌, ◌++◌, get_or, subst}
use Rattle.std.specs.Prelude.{Option, Some, None}
use Rattle.ivl_laws.specs.Families.{set_at}
use Rattle.ivl_laws.specs.Runs.{Covers}
use Rattle.ivl_linear.specs.declared.linear.Term.{Term}
use Rattle.ivl_linear.specs.declared.linear.Relation.{Relation}
use Rattle.ivl_linear.specs.Linear.{HasLinearPointAt}
use Rattle.ivl_linear.specs.Ends.{AreEndsOf, IsRestOf}
use Rattle.ivl_linear.specs.Rests.{AllRests, HasRestOf}
use Rattle.ivl_linear.proofs.Support.{named_by_term}

pub IsRestOf-same : (L : List (ℤ × ℤ)) (S T : ℤ → Type 0) → ((v : ℤ) → Covers L v → S v ↔ T v) → (rest : Option (List (ℤ × ℤ))) → IsRestOf L S rest → IsRestOf L T rest
IsRestOf-same L S T e None h = (λ v m. (e v m).0 (h v m))
IsRestOf-same L S T e (Some rest) h = (
  (λ v. (
    (λ c. let k = (h.0 v).0 c in (k.0, (e v k.0).0 k.1)),
    (λ k. (h.0 v).1 (k.0, (e v k.0).1 k.1)),
  )),
  (λ s. h.1 (λ v m. (e v m).1 (s v m))),
)

pub AllRests-push : (P : ℕ → List (ℤ × ℤ) → Type 0) (rests : List (ℕ × List (ℤ × ℤ))) (e : ℕ × List (ℤ × ℤ)) → AllRests P rests → P e.0 e.1 → AllRests P (rests ++ e ∷ [])
AllRests-push P [] e a h = (h, tt)
AllRests-push P (f ∷ rests) e a h = (a.0, AllRests-push P rests e a.1 h)

pub AllRests-front : (P : ℕ → List (ℤ × ℤ) → Type 0) (rests : List (ℕ × List (ℤ × ℤ))) (e : ℕ × List (ℤ × ℤ)) → AllRests P (rests ++ e ∷ []) → AllRests P rests
AllRests-front P [] e a = tt
AllRests-front P (f ∷ rests) e a = (a.0, AllRests-front P rests e a.1)

pub AllRests-last : (P : ℕ → List (ℤ × ℤ) → Type 0) (rests : List (ℕ × List (ℤ × ℤ))) (e : ℕ × List (ℤ × ℤ)) → AllRests P (rests ++ e ∷ []) → P e.0 e.1
AllRests-last P [] e a = a.0
AllRests-last P (f ∷ rests) e a = AllRests-last P rests e a.1

pub HasRestOf-push : (rests : List (ℕ × List (ℤ × ℤ))) (e : ℕ × List (ℤ × ℤ)) (i : ℕ) → HasRestOf rests i → HasRestOf (rests ++ e ∷ []) i
HasRestOf-push [] e i h = absurd h
HasRestOf-push (f ∷ rests) e i (inl h) = inl h
HasRestOf-push (f ∷ rests) e i (inr h) = inr (HasRestOf-push rests e i h)

pub HasRestOf-last : (rests : List (ℕ × List (ℤ × ℤ))) (e : ℕ × List (ℤ × ℤ)) (i : ℕ) → i ≡ e.0 → HasRestOf (rests ++ e ∷ []) i
HasRestOf-last [] e i h = inl h
HasRestOf-last (f ∷ rests) e i h = inr (HasRestOf-last rests e i h)

pub HasRestOf-split : (rests : List (ℕ × List (ℤ × ℤ))) (e : ℕ × List (ℤ × ℤ)) (i : ℕ) → HasRestOf (rests ++ e ∷ []) i → HasRestOf rests i ⊎ (i ≡ e.0)
HasRestOf-split [] e i (inl h) = inr h
HasRestOf-split [] e i (inr h) = absurd h
HasRestOf-split (f ∷ rests) e i (inl h) = inl (inl h)
HasRestOf-split (f ∷ rests) e i (inr h) = elim (HasRestOf-split rests e i h) [ inl k ↦ inl (inr k) | inr k ↦ inr k ]

-- where the domain of a term is empty, there is no point
pub none_has_point : (terms : List Term) (relation : Relation) (sets : ℕ → ℤ → Type 0) (x : ℕ) (v : ℤ) → AreEndsOf terms sets None → HasLinearPointAt terms relation sets x v → ⊥
none_has_point terms relation sets x v none s = none.2 (s.point none.0) (s.is_point.inside none.0 (named_by_term terms relation none.0 none.1))

-- a set whose members are kept by one test and by another
pub kept_same : (domains : List (List (ℤ × ℤ))) (x : ℕ) (L : List (ℤ × ℤ)) (S T : ℤ → Type 0) → L ≡ get_or domains x [] → ((v : ℤ) → set_at domains x v → S v ↔ T v)
    → (rest : Option (List (ℤ × ℤ))) → IsRestOf L S rest → IsRestOf (get_or domains x []) T rest
kept_same domains x L S T e same rest h = IsRestOf-same (get_or domains x []) S T same rest (subst (λ (K : List (ℤ × ℤ)). IsRestOf K S rest) e h)

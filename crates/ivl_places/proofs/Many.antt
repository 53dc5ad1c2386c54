-- The sets of a list: those of its two parts, and three sets.
use Rattle.std.proofs.Common.{◌≡◌, ◌⊎◌, ⊎_elim, inl, inr, ℕ, zero, suc, ◌-◌, ◌≤◌, ◌<◌, ℤ, List, [], ◌∷◌, map, length, get_or, take, drop, subst, arith}
use Rattle.std.specs.Prelude.{◌↔◌}
use Rattle.ivl_laws.specs.Sets.{Intersection, IsBetween, IsSubset, Union}
use Rattle.ivl_laws.specs.Runs.{Covers, IsRunsOf}
use Rattle.ivl_laws.proofs.SetLaws.{IsRunsOf-same}
use Rattle.ivl_places.specs.Many.{IsInEach, IsInSome}
use Rattle.ivl_laws.proofs.Slices.{from_place}

module _ {X : Type 0} (f : X → List (ℤ × ℤ)) where
  some_split : (xs : List X) (n : ℕ) (z : ℤ) → (IsInSome (map f (take n xs)) z ⊎ IsInSome (map f (drop n xs)) z) ↔ IsInSome (map f xs) z
  some_split [] zero z = (⊎_elim (λ s. s) (λ s. s), λ s. inl s)
  some_split [] (suc n) z = (⊎_elim (λ s. s) (λ s. s), λ s. inl s)
  some_split (x ∷ xs) zero z = (⊎_elim (λ s. absurd s) (λ s. s), λ s. inr s)
  some_split (x ∷ xs) (suc n) z = (
    ⊎_elim (⊎_elim (λ c. inl c) (λ s. inr ((some_split xs n z).0 (inl s)))) (λ s. inr ((some_split xs n z).0 (inr s))),
    ⊎_elim (λ c. inl (inl c)) (λ s. ⊎_elim (λ t. inl (inr t)) (λ t. inr t) ((some_split xs n z).1 s)),
  )

  each_split : (xs : List X) (n : ℕ) (z : ℤ) → (IsInEach (map f (take n xs)) z × IsInEach (map f (drop n xs)) z) ↔ IsInEach (map f xs) z
  each_split [] zero z = ((λ s. s.0), (λ s. (s, s)))
  each_split [] (suc n) z = ((λ s. s.0), (λ s. (s, s)))
  each_split (x ∷ xs) zero z = ((λ s. s.1), (λ s. (tt, s)))
  each_split (x ∷ xs) (suc n) z = (
    (λ s. (s.0.0, (each_split xs n z).0 (s.0.1, s.1))),
    (λ s. let t = (each_split xs n z).1 s.1 in ((s.0, t.0), t.1)),
  )

  -- L is the union of K and M, which have the sets of the two parts
  pub union_of_parts : (xs : List X) (n : ℕ) (K M L : List (ℤ × ℤ)) → IsRunsOf K (IsInSome (map f (take n xs))) → IsRunsOf M (IsInSome (map f (take (length xs - n) (drop n xs)))) →
      IsRunsOf L (Union (Covers K) (Covers M)) → IsRunsOf L (IsInSome (map f xs))
  union_of_parts xs n K M L k m = IsRunsOf-same (Union (Covers K) (Covers M)) (IsInSome (map f xs)) L (λ z.
      let upper : IsRunsOf M (IsInSome (map f (drop n xs))) = subst (λ (ys : List X). IsRunsOf M (IsInSome (map f ys))) (from_place xs n) m in (
        ⊎_elim (λ c. (some_split xs n z).0 (inl ((k.members z).0 c))) (λ c. (some_split xs n z).0 (inr ((upper.members z).0 c))),
        (λ s. ⊎_elim (λ t. inl ((k.members z).1 t)) (λ t. inr ((upper.members z).1 t)) ((some_split xs n z).1 s)),
      ))

  -- L is what K and M share, which have what the sets of the two parts share
  pub common_of_parts : (whole : ℤ × ℤ) (xs : List X) (n : ℕ) (K M L : List (ℤ × ℤ)) → IsRunsOf K (Intersection (IsBetween whole) (IsInEach (map f (take n xs)))) →
      IsRunsOf M (Intersection (IsBetween whole) (IsInEach (map f (take (length xs - n) (drop n xs))))) →
      IsRunsOf L (Intersection (Covers K) (Covers M)) → IsRunsOf L (Intersection (IsBetween whole) (IsInEach (map f xs)))
  common_of_parts whole xs n K M L k m = IsRunsOf-same (Intersection (Covers K) (Covers M)) (Intersection (IsBetween whole) (IsInEach (map f xs))) L (λ z.
      let upper : IsRunsOf M (Intersection (IsBetween whole) (IsInEach (map f (drop n xs)))) =
      subst (λ (ys : List X). IsRunsOf M (Intersection (IsBetween whole) (IsInEach (map f ys)))) (from_place xs n) m in (
        (λ c. let s = (k.members z).0 c.0 in let t = (upper.members z).0 c.1 in (s.0, (each_split xs n z).0 (s.1, t.1))),
        (λ s. let t = (each_split xs n z).1 s.1 in ((k.members z).1 (s.0, t.0), (upper.members z).1 (s.0, t.1))),
      ))

  three_items : (xs : List X) (a b d : X) → a ≡ get_or xs 0 a → b ≡ get_or xs 1 b → d ≡ get_or xs 2 d → 3 ≤ length xs → length xs < 4 → a ∷ b ∷ d ∷ [] ≡ xs
  three_items [] a b d e h k m n = absurd (omega arith)
  three_items (x ∷ []) a b d e h k m n = absurd (omega arith)
  three_items (x ∷ y ∷ []) a b d e h k m n = absurd (omega arith)
  three_items (x ∷ y ∷ w ∷ []) a b d e h k m n = cc
  three_items (x ∷ y ∷ w ∷ u ∷ xs) a b d e h k m n = absurd (omega arith)

  -- L is what a third set and K share, which is what the first two share
  pub common_of_three : (whole : ℤ × ℤ) (xs : List X) (a b d : X) (K L : List (ℤ × ℤ)) → a ≡ get_or xs 0 a → b ≡ get_or xs 1 b → d ≡ get_or xs 2 d → 3 ≤ length xs → length xs < 4 →
      IsSubset (Covers (f a)) (IsBetween whole) → IsRunsOf K (Intersection (Covers (f a)) (Covers (f b))) → IsRunsOf L (Intersection (Covers K) (Covers (f d))) →
      IsRunsOf L (Intersection (IsBetween whole) (IsInEach (map f xs)))
  common_of_three whole xs a b d K L e h k m n within r l =
      subst (λ (ys : List X). IsRunsOf L (Intersection (IsBetween whole) (IsInEach (map f ys)))) (three_items xs a b d e h k m n)
      (IsRunsOf-same (Intersection (Covers K) (Covers (f d))) (Intersection (IsBetween whole) (IsInEach (map f (a ∷ b ∷ d ∷ [])))) L (λ z. (
        (λ c. let s = (r.members z).0 c.0 in (within z s.0, (s.0, (s.1, (c.1, tt))))),
        (λ s. ((r.members z).1 (s.1.0, s.1.1.0), s.1.1.1.0)),
      )) l)

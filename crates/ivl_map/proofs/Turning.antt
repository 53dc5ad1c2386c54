-- A list that is put in the place of others.
use Rattle.std.proofs.Common.{◌≡◌, ℕ, zero, suc, ◌+◌, ◌≤◌, List, [], ◌∷◌, ◌++◌, length, take, drop, refl, ap, subst, sym, arith}

module _ {X : Type 0} where
  drop_none : (xs : List X) → drop 0 xs ≡ xs
  drop_none [] = refl
  drop_none (x ∷ xs) = refl

  take_none : (xs : List X) → take 0 xs ≡ []
  take_none [] = refl
  take_none (x ∷ xs) = refl

  -- the front of a list, and the rest behind one
  take_front : (E M : List X) (n : ℕ) → n ≡ length E → take n (E ++ M) ≡ E
  take_front [] M zero h = take_none M
  take_front [] M (suc n) h = absurd (omega arith)
  take_front (e ∷ E) M zero h = absurd (omega arith)
  take_front (e ∷ E) M (suc n) h = ap {B = List X} (λ R. e ∷ R) (take_front E M n (omega arith))

  drop_past : (M E : List X) (n e : ℕ) → n ≡ e + length M → drop n (M ++ E) ≡ drop e E
  drop_past [] E n e h = ap {B = List X} (λ k. drop k E) (omega (arith, h))
  drop_past (x ∷ M) E zero e h = absurd (omega arith)
  drop_past (x ∷ M) E (suc n) e h = drop_past M E n e (omega arith)

  pub two_more : (E : List X) (x y : X) → (E ++ x ∷ []) ++ y ∷ [] ≡ E ++ x ∷ y ∷ []
  two_more [] x y = refl
  two_more (e ∷ E) x y = ap {B = List X} (λ R. e ∷ R) (two_more E x y)

  pub joined : (A M D : List X) → (A ++ M) ++ D ≡ A ++ (M ++ D)
  joined [] M D = refl
  joined (a ∷ A) M D = ap {B = List X} (λ R. a ∷ R) (joined A M D)

  -- M put at place i, and those behind it up to place j taken out
  pub turned_over : (E M : List X) (i j m u : ℕ) → i ≤ j → j ≤ length E → m ≡ i + length M → u ≡ j + length M → take m (take i E ++ (M ++ drop i E)) ++ drop u (take i E ++ (M ++ drop i E)) ≡ take i E ++ (M ++ drop j E)
  turned_over E M zero j m u h l f g =
      let P : List X → Type 0 = λ L. take m (L ++ (M ++ drop 0 E)) ++ drop u (L ++ (M ++ drop 0 E)) ≡ L ++ (M ++ drop j E) in
      let Q : List X → Type 0 = λ L. take m (M ++ L) ++ drop u (M ++ L) ≡ M ++ drop j E in
      let A : List X → Type 0 = λ L. L ++ drop u (M ++ E) ≡ M ++ drop j E in
      let B : List X → Type 0 = λ L. M ++ L ≡ M ++ drop j E in
      subst P (sym (take_none E)) (subst Q (sym (drop_none E)) (subst A (sym (take_front M E m (omega (arith, f)))) (subst B (sym (drop_past M E u j g)) refl)))
  turned_over [] M (suc i) j m u h l f g = absurd (omega (arith, h, l))
  turned_over (e ∷ E) M (suc i) zero m u h l f g = absurd (omega (arith, h))
  turned_over (e ∷ E) M (suc i) (suc j) zero u h l f g = absurd (omega (arith, f))
  turned_over (e ∷ E) M (suc i) (suc j) (suc m) zero h l f g = absurd (omega (arith, g))
  turned_over (e ∷ E) M (suc i) (suc j) (suc m) (suc u) h l f g = ap {B = List X} (λ R. e ∷ R) (turned_over E M i j m u (omega arith) (omega arith) (omega (arith, f)) (omega (arith, g)))

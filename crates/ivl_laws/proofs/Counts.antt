-- Lemmas on how many members a set has.
use Rattle.std.proofs.Common.{◌≡◌, ℕ, suc, zero, ◌+◌, ◌≤◌, ◌⊎◌, ◌↔◌, inl, inr, ⊎_elim, ℤ, pos, negsuc, ◌+ℤ◌, ◌-ℤ◌, ◌≤ℤ◌, ◌<ℤ◌, List, [], ◌∷◌, ◌++◌, length, length-append, refl, ap, sym, subst, ◌∙◌, arith}
use Rattle.std.proofs.lemmas.Int.{ints, by_lt_z}
use lib.IntN.{ℤ_discrete}
use Rattle.ivl_laws.specs.Sets.{IsBetween, Only, SameMembers, IsSubset, Union, Intersection, Complement}
use Rattle.ivl_laws.specs.Counts.{IsIn, IsDistinct, IsCountOf}

-- ---- lists of distinct numbers

-- the list without one place of x
pub without : (x : ℤ) (ys : List ℤ) → IsIn ys x → List ℤ
without x [] h = absurd h
without x (y ∷ ys) (inl e) = ys
without x (y ∷ ys) (inr h) = y ∷ without x ys h

pub length-without : (x : ℤ) (ys : List ℤ) (h : IsIn ys x) → length ys ≡ suc (length (without x ys h))
unfolding without
length-without x [] h = absurd h
length-without x (y ∷ ys) (inl e) = refl
length-without x (y ∷ ys) (inr h) = ap suc (length-without x ys h)

pub in_without : (x z : ℤ) (ys : List ℤ) (h : IsIn ys x) → ¬ (z ≡ x) → IsIn ys z → IsIn (without x ys h) z
unfolding without
in_without x z [] h n i = absurd h
in_without x z (y ∷ ys) (inl e) n (inl f) = absurd (n (f ∙ sym e))
in_without x z (y ∷ ys) (inl e) n (inr i) = i
in_without x z (y ∷ ys) (inr h) n (inl f) = inl f
in_without x z (y ∷ ys) (inr h) n (inr i) = inr (in_without x z ys h n i)

-- distinct numbers that all stand in another list are no more than that list is long
pub length-le : (xs ys : List ℤ) → IsDistinct xs → ((z : ℤ) → IsIn xs z → IsIn ys z) → length xs ≤ length ys
length-le [] ys d f = omega arith
length-le (x ∷ xs) ys d f =
    let h : IsIn ys x = f x (inl refl) in
    let rest : length xs ≤ length (without x ys h) = length-le xs (without x ys h) d.1 (λ z i. in_without x z ys h (λ e. d.0 (subst (λ (t : ℤ). IsIn xs t) e i)) (f z (inr i))) in
    let one = length-without x ys h in
    omega arith

pub decide_in : (ys : List ℤ) (x : ℤ) → IsIn ys x ⊎ (¬ (IsIn ys x))
decide_in [] x = inr (λ h. h)
decide_in (y ∷ ys) x = by (ℤ_discrete x y) (decide_in ys x)
  where
    by : Dec (x ≡ y) → IsIn ys x ⊎ (¬ (IsIn ys x)) → IsIn (y ∷ ys) x ⊎ (¬ (IsIn (y ∷ ys) x))
    by (yes e) r = inl (inl e)
    by (no n) (inl i) = inl (inr i)
    by (no n) (inr m) = inr (⊎_elim n m)

pub in-append_left : {X : Type 0} (xs ys : List X) (x : X) → IsIn xs x → IsIn (xs ++ ys) x
in-append_left [] ys x h = absurd h
in-append_left (y ∷ xs) ys x (inl e) = inl e
in-append_left (y ∷ xs) ys x (inr h) = inr (in-append_left xs ys x h)

pub in-append_right : {X : Type 0} (xs ys : List X) (x : X) → IsIn ys x → IsIn (xs ++ ys) x
in-append_right [] ys x h = h
in-append_right (y ∷ xs) ys x h = inr (in-append_right xs ys x h)

pub in-append : {X : Type 0} (xs ys : List X) (x : X) → IsIn (xs ++ ys) x → IsIn xs x ⊎ IsIn ys x
in-append [] ys x h = inr h
in-append (y ∷ xs) ys x (inl e) = inl (inl e)
in-append (y ∷ xs) ys x (inr h) = ⊎_elim (λ a. inl (inr a)) (λ b. inr b) (in-append xs ys x h)

pub IsDistinct-append : (xs ys : List ℤ) → IsDistinct xs → IsDistinct ys → ((z : ℤ) → IsIn xs z → IsIn ys z → ⊥) → IsDistinct (xs ++ ys)
IsDistinct-append [] ys d e f = e
IsDistinct-append (x ∷ xs) ys d e f =
    ((λ h. ⊎_elim d.0 (λ i. f x (inl refl) i) (in-append xs ys x h)), IsDistinct-append xs ys d.1 e (λ z i j. f z (inr i) j))

-- ---- counts

pub count_is_monotone : (S T : ℤ → Type 0) (m n : ℕ) → IsSubset S T → IsCountOf m S → IsCountOf n T → m ≤ n
count_is_monotone S T m n f (xs, dx, ix, ex) (ys, dy, iy, ey) =
    let short = length-le xs ys dx (λ z i. (iy z).0 (f z ((ix z).1 i))) in
    omega arith

pub count_is_unique : (S : ℤ → Type 0) (m n : ℕ) → IsCountOf m S → IsCountOf n S → m ≡ n
count_is_unique S m n a b =
    let below = count_is_monotone S S m n (λ z s. s) a b in
    let above = count_is_monotone S S n m (λ z s. s) b a in
    omega arith

pub IsCountOf-same : (S T : ℤ → Type 0) (n : ℕ) → SameMembers S T → IsCountOf n S → IsCountOf n T
IsCountOf-same S T n f (xs, dx, ix, ex) = (xs, dx, (λ z. ((λ t. (ix z).0 ((f z).1 t)), (λ i. (f z).0 ((ix z).1 i)))), ex)

pub IsCountOf-none : (S : ℤ → Type 0) → ((z : ℤ) → ¬ (S z)) → IsCountOf 0 S
IsCountOf-none S f = ([], tt, (λ z. (f z, (λ i. absurd i))), refl)

pub none_of_count : (S : ℤ → Type 0) → IsCountOf 0 S → (z : ℤ) → ¬ (S z)
none_of_count S ([], d, i, e) z s = (i z).0 s
none_of_count S (x ∷ xs, d, i, e) z s = absurd (omega arith)

pub IsCountOf-only : (x : ℤ) → IsCountOf 1 (Only x)
IsCountOf-only x = (x ∷ [], ((λ i. i), tt), (λ z. ((λ e. inl e), ⊎_elim (λ e. e) (λ n. absurd n))), refl)

-- a set of one member is that member alone
pub only_of_count : (S : ℤ → Type 0) → IsCountOf 1 S → (x : ℤ) × SameMembers S (Only x)
only_of_count S ([], d, i, e) = absurd (omega arith)
only_of_count S (x ∷ [], d, i, e) = (x, λ z. ((λ s. ⊎_elim (λ f. f) (λ n. absurd n) ((i z).0 s)), (λ f. (i z).1 (inl f))))
only_of_count S (x ∷ y ∷ xs, d, i, e) = absurd (omega arith)

-- two sets with no common member
pub IsCountOf-apart : (S T : ℤ → Type 0) (m n : ℕ) → ((z : ℤ) → S z → T z → ⊥) → IsCountOf m S → IsCountOf n T → IsCountOf (m + n) (Union S T)
IsCountOf-apart S T m n f (xs, dx, ix, ex) (ys, dy, iy, ey) = (
  xs ++ ys,
  IsDistinct-append xs ys dx dy (λ z i j. f z ((ix z).1 i) ((iy z).1 j)),
  (λ z. (
    ⊎_elim (λ s. in-append_left xs ys z ((ix z).0 s)) (λ t. in-append_right xs ys z ((iy z).0 t)),
    λ i. ⊎_elim (λ a. inl ((ix z).1 a)) (λ b. inr ((iy z).1 b)) (in-append xs ys z i),
  )),
  (let e = length-append xs ys in omega arith),
)

-- n numbers from l on
pub ascending : ℤ → ℕ → List ℤ
ascending l zero = []
ascending l (suc n) = l ∷ ascending (l +ℤ pos 1) n

pub in_ascending : (l : ℤ) (n : ℕ) (z : ℤ) → IsIn (ascending l n) z → (l ≤ℤ z) × (z <ℤ (l +ℤ pos n))
unfolding ascending
in_ascending l zero z i = absurd i
in_ascending l (suc n) z (inl e) = (omega (arith, ints), omega (arith, ints))
in_ascending l (suc n) z (inr i) = let ih = in_ascending (l +ℤ pos 1) n z i in let a = ih.0 in let b = ih.1 in (omega (arith, ints), omega (arith, ints))

pub ascending_has : (l : ℤ) (n : ℕ) (z : ℤ) → l ≤ℤ z → z <ℤ (l +ℤ pos n) → IsIn (ascending l n) z
unfolding ascending
ascending_has l zero z h k = absurd (omega (arith, ints))
ascending_has l (suc n) z h k = by_lt_z l z (λ lt. inr (ascending_has (l +ℤ pos 1) n z (omega (arith, ints)) (omega (arith, ints)))) (λ le. inl (omega (arith, ints)))

pub ascending_is_distinct : (l : ℤ) (n : ℕ) → IsDistinct (ascending l n)
unfolding ascending
ascending_is_distinct l zero = tt
ascending_is_distinct l (suc n) = ((λ i. let h = (in_ascending (l +ℤ pos 1) n l i).0 in omega (arith, ints)), ascending_is_distinct (l +ℤ pos 1) n)

pub length-ascending : (l : ℤ) (n : ℕ) → length (ascending l n) ≡ n
unfolding ascending
length-ascending l zero = refl
length-ascending l (suc n) = ap suc (length-ascending (l +ℤ pos 1) n)

-- the members of an interval that is not empty
pub IsCountOf-between : (p : ℤ × ℤ) (n : ℕ) → pos n ≡ (p.1 -ℤ p.0) +ℤ pos 1 → IsCountOf n (IsBetween p)
IsCountOf-between p n e = (
  ascending p.0 n,
  ascending_is_distinct p.0 n,
  (λ z. (
    (λ b. let l = b.0 in let u = b.1 in ascending_has p.0 n z l (omega (arith, ints))),
    (λ i. let b = in_ascending p.0 n z i in let l = b.0 in let u = b.1 in (l, omega (arith, ints))),
  )),
  length-ascending p.0 n,
)

-- an integer that is not negative is a natural number
pub natural_of : (z : ℤ) → pos 0 ≤ℤ z → (n : ℕ) × (pos n ≡ z)
natural_of (pos n) h = (n, refl)
natural_of (negsuc n) h = absurd (omega (arith, ints))

-- a smaller set with as many members is the same set
pub same_count_same_members : (S T : ℤ → Type 0) (n : ℕ) → IsSubset S T → IsCountOf n S → IsCountOf n T → SameMembers S T
same_count_same_members S T n f (xs, dx, ix, ex) (ys, dy, iy, ey) z = (f z, λ t. ⊎_elim (λ i. (ix z).1 i) (λ missing. absurd (one_more t missing)) (decide_in xs z))
  where
    -- if z were missing from xs, then xs with z would be longer than ys
    one_more : T z → ¬ (IsIn xs z) → ⊥
    one_more t missing =
        let long = length-le (z ∷ xs) ys (missing, dx) (λ w. ⊎_elim (λ e. subst (λ (r : ℤ). IsIn ys r) (sym e) ((iy z).0 t)) (λ i. (iy w).0 (f w ((ix w).1 i)))) in
        omega arith

-- ---- the union and the intersection of two lists

module _ (ys : List ℤ) where
  -- the numbers of xs or ys, and those of both, each once
  pub Pooled : List ℤ → Type 0
  Pooled xs = (us : List ℤ) × (cs : List ℤ) × IsDistinct us × IsDistinct cs
      × ((z : ℤ) → (IsIn xs z ⊎ IsIn ys z) ↔ IsIn us z)
      × ((z : ℤ) → (IsIn xs z × IsIn ys z) ↔ IsIn cs z)
      × (length us + length cs ≡ length xs + length ys)

  pub pool : (xs : List ℤ) → IsDistinct xs → IsDistinct ys → Pooled xs
  unfolding Pooled
  pool [] d e = (ys, [], e, tt, (λ z. (⊎_elim (λ i. absurd i) (λ i. i), (λ i. inr i))), (λ z. ((λ i. absurd i.0), (λ i. absurd i))), omega arith)
  pool (x ∷ xs) d e = by (pool xs d.1 e) (decide_in ys x)
    where
      by : Pooled xs → IsIn ys x ⊎ (¬ (IsIn ys x)) → Pooled (x ∷ xs)
      by (us, cs, du, dc, iu, ic, l) (inl h) = (
        us,
        x ∷ cs,
        du,
        ((λ i. d.0 ((ic x).1 i).0), dc),
        (λ z. (
          ⊎_elim (⊎_elim (λ f. (iu z).0 (inr (subst (λ (t : ℤ). IsIn ys t) (sym f) h))) (λ i. (iu z).0 (inl i))) (λ i. (iu z).0 (inr i)),
          λ i. ⊎_elim (λ a. inl (inr a)) (λ b. inr b) ((iu z).1 i),
        )),
        (λ z. (
          (λ i. ⊎_elim (λ f. inl f) (λ a. inr ((ic z).0 (a, i.1))) i.0),
          ⊎_elim (λ f. (inl f, subst (λ (t : ℤ). IsIn ys t) (sym f) h)) (λ i. (inr ((ic z).1 i).0, ((ic z).1 i).1)),
        )),
        omega arith,
      )
      by (us, cs, du, dc, iu, ic, l) (inr n) = (
        x ∷ us,
        cs,
        ((λ i. ⊎_elim d.0 n ((iu x).1 i)), du),
        dc,
        (λ z. (
          ⊎_elim (⊎_elim (λ f. inl f) (λ i. inr ((iu z).0 (inl i)))) (λ i. inr ((iu z).0 (inr i))),
          ⊎_elim (λ f. inl (inl f)) (λ i. ⊎_elim (λ a. inl (inr a)) (λ b. inr b) ((iu z).1 i)),
        )),
        (λ z. (
          (λ i. ⊎_elim (λ f. absurd (n (subst (λ (t : ℤ). IsIn ys t) f i.1))) (λ a. (ic z).0 (a, i.1)) i.0),
          (λ i. (inr ((ic z).1 i).0, ((ic z).1 i).1)),
        )),
        omega arith,
      )

pub union_and_intersection : (S T : ℤ → Type 0) (a b c d : ℕ) → IsCountOf a S → IsCountOf b T → IsCountOf c (Union S T) → IsCountOf d (Intersection S T) → c + d ≡ a + b
unfolding Pooled
union_and_intersection S T a b c d (xs, dx, ix, ex) (ys, dy, iy, ey) u v = by (pool ys xs dx dy)
  where
    by : Pooled ys xs → c + d ≡ a + b
    by (us, cs, du, dc, iu, ic, l) =
        let same_union = count_is_unique (Union S T) c (length us) u
        (us, du, (λ z. ((λ s. (iu z).0 (⊎_elim (λ p. inl ((ix z).0 p)) (λ q. inr ((iy z).0 q)) s)), (λ i. ⊎_elim (λ p. inl ((ix z).1 p)) (λ q. inr ((iy z).1 q)) ((iu z).1 i)))), refl) in
        let same_common = count_is_unique (Intersection S T) d (length cs) v
        (cs, dc, (λ z. ((λ s. (ic z).0 ((ix z).0 s.0, (iy z).0 s.1)), (λ i. ((ix z).1 ((ic z).1 i).0, (iy z).1 ((ic z).1 i).1)))), refl) in
        omega arith

pub count_of_complement : (p : ℤ × ℤ) (S : ℤ → Type 0) (a b c : ℕ) → IsSubset S (IsBetween p) → IsCountOf a S → IsCountOf b (Complement p S) → IsCountOf c (IsBetween p) → a + b ≡ c
count_of_complement p S a b c f (xs, dx, ix, ex) v w =
    count_is_unique (IsBetween p) (a + b) c
    (IsCountOf-same (Union S (Complement p S)) (IsBetween p) (a + b)
    (λ z. (⊎_elim (f z) (λ n. n.0), λ i. ⊎_elim (λ h. inl ((ix z).1 h)) (λ n. inr (i, (λ s. n ((ix z).0 s)))) (decide_in xs z)))
    (IsCountOf-apart S (Complement p S) a b (λ z s n. n.1 s) (xs, dx, ix, ex) v))
    w

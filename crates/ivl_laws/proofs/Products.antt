-- Lemmas on products of numbers that lie between two others.
use Rattle.std.proofs.Common.{◌≡◌, suc, zero, ◌⊎◌, ◌↔◌, inl, inr, ⊎_elim, ℤ, pos, negsuc, ◌+ℤ◌, ◌-ℤ◌, ◌*ℤ◌, ◌≤ℤ◌, List, [], ◌∷◌, map, cond, true, false, refl, ap, sym, subst, arith, mul-le-mul_right}
use Rattle.std.proofs.lemmas.Int.{ints, clamps, by_lt_z}
use Rattle.std.specs.Int.{int_min, int_max}
use Rattle.std.specs.Int.RustNames.{int_lt}
use Rattle.ivl_laws.specs.Sets.{IsBetween, SameMembers, InOneRun, Products, ExactProducts, Sums, Differences, IsHullOf}
use Rattle.ivl_laws.specs.Runs.{Covers, IsMaximal}
use Rattle.ivl_laws.specs.Counts.{IsIn}
use Rattle.ivl_laws.specs.Arithmetic.{CoversBoth, pairwise, interval_sum, interval_difference, corner_hull}
use Rattle.ivl_laws.proofs.Counts.{in-append_left, in-append_right, in-append}
use Rattle.ivl_laws.proofs.Runs.{covered_after, ≤ℤ_trans, lower_end, upper_end}
use borrow.Author.Differences.{le_out}
use lib.IntN.{*ℤ_comm}
use lib.Signed.{≤ℤ_refl}

pub times_up : (x x' y : ℤ) → x ≤ℤ x' → pos 0 ≤ℤ y → (x *ℤ y) ≤ℤ (x' *ℤ y)
times_up x x' (pos n) h k = let s = mul-le-mul_right n (le_out x x' h) in omega (arith, ints)
times_up x x' (negsuc n) h k = absurd (omega (arith, ints))

pub times_down : (x x' y : ℤ) → x ≤ℤ x' → y ≤ℤ pos 0 → (x' *ℤ y) ≤ℤ (x *ℤ y)
times_down x x' (pos zero) h k = omega (arith, ints)
times_down x x' (pos (suc n)) h k = absurd (omega (arith, ints))
times_down x x' (negsuc n) h k = let s = mul-le-mul_right (suc n) (le_out x x' h) in omega (arith, ints)

pub int_min-le_left : (a b : ℤ) → int_min a b ≤ℤ a
int_min-le_left a b = omega (arith, ints, clamps)

pub int_min-le_right : (a b : ℤ) → int_min a b ≤ℤ b
int_min-le_right a b = omega (arith, ints, clamps)

pub int_max-ge_left : (a b : ℤ) → a ≤ℤ int_max a b
int_max-ge_left a b = omega (arith, ints, clamps)

pub int_max-ge_right : (a b : ℤ) → b ≤ℤ int_max a b
int_max-ge_right a b = omega (arith, ints, clamps)

-- a product lies between the two that take an end of the first factor's interval in its place
pub times_within : (a b x y : ℤ) → a ≤ℤ x → x ≤ℤ b → (int_min (a *ℤ y) (b *ℤ y) ≤ℤ (x *ℤ y)) × ((x *ℤ y) ≤ℤ int_max (a *ℤ y) (b *ℤ y))
times_within a b x y h k = by_lt_z y (pos 0)
    (λ n. let s : y ≤ℤ pos 0 = omega (arith, ints) in let l = times_down a x y h s in let r = times_down x b y k s in (omega (arith, ints, clamps), omega (arith, ints, clamps)))
    (λ s. let l = times_up a x y h s in let r = times_up x b y k s in (omega (arith, ints, clamps), omega (arith, ints, clamps)))

-- ---- the hull of the products of two intervals

pub by_min : (P : ℤ → Type 0) (a b : ℤ) → P a → P b → P (int_min a b)
by_min P a b x y = elim (int_lt b a) as (λ t. P (cond t b a)) [ true ↦ y | false ↦ x ]

pub by_max : (P : ℤ → Type 0) (a b : ℤ) → P a → P b → P (int_max a b)
by_max P a b x y = elim (int_lt b a) as (λ t. P (cond t a b)) [ true ↦ x | false ↦ y ]

pub min_of_four : (a b c d s t x : ℤ) → int_min s t ≤ℤ x → int_min a b ≤ℤ s → int_min c d ≤ℤ t → int_min (int_min a b) (int_min c d) ≤ℤ x
min_of_four a b c d s t x h k l = omega (arith, ints, clamps)

pub max_of_four : (a b c d s t x : ℤ) → x ≤ℤ int_max s t → s ≤ℤ int_max a b → t ≤ℤ int_max c d → x ≤ℤ int_max (int_max a b) (int_max c d)
max_of_four a b c d s t x h k l = omega (arith, ints, clamps)

-- the same for the second factor
pub times_within_right : (c d y x : ℤ) → c ≤ℤ y → y ≤ℤ d → (int_min (x *ℤ c) (x *ℤ d) ≤ℤ (x *ℤ y)) × ((x *ℤ y) ≤ℤ int_max (x *ℤ c) (x *ℤ d))
times_within_right c d y x h k = rw (*ℤ_comm x c, *ℤ_comm x d, *ℤ_comm x y) (times_within c d y x h k)

-- each product lies between the least and the greatest of the four products of the ends
pub product_within : (p q : ℤ × ℤ) (x y : ℤ) → IsBetween p x → IsBetween q y → IsBetween (corner_hull p q) (x *ℤ y)
product_within p q x y b c =
    let outer = times_within p.0 p.1 x y b.0 b.1 in
    let lower = times_within_right q.0 q.1 y p.0 c.0 c.1 in
    let upper = times_within_right q.0 q.1 y p.1 c.0 c.1 in (
      min_of_four (p.0 *ℤ q.0) (p.0 *ℤ q.1) (p.1 *ℤ q.0) (p.1 *ℤ q.1) (p.0 *ℤ y) (p.1 *ℤ y) (x *ℤ y) outer.0 lower.0 upper.0,
      max_of_four (p.0 *ℤ q.0) (p.0 *ℤ q.1) (p.1 *ℤ q.0) (p.1 *ℤ q.1) (p.0 *ℤ y) (p.1 *ℤ y) (x *ℤ y) outer.1 lower.1 upper.1,
    )

-- what holds of the product of an end of p and an end of q holds of both ends of the hull
pub by_corners : (P : ℤ → Type 0) (p q : ℤ × ℤ) → P (p.0 *ℤ q.0) → P (p.0 *ℤ q.1) → P (p.1 *ℤ q.0) → P (p.1 *ℤ q.1) → P (corner_hull p q).0 × P (corner_hull p q).1
by_corners P p q a b c d = (
  by_min P (int_min (p.0 *ℤ q.0) (p.0 *ℤ q.1)) (int_min (p.1 *ℤ q.0) (p.1 *ℤ q.1)) (by_min P (p.0 *ℤ q.0) (p.0 *ℤ q.1) a b) (by_min P (p.1 *ℤ q.0) (p.1 *ℤ q.1) c d),
  by_max P (int_max (p.0 *ℤ q.0) (p.0 *ℤ q.1)) (int_max (p.1 *ℤ q.0) (p.1 *ℤ q.1)) (by_max P (p.0 *ℤ q.0) (p.0 *ℤ q.1) a b) (by_max P (p.1 *ℤ q.0) (p.1 *ℤ q.1) c d),
)

pub hull_ends : (p q : ℤ × ℤ) → p.0 ≤ℤ p.1 → q.0 ≤ℤ q.1 → ExactProducts (IsBetween p) (IsBetween q) (corner_hull p q).0 × ExactProducts (IsBetween p) (IsBetween q) (corner_hull p q).1
hull_ends p q h k = by_corners (ExactProducts (IsBetween p) (IsBetween q)) p q
    (p.0, q.0, lower_end p h, lower_end q k, refl)
    (p.0, q.1, lower_end p h, upper_end q k, refl)
    (p.1, q.0, upper_end p h, lower_end q k, refl)
    (p.1, q.1, upper_end p h, upper_end q k, refl)

pub hull_of_products : (p q : ℤ × ℤ) → p.0 ≤ℤ p.1 → q.0 ≤ℤ q.1 → IsHullOf (corner_hull p q) (ExactProducts (IsBetween p) (IsBetween q))
hull_of_products p q h k = record {
  holds = λ z (x, y, b, c, e). subst (λ (t : ℤ). IsBetween (corner_hull p q) t) e (product_within p q x y b c);
  ends = λ _. hull_ends p q h k;
}

-- ---- two numbers in one run

pub both_covered : (L : List (ℤ × ℤ)) (x y : ℤ) → CoversBoth L x y → InOneRun (Covers L) x y
both_covered [] x y c z b = absurd c
both_covered (p ∷ L) x y (inl c) z (inl b) = inl (≤ℤ_trans p.0 x z c.0.0 b.0, ≤ℤ_trans z y p.1 b.1 c.1.1)
both_covered (p ∷ L) x y (inl c) z (inr b) = inl (≤ℤ_trans p.0 y z c.1.0 b.0, ≤ℤ_trans z x p.1 b.1 c.0.1)
both_covered (p ∷ L) x y (inr c) z b = inr (both_covered L x y c z b)

-- the first number above a run is not covered
pub free_above : (p : ℤ × ℤ) (L : List (ℤ × ℤ)) → IsMaximal (p ∷ L) → ¬ (Covers (p ∷ L) (p.1 +ℤ pos 1))
free_above p L m (inl b) = let high = b.1 in omega (arith, ints)
free_above p L m (inr c) = let far = covered_after p.1 L (p.1 +ℤ pos 1) m.1 m.2 c in omega (arith, ints)

-- both numbers of a run are members
pub run_ends : (S : ℤ → Type 0) (x y : ℤ) → InOneRun S x y → S x × S y
run_ends S x y r = by_lt_z x y
    (λ lt. let le : x ≤ℤ y = omega (arith, ints) in (r x (inl (≤ℤ_refl x, le)), r y (inl (le, ≤ℤ_refl y))))
    (λ le. (r x (inr (le, ≤ℤ_refl x)), r y (inr (≤ℤ_refl y, le))))

pub one_run_is_one_pair : (L : List (ℤ × ℤ)) (x y : ℤ) → IsMaximal L → InOneRun (Covers L) x y → CoversBoth L x y
one_run_is_one_pair [] x y m r = (run_ends (Covers []) x y r).0
one_run_is_one_pair (p ∷ L) x y m r = by (run_ends (Covers (p ∷ L)) x y r).0 (run_ends (Covers (p ∷ L)) x y r).1 (one_run_is_one_pair L x y m.2)
  where
    by : Covers (p ∷ L) x → Covers (p ∷ L) y → (InOneRun (Covers L) x y → CoversBoth L x y) → CoversBoth (p ∷ L) x y
    by (inl b) (inl c) ih = inl (b, c)
    by (inl b) (inr c) ih =
        let far = covered_after p.1 L y m.1 m.2 c in
        let high = b.1 in
        absurd (free_above p L m (r (p.1 +ℤ pos 1) (inl (omega (arith, ints), omega (arith, ints)))))
    by (inr c) (inl b) ih =
        let far = covered_after p.1 L x m.1 m.2 c in
        let high = b.1 in
        absurd (free_above p L m (r (p.1 +ℤ pos 1) (inr (omega (arith, ints), omega (arith, ints)))))
    by (inr c) (inr d) ih = inr (ih (λ z b. ⊎_elim (λ i. absurd (low z b i)) (λ i. i) (r z b)))
      where
        low : (z : ℤ) → IsBetween (x, y) z ⊎ IsBetween (y, x) z → IsBetween p z → ⊥
        low z (inl b) i =
            let far = covered_after p.1 L x m.1 m.2 c in
            let above = b.0 in
            let high = i.1 in
            omega (arith, ints)
        low z (inr b) i =
            let far = covered_after p.1 L y m.1 m.2 d in
            let above = b.0 in
            let high = i.1 in
            omega (arith, ints)

-- ---- results over each pair of runs

pub covered_by_one : (L : List (ℤ × ℤ)) (z : ℤ) → Covers L z → (p : ℤ × ℤ) × IsIn L p × IsBetween p z
covered_by_one [] z c = absurd c
covered_by_one (p ∷ L) z (inl b) = (p, inl refl, b)
covered_by_one (p ∷ L) z (inr c) = let (q, i, b) = covered_by_one L z c in (q, inr i, b)

pub one_covers : (L : List (ℤ × ℤ)) (p : ℤ × ℤ) (z : ℤ) → IsIn L p → IsBetween p z → Covers L z
one_covers [] p z i b = absurd i
one_covers (q ∷ L) p z (inl e) b = inl (subst (λ (r : ℤ × ℤ). IsBetween r z) e b)
one_covers (q ∷ L) p z (inr i) b = inr (one_covers L p z i b)

pub both_covered_by_one : (L : List (ℤ × ℤ)) (x y : ℤ) → CoversBoth L x y → (p : ℤ × ℤ) × IsIn L p × IsBetween p x × IsBetween p y
both_covered_by_one [] x y c = absurd c
both_covered_by_one (p ∷ L) x y (inl c) = (p, inl refl, c.0, c.1)
both_covered_by_one (p ∷ L) x y (inr c) = let (q, i, a, b) = both_covered_by_one L x y c in (q, inr i, a, b)

pub one_covers_both : (L : List (ℤ × ℤ)) (p : ℤ × ℤ) (x y : ℤ) → IsIn L p → IsBetween p x → IsBetween p y → CoversBoth L x y
one_covers_both [] p x y i a b = absurd i
one_covers_both (q ∷ L) p x y (inl e) a b = inl (subst (λ (r : ℤ × ℤ). IsBetween r x) e a, subst (λ (r : ℤ × ℤ). IsBetween r y) e b)
one_covers_both (q ∷ L) p x y (inr i) a b = inr (one_covers_both L p x y i a b)

pub open_in : (L : List (ℤ × ℤ)) (p : ℤ × ℤ) → IsMaximal L → IsIn L p → p.0 ≤ℤ p.1
open_in [] p m i = absurd i
open_in (q ∷ L) p m (inl e) = subst (λ (r : ℤ × ℤ). r.0 ≤ℤ r.1) (sym e) m.0
open_in (q ∷ L) p m (inr i) = open_in L p m.2 i

pub in-map : {X Y : Type 0} (f : X → Y) (xs : List X) (x : X) → IsIn xs x → IsIn (map f xs) (f x)
in-map f [] x h = absurd h
in-map f (y ∷ xs) x (inl e) = inl (ap f e)
in-map f (y ∷ xs) x (inr h) = inr (in-map f xs x h)

pub in_map : {X Y : Type 0} (f : X → Y) (xs : List X) (y : Y) → IsIn (map f xs) y → (x : X) × IsIn xs x × (y ≡ f x)
in_map f [] y h = absurd h
in_map f (x ∷ xs) y (inl e) = (x, inl refl, e)
in_map f (x ∷ xs) y (inr h) = let (w, i, e) = in_map f xs y h in (w, inr i, e)

pub in_pairwise : (f : ℤ × ℤ → ℤ × ℤ → ℤ × ℤ) (L M : List (ℤ × ℤ)) (p q : ℤ × ℤ) → IsIn L p → IsIn M q → IsIn (pairwise f L M) (f p q)
in_pairwise f [] M p q i j = absurd i
in_pairwise f (r ∷ L) M p q (inl e) j = in-append_left (map (f r) M) (pairwise f L M) (f p q) (subst (λ (s : ℤ × ℤ). IsIn (map (f r) M) (f s q)) (sym e) (in-map (f r) M q j))
in_pairwise f (r ∷ L) M p q (inr i) j = in-append_right (map (f r) M) (pairwise f L M) (f p q) (in_pairwise f L M p q i j)

pub of_pairwise : (f : ℤ × ℤ → ℤ × ℤ → ℤ × ℤ) (L M : List (ℤ × ℤ)) (r : ℤ × ℤ) → IsIn (pairwise f L M) r → (p : ℤ × ℤ) × (q : ℤ × ℤ) × IsIn L p × IsIn M q × (r ≡ f p q)
of_pairwise f [] M r i = absurd i
of_pairwise f (s ∷ L) M r i = ⊎_elim
    (λ a. let (q, j, e) = in_map (f s) M r a in (s, q, inl refl, j, e))
    (λ b. let (p, q, k, j, e) = of_pairwise f L M r b in (p, q, inr k, j, e))
    (in-append (map (f s) M) (pairwise f L M) r i)

-- a number is covered where it lies in the result of some pair of runs
pub covered_by_pairwise : (f : ℤ × ℤ → ℤ × ℤ → ℤ × ℤ) (L M : List (ℤ × ℤ)) (z : ℤ) → Covers (pairwise f L M) z → (p : ℤ × ℤ) × (q : ℤ × ℤ) × IsIn L p × IsIn M q × IsBetween (f p q) z
covered_by_pairwise f L M z c =
    let (r, i, b) = covered_by_one (pairwise f L M) z c in
    let (p, q, j, k, e) = of_pairwise f L M r i in
    (p, q, j, k, subst (λ (s : ℤ × ℤ). IsBetween s z) e b)

pub pairwise_covers : (f : ℤ × ℤ → ℤ × ℤ → ℤ × ℤ) (L M : List (ℤ × ℤ)) (p q : ℤ × ℤ) (z : ℤ) → IsIn L p → IsIn M q → IsBetween (f p q) z → Covers (pairwise f L M) z
pairwise_covers f L M p q z i j b = one_covers (pairwise f L M) (f p q) z (in_pairwise f L M p q i j) b

-- Products over maximal lists: the union over pairs of runs of the hull of their products
pub products_of_runs : (L M : List (ℤ × ℤ)) (z : ℤ) → IsMaximal L → IsMaximal M → Products (Covers L) (Covers M) z ↔ Covers (pairwise corner_hull L M) z
products_of_runs L M z l m = (there, back)
  where
    there : Products (Covers L) (Covers M) z → Covers (pairwise corner_hull L M) z
    there (x, x', y, y', r, s, low, high) =
        let (p, i, bx, bx') = both_covered_by_one L x x' (one_run_is_one_pair L x x' l r) in
        let (q, j, by, by') = both_covered_by_one M y y' (one_run_is_one_pair M y y' m s) in
        pairwise_covers corner_hull L M p q z i j (
          ≤ℤ_trans (corner_hull p q).0 (x *ℤ y) z (product_within p q x y bx by).0 low,
          ≤ℤ_trans z (x' *ℤ y') (corner_hull p q).1 high (product_within p q x' y' bx' by').1,
        )

    back : Covers (pairwise corner_hull L M) z → Products (Covers L) (Covers M) z
    back c =
        let (p, q, i, j, b) = covered_by_pairwise corner_hull L M z c in
        let ((x, y, bx, by, e), (x', y', bx', by', e')) = hull_ends p q (open_in L p l i) (open_in M q m j) in (
          x,
          x',
          y,
          y',
          both_covered L x x' (one_covers_both L p x x' i bx bx'),
          both_covered M y y' (one_covers_both M q y y' j by by'),
          subst (λ (t : ℤ). t ≤ℤ z) (sym e) b.0,
          subst (λ (t : ℤ). z ≤ℤ t) (sym e') b.1,
        )

-- ---- sums and differences

-- a number from the least to the greatest sum is a sum
pub sum_splits : (p q : ℤ × ℤ) (z : ℤ) → p.0 ≤ℤ p.1 → q.0 ≤ℤ q.1 → IsBetween (interval_sum p q) z → Sums (IsBetween p) (IsBetween q) z
sum_splits p q z h k b = let low = b.0 in let high = b.1 in by_lt_z (p.1 +ℤ q.0) z
    (λ lt. (p.1, z -ℤ p.1, (h, ≤ℤ_refl p.1), (omega (arith, ints), omega (arith, ints)), omega (arith, ints)))
    (λ le. (z -ℤ q.0, q.0, (omega (arith, ints), omega (arith, ints)), (≤ℤ_refl q.0, k), omega (arith, ints)))

pub sum_within : (p q : ℤ × ℤ) (z : ℤ) → Sums (IsBetween p) (IsBetween q) z → IsBetween (interval_sum p q) z
sum_within p q z (x, y, (a, b), (c, d), e) = (omega (arith, ints), omega (arith, ints))

pub difference_splits : (p q : ℤ × ℤ) (z : ℤ) → p.0 ≤ℤ p.1 → q.0 ≤ℤ q.1 → IsBetween (interval_difference p q) z → Differences (IsBetween p) (IsBetween q) z
difference_splits p q z h k b = let low = b.0 in let high = b.1 in by_lt_z (p.0 -ℤ q.0) z
    (λ lt. (z +ℤ q.0, q.0, (omega (arith, ints), omega (arith, ints)), (≤ℤ_refl q.0, k), omega (arith, ints)))
    (λ le. (p.0, p.0 -ℤ z, (≤ℤ_refl p.0, h), (omega (arith, ints), omega (arith, ints)), omega (arith, ints)))

pub difference_within : (p q : ℤ × ℤ) (z : ℤ) → Differences (IsBetween p) (IsBetween q) z → IsBetween (interval_difference p q) z
difference_within p q z (x, y, (a, b), (c, d), e) = (omega (arith, ints), omega (arith, ints))

pub sums_of_intervals : (p q : ℤ × ℤ) → p.0 ≤ℤ p.1 → q.0 ≤ℤ q.1 → SameMembers (IsBetween (interval_sum p q)) (Sums (IsBetween p) (IsBetween q))
sums_of_intervals p q h k z = (sum_splits p q z h k, sum_within p q z)

pub differences_of_intervals : (p q : ℤ × ℤ) → p.0 ≤ℤ p.1 → q.0 ≤ℤ q.1 → SameMembers (IsBetween (interval_difference p q)) (Differences (IsBetween p) (IsBetween q))
differences_of_intervals p q h k z = (difference_splits p q z h k, difference_within p q z)

pub sums_of_runs : (L M : List (ℤ × ℤ)) (z : ℤ) → IsMaximal L → IsMaximal M → Sums (Covers L) (Covers M) z ↔ Covers (pairwise interval_sum L M) z
sums_of_runs L M z l m = (there, back)
  where
    there : Sums (Covers L) (Covers M) z → Covers (pairwise interval_sum L M) z
    there (x, y, c, d, e) =
        let (p, i, bx) = covered_by_one L x c in
        let (q, j, by) = covered_by_one M y d in
        pairwise_covers interval_sum L M p q z i j (sum_within p q z (x, y, bx, by, e))

    back : Covers (pairwise interval_sum L M) z → Sums (Covers L) (Covers M) z
    back c =
        let (p, q, i, j, b) = covered_by_pairwise interval_sum L M z c in
        let (x, y, bx, by, e) = sum_splits p q z (open_in L p l i) (open_in M q m j) b in
        (x, y, one_covers L p x i bx, one_covers M q y j by, e)

pub differences_of_runs : (L M : List (ℤ × ℤ)) (z : ℤ) → IsMaximal L → IsMaximal M → Differences (Covers L) (Covers M) z ↔ Covers (pairwise interval_difference L M) z
differences_of_runs L M z l m = (there, back)
  where
    there : Differences (Covers L) (Covers M) z → Covers (pairwise interval_difference L M) z
    there (x, y, c, d, e) =
        let (p, i, bx) = covered_by_one L x c in
        let (q, j, by) = covered_by_one M y d in
        pairwise_covers interval_difference L M p q z i j (difference_within p q z (x, y, bx, by, e))

    back : Covers (pairwise interval_difference L M) z → Differences (Covers L) (Covers M) z
    back c =
        let (p, q, i, j, b) = covered_by_pairwise interval_difference L M z c in
        let (x, y, bx, by, e) = difference_splits p q z (open_in L p l i) (open_in M q m j) b in
        (x, y, one_covers L p x i bx, one_covers M q y j by, e)

-- The order of lists of four bytes is that of the numbers that they write, the first byte the highest.
use Rattle.std.proofs.Common.{◌≡◌, ℕ, ◌+◌, ◌*◌, ◌<◌, ◌≤◌, List, [], ◌∷◌, length, refl, arith, subst, ap, ◌∙◌}
use Rattle.std.specs.declared.cmp.Ordering.{Ordering}
use Rattle.std.specs.declared.cmp.Ordering.TheVariants.{Less, Equal, Greater}
use Rattle.std.specs.Ordering.{nat_cmp, ordering_then, MatchOrdering}
use Rattle.std.specs.Cmp.{ranks}
use Rattle.std.specs.Cmp.Lexicographic.{slice_cmp}
use Rattle.std.specs.Int.{w32, from_be_bytes}
use lib.ListN.{get_or}

abbrev Ranks : Ordering → ℕ → ℕ → Type 0
Ranks r m n = MatchOrdering r (m < n) (m ≡ n) (n < m)

one_rank : (m n : ℕ) (r s : Ordering) → Ranks r m n → Ranks s m n → r ≡ s
one_rank m n Less Less h k = refl
one_rank m n Less Equal h k = absurd (omega (arith, h, k))
one_rank m n Less Greater h k = absurd (omega (arith, h, k))
one_rank m n Equal Less h k = absurd (omega (arith, h, k))
one_rank m n Equal Equal h k = refl
one_rank m n Equal Greater h k = absurd (omega (arith, h, k))
one_rank m n Greater Less h k = absurd (omega (arith, h, k))
one_rank m n Greater Equal h k = absurd (omega (arith, h, k))
one_rank m n Greater Greater h k = refl

-- the higher part decides, and else the lower part
module _ (B : ℕ) (apart : (x y : ℕ) → x < y → x * B + B ≤ y * B) (x y p q : ℕ) (p_low : p < B) (q_low : q < B) where
  by_parts : (r s : Ordering) → Ranks r x y → Ranks s p q → Ranks (ordering_then r s) (x * B + p) (y * B + q)
  by_parts Less s h k = omega (arith, apart x y h)
  by_parts Greater s h k = omega (arith, apart y x h)
  by_parts Equal Less h k = omega (arith, ap (λ z. z * B) h, k)
  by_parts Equal Equal h k = omega (arith, ap (λ z. z * B) h, k)
  by_parts Equal Greater h k = omega (arith, ap (λ z. z * B) h, k)

  then_by_parts : ordering_then (nat_cmp x y) (nat_cmp p q) ≡ nat_cmp (x * B + p) (y * B + q)
  then_by_parts = one_rank (x * B + p) (y * B + q) _ _ (by_parts (nat_cmp x y) (nat_cmp p q) (ranks x y) (ranks p q)) (ranks (x * B + p) (y * B + q))

then_equal : (r : Ordering) → ordering_then r Equal ≡ r
then_equal Less = refl
then_equal Equal = refl
then_equal Greater = refl

of_four : (a b c d e f g h : ℕ) → a < 256 → b < 256 → c < 256 → d < 256 → e < 256 → f < 256 → g < 256 → h < 256
    → slice_cmp nat_cmp (a ∷ b ∷ c ∷ d ∷ []) (e ∷ f ∷ g ∷ h ∷ []) ≡ nat_cmp (from_be_bytes w32 (a ∷ b ∷ c ∷ d ∷ [])) (from_be_bytes w32 (e ∷ f ∷ g ∷ h ∷ []))
of_four a b c d e f g h a' b' c' d' e' f' g' h' =
    let last = then_equal (nat_cmp d h) in
    let two = ap (ordering_then (nat_cmp c g)) last ∙ then_by_parts 256 (λ x y l. omega arith) c g d h d' h' in
    let three = ap (ordering_then (nat_cmp b f)) two ∙ then_by_parts 65536 (λ x y l. omega arith) b f (c * 256 + d) (g * 256 + h) (omega arith) (omega arith) in
    let four = ap (ordering_then (nat_cmp a e)) three
    ∙ then_by_parts 16777216 (λ x y l. omega arith) a e (b * 65536 + (c * 256 + d)) (f * 65536 + (g * 256 + h)) (omega arith) (omega arith) in
    let left : a * 16777216 + (b * 65536 + (c * 256 + d)) ≡ from_be_bytes w32 (a ∷ b ∷ c ∷ d ∷ []) = omega arith in
    let right : e * 16777216 + (f * 65536 + (g * 256 + h)) ≡ from_be_bytes w32 (e ∷ f ∷ g ∷ h ∷ []) = omega arith in
    four ∙ (λ i. nat_cmp (left i) (right i))

written : (bs : List ℕ) → length bs ≡ 4 → get_or bs 0 0 ∷ get_or bs 1 0 ∷ get_or bs 2 0 ∷ get_or bs 3 0 ∷ [] ≡ bs
written [] l = absurd (omega (arith, l))
written (a ∷ []) l = absurd (omega (arith, l))
written (a ∷ b ∷ []) l = absurd (omega (arith, l))
written (a ∷ b ∷ c ∷ []) l = absurd (omega (arith, l))
written (a ∷ b ∷ c ∷ d ∷ []) l = refl
written (a ∷ b ∷ c ∷ d ∷ e ∷ bs) l = absurd (omega (arith, l))

pub order_of_bytes : (xs ys : List ℕ) → length xs ≡ 4 → length ys ≡ 4 → ((i : ℕ) → get_or xs i 0 < 256) → ((i : ℕ) → get_or ys i 0 < 256)
    → slice_cmp nat_cmp xs ys ≡ nat_cmp (from_be_bytes w32 xs) (from_be_bytes w32 ys)
order_of_bytes xs ys l m s t =
    subst (λ u. slice_cmp nat_cmp u ys ≡ nat_cmp (from_be_bytes w32 u) (from_be_bytes w32 ys)) (written xs l)
    (subst (λ v. slice_cmp nat_cmp (get_or xs 0 0 ∷ get_or xs 1 0 ∷ get_or xs 2 0 ∷ get_or xs 3 0 ∷ []) v
    ≡ nat_cmp (from_be_bytes w32 (get_or xs 0 0 ∷ get_or xs 1 0 ∷ get_or xs 2 0 ∷ get_or xs 3 0 ∷ [])) (from_be_bytes w32 v)) (written ys m)
    (of_four _ _ _ _ _ _ _ _ (s 0) (s 1) (s 2) (s 3) (t 0) (t 1) (t 2) (t 3)))

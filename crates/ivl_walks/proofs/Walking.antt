-- What a walk has left, and what its first run tells.
use Rattle.std.proofs.Common.{◌≡◌, ◌≢◌, ◌↔◌, Bool, true, false, ℕ, zero, suc, ◌+◌, ◌<◌, ◌≤◌, IsTrue, ℤ, ◌≤ℤ◌, List, [], ◌∷◌, Some, None, drop, length, arith, refl, ap, sym, subst, inl, inr}
use Rattle.std.proofs.lemmas.Int.{ints}
use Rattle.std.specs.Int.{from_bool}
use Rattle.std.specs.Prelude.{not, slice_get}
use Rattle.ivl_laws.specs.Runs.{IsMaximal}
use Rattle.ivl_laws.specs.Walks.{StartsFrom, TakesFirst}
use Rattle.ivl_walks.specs.HeldRun.{IsTakenIf}

-- a list that has something left has a first thing left, and the rest
pub left_more : (L : List (ℤ × ℤ)) (i : ℕ) → drop i L ≢ [] → (x : ℤ × ℤ) × (drop i L ≡ x ∷ drop (i + 1) L)
left_more [] zero n = absurd (n refl)
left_more [] (suc i) n = absurd (n refl)
left_more (r ∷ L) zero n = (r, refl)
left_more (r ∷ L) (suc i) n =
    let P : ℕ → Type 0 = λ m. (x : ℤ × ℤ) × (drop (suc i) (r ∷ L) ≡ x ∷ drop m (r ∷ L)) in
    let e : suc (i + 1) ≡ suc i + 1 = omega arith in
    subst P e (left_more L i n)

pub is_more : (L : List (ℤ × ℤ)) (i : ℕ) → drop i L ≢ [] → i < length L
is_more [] zero n = absurd (n refl)
is_more [] (suc i) n = absurd (n refl)
is_more (r ∷ L) zero n = omega arith
is_more (r ∷ L) (suc i) n = let more = is_more L i n in omega arith

-- ---- what `peek` answers

pub first_is_open : (L : List (ℤ × ℤ)) (a : ℤ × ℤ) → Some a ≡ slice_get L 0 → IsMaximal L → a.0 ≤ℤ a.1
first_is_open [] a e m = absurd (cc)
first_is_open (p ∷ L) a e m = let same : a ≡ p = cc in subst (λ (t : ℤ × ℤ). t.0 ≤ℤ t.1) (sym same) m.0

pub nothing_left : (L : List (ℤ × ℤ)) → None ≡ slice_get L 0 → L ≡ []
nothing_left [] e = refl
nothing_left (p ∷ L) e = absurd (cc)

starts_with : (L : List (ℤ × ℤ)) (b : ℤ × ℤ) (v : ℤ) → Some b ≡ slice_get L 0 → v ≤ℤ b.0 → StartsFrom v L
starts_with [] b v e h = tt
starts_with (p ∷ L) b v e h = let same : b ≡ p = cc in subst (λ (t : ℤ × ℤ). v ≤ℤ t.0) same h

pub is_first : (L rest : List (ℤ × ℤ)) (a x : ℤ × ℤ) → Some a ≡ slice_get L 0 → L ≡ x ∷ rest → L ≡ a ∷ rest
is_first [] rest a x e f = absurd (cc)
is_first (p ∷ L) rest a x e f = cc

pub takes_first : (A B A' : List (ℤ × ℤ)) (a b : ℤ × ℤ) → Some a ≡ slice_get A 0 → Some b ≡ slice_get B 0 → a.0 ≤ℤ b.0 → (x : ℤ × ℤ) × (A ≡ x ∷ A') → TakesFirst A B A' B a
takes_first A B A' a b e f h (x, g) = inl (is_first A A' a x e g, refl, starts_with B b a.0 f h)

pub takes_second : (A B B' : List (ℤ × ℤ)) (a b : ℤ × ℤ) → Some a ≡ slice_get A 0 → Some b ≡ slice_get B 0 → b.0 ≤ℤ a.0 → (x : ℤ × ℤ) × (B ≡ x ∷ B') → TakesFirst A B A B' b
takes_second A B B' a b e f h (x, g) = inr (is_first B B' b x f g, refl, starts_with A a b.0 e h)

-- ---- what the two lists have left where one of them gives its first run, by a test

one_less : (L M : List (ℤ × ℤ)) → (x : ℤ × ℤ) × (L ≡ x ∷ M) → length L ≡ length M + 1
one_less L M (x, e) = let n = ap {B = ℕ} (λ (N : List (ℤ × ℤ)). length N) e in omega arith

pub one_is_taken : (test : Bool) (A B A' B' : List (ℤ × ℤ)) → IsTakenIf test A A' → IsTakenIf (not test) B B' → length A + length B ≡ (length A' + length B') + 1
one_is_taken true A B A' B' taken kept = let one = one_less A A' taken in let same = ap {B = ℕ} (λ (N : List (ℤ × ℤ)). length N) kept in omega arith
one_is_taken false A B A' B' kept taken = let one = one_less B B' taken in let same = ap {B = ℕ} (λ (N : List (ℤ × ℤ)). length N) kept in omega arith

-- a test of two values whose numbers are bounds of two runs
pub test_of_bounds : (test : Bool) (x y a b : ℤ) → x ≡ a → y ≡ b → (IsTrue test ↔ (x ≤ℤ y)) → IsTrue test ↔ (a ≤ℤ b)
test_of_bounds test x y a b e f t = ((λ p. let h = t.0 p in omega (arith, ints)), (λ h. t.1 (omega (arith, ints))))

-- where a walk stands in the list of its set
pub taken_if : (test : Bool) (L : List (ℤ × ℤ)) (i j : ℕ) → (IsTrue test → drop i L ≢ []) → j ≡ from_bool test → IsTakenIf test (drop i L) (drop (i + j) L)
taken_if true L i j n e = rw e (left_more L i (n refl))
taken_if false L i j n e = let same : i + j ≡ i = omega (arith, e) in ap (λ (k : ℕ). drop k L) same

pub place_if : (test : Bool) (L : List (ℤ × ℤ)) (i j : ℕ) → (IsTrue test → drop i L ≢ []) → j ≡ from_bool test → i ≤ length L → i + j ≤ length L
place_if true L i j n e h = let more = is_more L i (n refl) in omega (arith, e, more)
place_if false L i j n e h = omega (arith, e, h)

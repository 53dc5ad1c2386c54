-- How long the runs of pages are at most, by groups of pages that stand in a row.
--     place_count N      the sum of the elements of N
--     bounds_of size N M      the number of each element of M, as often as the element of N at its place says
--     cut s e N      of places in groups of as many as N says, those from s to before e are taken out
--     IsGroup N i g left      of places in groups of as many as N says, place i is in group g, and `left` places of it are before
--     AreAtMost A B      A and B are equally long, and no element of A is above that of B at its place
--     NoneLonger n S      nowhere in S stand more than n numbers in a row
--     AreBounded A P      A has an element for each page of P, which no run of the page exceeds
--     HasLong n P k      page k of P has n numbers in a row
--     IsNextLong n P i k      page k of P, from place i on, is the first that has
--     IsNextLongPart n P i r      from i on, the pages of P before place r.0 have no n numbers in a row; r.1 is a higher place
--     IsNextPart A i n r      from i on, the elements of A before place r.0 are below n; r.1 is a higher place
use Rattle.std.specs.Prelude.{◌≡◌, ℕ, zero, suc, ◌+◌, ◌-◌, ◌<◌, ◌≤◌, ℤ, List, [], ◌∷◌, ◌++◌, length, min, replicate, slice_index_or}
use Rattle.ivl_laws.specs.Families.{set_at}
use Rattle.ivl_laws.specs.Runs.{Covers}
use Rattle.ivl_places.specs.FirstFit.{FitsAt}

abbrev pub place_count : List ℕ → ℕ
place_count [] = 0
place_count (n ∷ N) = n + place_count N

abbrev pub bounds_of : {X : Type 0} → (X → ℕ) → List ℕ → List X → List ℕ
bounds_of size [] M = []
bounds_of size (n ∷ N) [] = []
bounds_of size (n ∷ N) (x ∷ M) = replicate n (size x) ++ bounds_of size N M

abbrev pub cut : ℕ → ℕ → List ℕ → List ℕ
cut s e [] = []
cut s e (n ∷ N) = (min s n + (n - e)) ∷ cut (s - n) (e - n) N

abbrev pub IsGroup : List ℕ → ℕ → ℕ → ℕ → Type 0
IsGroup [] i g left = ⊥
IsGroup (n ∷ N) i zero left = (i ≡ left) × (left < n)
IsGroup (n ∷ N) i (suc g) left = (n ≤ i) × IsGroup N (i - n) g left

abbrev pub AreAtMost : List ℕ → List ℕ → Type 0
AreAtMost [] [] = Unit {0}
AreAtMost [] (b ∷ B) = ⊥
AreAtMost (a ∷ A) [] = ⊥
AreAtMost (a ∷ A) (b ∷ B) = (a ≤ b) × AreAtMost A B

abbrev pub NoneLonger : ℕ → (ℤ → Type 0) → Type 0
NoneLonger n S = (m : ℕ) (v : ℤ) → FitsAt m S v → m ≤ n

abbrev pub AreBounded : List ℕ → List (List (ℤ × ℤ)) → Type 0
AreBounded [] [] = Unit {0}
AreBounded [] (L ∷ P) = ⊥
AreBounded (n ∷ A) [] = ⊥
AreBounded (n ∷ A) (L ∷ P) = NoneLonger n (Covers L) × AreBounded A P

-- from place r.0 to before place r.1 are places of one group
pub record IsNextPart (A : List ℕ) (i n : ℕ) (r : ℕ × ℕ) : Type 0 where
  pub from : i ≤ r.0
  pub in_order : r.0 ≤ r.1
  pub on : i < r.1
  pub at_most : r.1 ≤ length A
  pub passed : (k : ℕ) → i ≤ k → k < r.0 → slice_index_or A k 0 < n

abbrev pub HasLong : ℕ → List (List (ℤ × ℤ)) → ℕ → Type 0
HasLong n P k = (v : ℤ) × FitsAt n (set_at P k) v

-- the pages before it have not
pub record IsNextLong (n : ℕ) (P : List (List (ℤ × ℤ))) (i k : ℕ) : Type 0 where
  pub from : i ≤ k
  pub less : k < length P
  pub long : HasLong n P k
  pub passed : (j : ℕ) → i ≤ j → j < k → ¬ (HasLong n P j)

-- from place r.0 to before place r.1 some pages may have n numbers in a row
pub record IsNextLongPart (n : ℕ) (P : List (List (ℤ × ℤ))) (i : ℕ) (r : ℕ × ℕ) : Type 0 where
  pub from : i ≤ r.0
  pub in_order : r.0 ≤ r.1
  pub on : i < r.1
  pub at_most : r.1 ≤ length P
  pub passed : (k : ℕ) → i ≤ k → k < r.0 → ¬ (HasLong n P k)

-- The runs of pages: where a number stands, and what edits of the list of pages make of it.
use Rattle.std.proofs.Common.{◌≡◌, ◌⊎◌, ⊎_elim, inl, inr, ℕ, zero, suc, ◌+◌, ◌-◌, ◌/◌, ◌<◌, ◌≤◌, ℤ, pos, ◌+ℤ◌, ◌-ℤ◌, ◌≤ℤ◌, ◌<ℤ◌, List, [], ◌∷◌, ◌++◌, length, get_or, take, drop, set, true, false, Bool, cond, IsTrue, ◌↔◌, refl, sym, ap, subst, ◌∙◌, arith, append_assoc, append-nil, ap₂}
use Rattle.std.specs.Prelude.{Err, Ok, OnErr, OnOk, Result, Some, slice_get}
use Rattle.std.proofs.Math.Seq.{take-add}
use Rattle.std.proofs.lemmas.Int.{ints, by_lt_z}
use Rattle.ivl_laws.specs.Families.{set_at}
use Rattle.ivl_laws.specs.Sets.{AtLeast, Below, HasSome, IsBetween, IsSubset, Union, Without}
use Rattle.ivl_laws.specs.Runs.{Covers, IsMaximal, IsRunListIn, IsRunsOf}
use Rattle.ivl_laws.proofs.Runs.{covered_after, lower_end, runs_are_unique}
use Rattle.ivl_laws.proofs.Lengths.{free_below}
use Rattle.ivl_laws.proofs.Ranges.{IsRunListIn-runs}
use Rattle.ivl_laws.proofs.Places.{covers_at, in_at, open_at, runs_ascend, start_in}
use Rattle.ivl_laws.proofs.Merging.{covers-append, covers-append_left, covers-append_right}
use Rattle.ivl_places.specs.Neighbours.{IsLeast}
use Rattle.ivl_walks.proofs.MergeState.{IsMaximal-append}
use Rattle.ivl_paged.specs.Pages.{IsPageSpan, StartsUpTo, flattened}

-- ---- where a number stands

pub covers_page : (P : List (List (ℤ × ℤ))) (k : ℕ) (z : ℤ) → set_at P k z → Covers (flattened P) z
covers_page [] k z c = absurd c
covers_page (L ∷ P) zero z c = covers-append_left L (flattened P) z c
covers_page (L ∷ P) (suc k) z c = covers-append_right L (flattened P) z (covers_page P k z c)

pub page_of : (P : List (List (ℤ × ℤ))) (z : ℤ) → Covers (flattened P) z → (k : ℕ) × (k < length P) × set_at P k z
page_of [] z c = absurd c
page_of (L ∷ P) z c = ⊎_elim
    (λ a. (zero, omega arith, a))
    (λ b. let (k, h, s) = page_of P z b in (suc k, omega arith, s))
    (covers-append L (flattened P) z c)

pub covers_taken : (P : List (List (ℤ × ℤ))) (i : ℕ) (z : ℤ) → Covers (flattened (take i P)) z → (k : ℕ) × (k < i) × set_at P k z
covers_taken P zero z c = absurd c
covers_taken [] (suc i) z c = absurd c
covers_taken (L ∷ P) (suc i) z c = ⊎_elim
    (λ a. (zero, omega arith, a))
    (λ b. let (k, h, s) = covers_taken P i z b in (suc k, omega arith, s))
    (covers-append L (flattened (take i P)) z c)

pub taken_covers : (P : List (List (ℤ × ℤ))) (i k : ℕ) (z : ℤ) → k < i → set_at P k z → Covers (flattened (take i P)) z
taken_covers P zero k z h c = absurd (omega arith)
taken_covers [] (suc i) k z h c = absurd c
taken_covers (L ∷ P) (suc i) zero z h c = covers-append_left L (flattened (take i P)) z c
taken_covers (L ∷ P) (suc i) (suc k) z h c = covers-append_right L (flattened (take i P)) z (taken_covers P i k z (omega arith) c)

pub covers_dropped : (P : List (List (ℤ × ℤ))) (j : ℕ) (z : ℤ) → Covers (flattened (drop j P)) z → (k : ℕ) × (j ≤ k) × set_at P k z
covers_dropped P zero z c = let (k, h, s) = page_of P z c in (k, omega arith, s)
covers_dropped [] (suc j) z c = absurd c
covers_dropped (L ∷ P) (suc j) z c = let (k, h, s) = covers_dropped P j z c in (suc k, omega arith, s)

pub dropped_covers : (P : List (List (ℤ × ℤ))) (j k : ℕ) (z : ℤ) → j ≤ k → set_at P k z → Covers (flattened (drop j P)) z
dropped_covers P zero k z h c = covers_page P k z c
dropped_covers [] (suc j) k z h c = absurd c
dropped_covers (L ∷ P) (suc j) zero z h c = absurd (omega arith)
dropped_covers (L ∷ P) (suc j) (suc k) z h c = dropped_covers P j k z (omega arith) c

-- ---- pages put together

pub flattened-append : (P Q : List (List (ℤ × ℤ))) → flattened (P ++ Q) ≡ flattened P ++ flattened Q
flattened-append [] Q = refl
flattened-append (L ∷ P) Q = ap (λ (M : List (ℤ × ℤ)). L ++ M) (flattened-append P Q) ∙ sym (append_assoc L (flattened P) (flattened Q))

pub cut_at : (P : List (List (ℤ × ℤ))) (i : ℕ) → flattened P ≡ flattened (take i P) ++ flattened (drop i P)
cut_at P zero = refl
cut_at [] (suc i) = refl
cut_at (L ∷ P) (suc i) = ap (λ (M : List (ℤ × ℤ)). L ++ M) (cut_at P i) ∙ sym (append_assoc L (flattened (take i P)) (flattened (drop i P)))

pub set_page : (P : List (List (ℤ × ℤ))) (i : ℕ) (M : List (ℤ × ℤ)) → i < length P → flattened (set P i M) ≡ flattened (take i P) ++ (M ++ flattened (drop (i + 1) P))
set_page [] i M h = absurd (omega arith)
set_page (L ∷ P) zero M h = refl
set_page (L ∷ P) (suc i) M h =
    let e : suc i + 1 ≡ suc (i + 1) = omega arith in
    ap (λ (N : List (ℤ × ℤ)). L ++ N) (set_page P i M (omega arith))
    ∙ sym (append_assoc L (flattened (take i P)) (M ++ flattened (drop (i + 1) P)))
    ∙ ap (λ (n : ℕ). flattened (take (suc i) (L ∷ P)) ++ (M ++ flattened (drop n (L ∷ P)))) (sym e)

-- ---- two lists of which one follows the other

pub IsMaximal-first : (A B : List (ℤ × ℤ)) → IsMaximal (A ++ B) → IsMaximal A
IsMaximal-first [] B m = tt
IsMaximal-first (p ∷ []) B m = (m.0, tt, tt)
IsMaximal-first (p ∷ q ∷ A) B m = (m.0, m.1, IsMaximal-first (q ∷ A) B m.2)

pub IsMaximal-second : (A B : List (ℤ × ℤ)) → IsMaximal (A ++ B) → IsMaximal B
IsMaximal-second [] B m = m
IsMaximal-second (p ∷ A) B m = IsMaximal-second A B m.2

pub parts_apart : (A B : List (ℤ × ℤ)) (x y : ℤ) → IsMaximal (A ++ B) → Covers A x → Covers B y → (x +ℤ pos 2) ≤ℤ y
parts_apart [] B x y m c d = absurd c
parts_apart (p ∷ A) B x y m (inl b) d = let far = covered_after p.1 (A ++ B) y m.1 m.2 (covers-append_right A B y d) in omega (arith, ints, far, b.1)
parts_apart (p ∷ A) B x y m (inr c) d = parts_apart A B x y m.2 c d

-- of two pages the later one leaves a number free above the earlier one
pub pages_ascend : (P : List (List (ℤ × ℤ))) (i k : ℕ) (x y : ℤ) → IsMaximal (flattened P) → i < k → set_at P i x → set_at P k y → (x +ℤ pos 2) ≤ℤ y
pages_ascend [] i k x y m h c d = absurd c
pages_ascend (L ∷ P) i zero x y m h c d = absurd (omega arith)
pages_ascend (L ∷ P) zero (suc k) x y m h c d = parts_apart L (flattened P) x y m c (covers_page P k y d)
pages_ascend (L ∷ P) (suc i) (suc k) x y m h c d = pages_ascend P i k x y (IsMaximal-second L (flattened P) m) (omega arith) c d

pub IsMaximal-taken : (P : List (List (ℤ × ℤ))) (i : ℕ) → IsMaximal (flattened P) → IsMaximal (flattened (take i P))
IsMaximal-taken P i m = IsMaximal-first (flattened (take i P)) (flattened (drop i P)) (subst IsMaximal (cut_at P i) m)

pub IsMaximal-dropped : (P : List (List (ℤ × ℤ))) (i : ℕ) → IsMaximal (flattened P) → IsMaximal (flattened (drop i P))
IsMaximal-dropped P i m = IsMaximal-second (flattened (take i P)) (flattened (drop i P)) (subst IsMaximal (cut_at P i) m)

pub page_is_maximal : (P : List (List (ℤ × ℤ))) (k : ℕ) → IsMaximal (flattened P) → IsMaximal (get_or P k [])
page_is_maximal [] k m = tt
page_is_maximal (L ∷ P) zero m = IsMaximal-first L (flattened P) m
page_is_maximal (L ∷ P) (suc k) m = page_is_maximal P k (IsMaximal-second L (flattened P) m)

-- ---- a search

pub order_of : (a b : ℕ) → (a < b) ⊎ (b ≤ a)
order_of a zero = inr (omega arith)
order_of zero (suc b) = inl (omega arith)
order_of (suc a) (suc b) = ⊎_elim (λ h. inl (omega arith)) (λ h. inr (omega arith)) (order_of a b)

-- a search that has come to `first`, with `left` pages to look at
pub record IsSearched (P : List (List (ℤ × ℤ))) (v : ℤ) (first left : ℕ) : Type 0 where
  pub at_most : first + left ≤ length P
  pub starts : 0 < first → (z : ℤ) × set_at P (first - 1) z × (z ≤ℤ v)
  pub above : (k : ℕ) (z : ℤ) → first + left ≤ k → set_at P k z → v <ℤ z

pub search_begins : (P : List (List (ℤ × ℤ))) (v : ℤ) (n : ℕ) → n ≡ length P → IsSearched P v 0 n
search_begins P v n e = record {
  at_most = omega (arith, e);
  starts = λ h. absurd (omega arith);
  above = λ k z h c. absurd (beyond P k z (omega (arith, e)) c);
}
  where
    beyond : (P : List (List (ℤ × ℤ))) (k : ℕ) (z : ℤ) → length P ≤ k → set_at P k z → ⊥
    beyond [] k z h c = c
    beyond (L ∷ P) zero z h c = absurd (omega arith)
    beyond (L ∷ P) (suc k) z h c = beyond P k z (omega arith) c

-- page m is the last of the next `half`, and h its least number
module _ (P : List (List (ℤ × ℤ))) (v h : ℤ) (first left half rest m : ℕ) (r : IsMaximal (flattened P)) (s : IsSearched P v first left)
    (parts : half + rest ≡ left) (most : left ≤ half + half) (place : m + 1 ≡ first + half) (here : set_at P m h) (least : (z : ℤ) → set_at P m z → h ≤ℤ z) where
  pub search_goes_up : h ≤ℤ v → IsSearched P v (first + half) rest
  search_goes_up le = record {
    at_most = let a = s.at_most in omega (arith, a, parts);
    starts = λ some. (h, subst (λ (k : ℕ). set_at P k h) (omega (arith, place)) here, le);
    above = λ k z o c. s.above k z (omega (arith, o, parts)) c;
  }

  pub search_stays : v <ℤ h → half ≤ rest + 1 → IsSearched P v first rest
  search_stays lt near = record {
    at_most = let a = s.at_most in omega (arith, a, parts);
    starts = s.starts;
    above = λ k z o c. ⊎_elim
        (λ far. let x = pages_ascend P m k h z r far here c in omega (arith, ints, x, lt))
        (λ same. let x = least z (subst (λ (j : ℕ). set_at P j z) (omega (arith, o, near, place, same)) c) in omega (arith, ints, x, lt))
        (order_of m k);
  }

-- the test t of the page's least number h decides
pub search_goes : (P : List (List (ℤ × ℤ))) (v h : ℤ) (first left half next m : ℕ) (t : Bool) → IsMaximal (flattened P) → IsSearched P v first left →
    0 < half → half ≤ left → left ≤ half + half → half + half ≤ left + 1 → m ≡ first + half - 1 → IsLeast h (set_at P m) → (IsTrue t ↔ (h ≤ℤ v)) →
    next ≡ cond t (first + half) first → IsSearched P v next (left - half)
search_goes P v h first left half next m true r s some all most near place here k e =
    subst (λ (n : ℕ). IsSearched P v n (left - half)) (sym e)
    (search_goes_up P v h first left half (left - half) m r s (omega (arith, all)) most (omega (arith, place, some)) here.0 here.1 (k.0 refl))
search_goes P v h first left half next m false r s some all most near place here k e =
    subst (λ (n : ℕ). IsSearched P v n (left - half)) (sym e)
    (search_stays P v h first left half (left - half) m r s (omega (arith, all)) most (omega (arith, place, some)) here.0 here.1
    (by_lt_z v h (λ lt. lt) (λ le. let u = k.1 le in absurd (cc))) (omega (arith, near, all)))

pub search_ends : (P : List (List (ℤ × ℤ))) (v : ℤ) (first left : ℕ) → IsSearched P v first left → left ≡ 0 → StartsUpTo P v first
search_ends P v first left s e = record {
  at_most = let a = s.at_most in omega (arith, a);
  starts = s.starts;
  above = λ k z o c. s.above k z (omega (arith, o, e)) c;
}

-- pages before the last of those that start up to v end below it
pub ends_below : (P : List (List (ℤ × ℤ))) (v : ℤ) (n k : ℕ) (z : ℤ) → IsMaximal (flattened P) → StartsUpTo P v n → k + 1 < n → set_at P k z → (z +ℤ pos 2) ≤ℤ v
ends_below P v n k z m s h c =
    let (y, d, le) = s.starts (omega arith) in
    let far = pages_ascend P k (n - 1) z y m (omega arith) c d in
    omega (arith, ints, far, le)

pub is_page_span : (P : List (List (ℤ × ℤ))) (u v : ℤ) (a b i j : ℕ) → IsMaximal (flattened P) → 0 < length P → u ≤ℤ v → StartsUpTo P u a → StartsUpTo P v b →
    i ≡ a - 1 → (b ≤ j) × (1 ≤ j) × ((j ≡ b) ⊎ (j ≡ 1)) → IsPageSpan P u v i j
is_page_span P u v a b i j m some o s t ei (le, one, which) =
    let ordered : a ≤ b = ⊎_elim
    (λ lt. let (z, c, up) = s.starts (omega arith) in let far = t.above (a - 1) z (omega arith) c in absurd (omega (arith, ints, up, far, o)))
    (λ le. le) (order_of b a) in
    let most = t.at_most in
    record {
      in_order = omega (arith, ei, ordered, le, one);
      at_most = ⊎_elim (λ e. omega (arith, e, most)) (λ e. omega (arith, e, some)) which;
      below = λ k z h c. ends_below P u a k z m s (omega (arith, h, ei)) c;
      from = λ k z h c. s.above k z (omega (arith, h, ei)) c;
      to = λ k z h c. ends_below P v b k z m t (⊎_elim (λ e. omega (arith, e, h)) (λ e. absurd (omega (arith, e, h))) which) c;
      above = λ k z h c. t.above k z (omega (arith, h, le)) c;
      last = λ several. ⊎_elim
          (λ e. subst (λ (n : ℕ). (z : ℤ) × set_at P (n - 1) z × (z ≤ℤ v)) (sym e) (t.starts (omega (arith, several, e))))
          (λ e. absurd (omega (arith, several, e)))
          which;
    }

-- the value v is in no page but the last of those that start up to it
pub in_page : (P : List (List (ℤ × ℤ))) (v : ℤ) (n : ℕ) → IsMaximal (flattened P) → StartsUpTo P v n → Covers (flattened P) v → (0 < n) × set_at P (n - 1) v
in_page P v n m s c =
    let (k, h, a) = page_of P v c in
    ⊎_elim
    (λ lt. ⊎_elim
    (λ less. absurd (let far = ends_below P v n k v m s less a in omega (arith, ints, far)))
    (λ le. (omega arith, subst (λ (j : ℕ). set_at P j v) (omega arith) a))
    (order_of (k + 1) n))
    (λ le. absurd (let far = s.above k v le a in omega (arith, ints, far)))
    (order_of k n)

-- the same for N, the list as a caller sees it, and L, which is that page
pub found_in_page : (P : List (List (ℤ × ℤ))) (N L : List (ℤ × ℤ)) (v : ℤ) (n : ℕ) (t : Bool) → IsMaximal (flattened P) → StartsUpTo P v n → flattened P ≡ N → L ≡ get_or P (n - 1) [] →
    (IsTrue t ↔ Covers L v) → IsTrue t ↔ Covers N v
found_in_page P N L v n t m s e f k = (
  (λ h. subst (λ (K : List (ℤ × ℤ)). Covers K v) e (covers_page P (n - 1) v (subst (λ (K : List (ℤ × ℤ)). Covers K v) f (k.0 h)))),
  (λ c. k.1 (subst (λ (K : List (ℤ × ℤ)). Covers K v) (sym f) (in_page P v n m s (subst (λ (K : List (ℤ × ℤ)). Covers K v) (sym e) c)).1)),
)

pub in_no_page : (P : List (List (ℤ × ℤ))) (N : List (ℤ × ℤ)) (v : ℤ) (n : ℕ) → IsMaximal (flattened P) → StartsUpTo P v n → flattened P ≡ N → n ≡ 0 → IsTrue false ↔ Covers N v
in_no_page P N v n m s e none = (
  (λ h. absurd (cc)),
  (λ c. absurd (let some = (in_page P v n m s (subst (λ (K : List (ℤ × ℤ)). Covers K v) (sym e) c)).0 in omega (arith, some, none))),
)

-- L is the first page
pub in_first_page : (P : List (List (ℤ × ℤ))) (N L : List (ℤ × ℤ)) (z : ℤ) → Some L ≡ slice_get P 0 → flattened P ≡ N → Covers L z → Covers N z
in_first_page [] N L z e f c = absurd (cc)
in_first_page (K ∷ P) N L z e f c =
    let same : L ≡ K = cc in
    subst (λ (M : List (ℤ × ℤ)). Covers M z) f (covers-append_left K (flattened P) z (subst (λ (M : List (ℤ × ℤ)). Covers M z) same c))

-- ---- a list M in the place of the pages from i to before j

-- where page k stands beside those from i to before j
data Beside (i j k : ℕ) : Type 0 where
  Before : k < i → Beside i j k
  First : k ≡ i → Beside i j k
  Amid : i < k → k + 1 < j → Beside i j k
  Last : k ≡ j - 1 → Beside i j k
  After : j ≤ k → Beside i j k

beside : (i j k : ℕ) → Beside i j k
beside i j k = ⊎_elim
    (λ lt. Before lt)
    (λ le. ⊎_elim
    (λ lt. ⊎_elim
    (λ less. Amid lt less)
    (λ more. ⊎_elim (λ h. Last (omega arith)) (λ h. After h) (order_of k j))
    (order_of (k + 1) j))
    (λ same. First (omega arith))
    (order_of i k))
    (order_of k i)

module _ (P : List (List (ℤ × ℤ))) (M : List (ℤ × ℤ)) (i j : ℕ) (S : ℤ → Type 0) (m : IsMaximal (flattened P)) (n : IsMaximal M) (o : i < j)
    (low : (k : ℕ) (x y : ℤ) → k < i → set_at P k x → Covers M y → (x +ℤ pos 2) ≤ℤ y)
    (high : (k : ℕ) (x y : ℤ) → j ≤ k → Covers M x → set_at P k y → (x +ℤ pos 2) ≤ℤ y)
    (before : (k : ℕ) (z : ℤ) → k < i → set_at P k z → S z) (here : (z : ℤ) → Covers M z → S z) (after : (k : ℕ) (z : ℤ) → j ≤ k → set_at P k z → S z)
    (all : (z : ℤ) → S z → ((k : ℕ) × ((k < i) ⊎ (j ≤ k)) × set_at P k z) ⊎ Covers M z) where
  apart : (x y : ℤ) → Covers (flattened (take i P)) x → Covers (M ++ flattened (drop j P)) y → (x +ℤ pos 2) ≤ℤ y
  apart x y c d =
      let (k, h, a) = covers_taken P i x c in
      ⊎_elim (λ e. low k x y h a e) (λ e. let (l, g, b) = covers_dropped P j y e in pages_ascend P k l x y m (omega arith) a b) (covers-append M (flattened (drop j P)) y d)

  apart_above : (x y : ℤ) → Covers M x → Covers (flattened (drop j P)) y → (x +ℤ pos 2) ≤ℤ y
  apart_above x y c d = let (l, g, b) = covers_dropped P j y d in high l x y g c b

  pub spliced_pages : IsRunsOf (flattened (take i P) ++ (M ++ flattened (drop j P))) S
  spliced_pages = record {
    maximal = IsMaximal-append (flattened (take i P)) (M ++ flattened (drop j P)) (IsMaximal-taken P i m) (IsMaximal-append M (flattened (drop j P)) n (IsMaximal-dropped P j m) apart_above) apart;
    members = λ z. (
      (λ c. ⊎_elim
          (λ d. let (k, h, a) = covers_taken P i z d in before k z h a)
          (λ d. ⊎_elim (λ e. here z e) (λ e. let (k, h, a) = covers_dropped P j z e in after k z h a) (covers-append M (flattened (drop j P)) z d))
          (covers-append (flattened (take i P)) (M ++ flattened (drop j P)) z c)),
      (λ s. ⊎_elim
          (λ (k, w, a). ⊎_elim
          (λ h. covers-append_left (flattened (take i P)) (M ++ flattened (drop j P)) z (taken_covers P i k z h a))
          (λ h. covers-append_right (flattened (take i P)) (M ++ flattened (drop j P)) z (covers-append_right M (flattened (drop j P)) z (dropped_covers P j k z h a))) w)
          (λ d. covers-append_right (flattened (take i P)) (M ++ flattened (drop j P)) z (covers-append_left M (flattened (drop j P)) z d))
          (all z s)),
    );
  }

-- ---- the numbers of an interval added

module _ (whole : ℤ × ℤ) (P : List (List (ℤ × ℤ))) (M : List (ℤ × ℤ)) (p : ℤ × ℤ) (v : ℤ) (i j : ℕ) (r : IsRunListIn whole (flattened P)) (filled : p.0 ≤ℤ p.1)
    (next : (v ≡ p.1 +ℤ pos 1) ⊎ ((v ≡ p.1) × (p.1 ≡ whole.1))) (s : IsPageSpan P p.0 v i j)
    (made : IsRunsOf M (Union (Union (set_at P i) (set_at P (j - 1))) (IsBetween p))) where
  far_above : (k : ℕ) (z : ℤ) → j ≤ k → set_at P k z → (p.1 +ℤ pos 2) ≤ℤ z
  far_above k z h c =
      let a = s.above k z h c in
      ⊎_elim
      (λ e. omega (arith, ints, a, e))
      (λ (e, f). absurd (let w = (r.within z (covers_page P k z c)).1 in omega (arith, ints, a, e, f, w)))
      next

  inserted_all : (z : ℤ) → Union (Covers (flattened P)) (IsBetween p) z → ((k : ℕ) × ((k < i) ⊎ (j ≤ k)) × set_at P k z) ⊎ Covers M z
  inserted_all z (inr b) = inr ((made.members z).1 (inr b))
  inserted_all z (inl c) =
      let (k, h, a) = page_of P z c in
      elim (beside i j k) [
        | Before lt ↦ inl (k, inl lt, a)
        | First e ↦ inr ((made.members z).1 (inl (inl (subst (λ (l : ℕ). set_at P l z) e a))))
        | Amid lt less ↦ inr ((made.members z).1 (inr (
            let x = s.from k z lt a in
            let y = s.to k z less a in
            (omega (arith, ints, x), ⊎_elim (λ e. omega (arith, ints, y, e)) (λ (e, f). omega (arith, ints, y, e)) next)
            )))
        | Last e ↦ inr ((made.members z).1 (inl (inr (subst (λ (l : ℕ). set_at P l z) e a))))
        | After le ↦ inl (k, inr le, a)
      ]

  pub inserted : IsRunsOf (flattened (take i P) ++ (M ++ flattened (drop j P))) (Union (Covers (flattened P)) (IsBetween p))
  inserted =
      let o = s.in_order in
      spliced_pages P M i j (Union (Covers (flattened P)) (IsBetween p)) r.maximal made.maximal o
      (λ k x y h c d. ⊎_elim
      (⊎_elim (λ a. pages_ascend P k i x y r.maximal h c a) (λ a. pages_ascend P k (j - 1) x y r.maximal (omega arith) c a))
      (λ b. let far = s.below k x h c in let low = b.0 in omega (arith, ints, far, low)) ((made.members y).0 d))
      (λ k x y h c d. ⊎_elim
      (⊎_elim (λ a. pages_ascend P i k x y r.maximal (omega arith) a d) (λ a. pages_ascend P (j - 1) k x y r.maximal (omega arith) a d))
      (λ b. let far = far_above k y h d in let up = b.1 in omega (arith, ints, far, up)) ((made.members x).0 c))
      (λ k z h c. inl (covers_page P k z c))
      (λ z c. ⊎_elim (⊎_elim (λ a. inl (covers_page P i z a)) (λ a. inl (covers_page P (j - 1) z a))) (λ b. inr b) ((made.members z).0 c))
      (λ k z h c. inl (covers_page P k z c))
      inserted_all

-- ---- the numbers of an interval removed

module _ (P : List (List (ℤ × ℤ))) (M : List (ℤ × ℤ)) (p : ℤ × ℤ) (i j : ℕ) (m : IsMaximal (flattened P)) (s : IsPageSpan P p.0 p.1 i j)
    (made : IsRunsOf M (Without (Union (set_at P i) (set_at P (j - 1))) (IsBetween p))) where
  removed_all : (z : ℤ) → Without (Covers (flattened P)) (IsBetween p) z → ((k : ℕ) × ((k < i) ⊎ (j ≤ k)) × set_at P k z) ⊎ Covers M z
  removed_all z (c, n) =
      let (k, h, a) = page_of P z c in
      elim (beside i j k) [
        | Before lt ↦ inl (k, inl lt, a)
        | First e ↦ inr ((made.members z).1 (inl (subst (λ (l : ℕ). set_at P l z) e a), n))
        | Amid lt less ↦ absurd (n (
            let x = s.from k z lt a in
            let y = s.to k z less a in
            (omega (arith, ints, x), omega (arith, ints, y))
            ))
        | Last e ↦ inr ((made.members z).1 (inr (subst (λ (l : ℕ). set_at P l z) e a), n))
        | After le ↦ inl (k, inr le, a)
      ]

  pub removed : IsRunsOf (flattened (take i P) ++ (M ++ flattened (drop j P))) (Without (Covers (flattened P)) (IsBetween p))
  removed =
      let o = s.in_order in
      spliced_pages P M i j (Without (Covers (flattened P)) (IsBetween p)) m made.maximal o
      (λ k x y h c d. ⊎_elim
      (λ a. pages_ascend P k i x y m h c a) (λ a. pages_ascend P k (j - 1) x y m (omega arith) c a) ((made.members y).0 d).0)
      (λ k x y h c d. ⊎_elim
      (λ a. pages_ascend P i k x y m (omega arith) a d) (λ a. pages_ascend P (j - 1) k x y m (omega arith) a d) ((made.members x).0 c).0)
      (λ k z h c. (covers_page P k z c, λ b. let far = s.below k z h c in let low = b.0 in omega (arith, ints, far, low)))
      (λ z c. let (u, n) = (made.members z).0 c in (⊎_elim (λ a. covers_page P i z a) (λ a. covers_page P (j - 1) z a) u, n))
      (λ k z h c. (covers_page P k z c, λ b. let far = s.above k z h c in let up = b.1 in omega (arith, ints, far, up)))
      removed_all

-- ---- the first and the last of the pages, together with an interval or without it

pub with_both : (P : List (List (ℤ × ℤ))) (A Z J M : List (ℤ × ℤ)) (p : ℤ × ℤ) (i j : ℕ) → A ≡ get_or P i [] → Z ≡ get_or P (j - 1) [] → IsRunsOf J (Union (Covers A) (Covers Z)) →
    IsRunsOf M (Union (Covers J) (IsBetween p)) → IsRunsOf M (Union (Union (set_at P i) (set_at P (j - 1))) (IsBetween p))
with_both P A Z J M p i j e f both made =
    let C : ℤ → List (ℤ × ℤ) → Type 0 = λ z L. Covers L z in
    record {
      maximal = made.maximal;
      members = λ z. (
        (λ c. ⊎_elim (λ a. inl (⊎_elim (λ b. inl (subst (C z) e b)) (λ b. inr (subst (C z) f b)) ((both.members z).0 a))) (λ b. inr b) ((made.members z).0 c)),
        ⊎_elim (λ u. (made.members z).1 (inl ((both.members z).1 (⊎_elim (λ b. inl (subst (C z) (sym e) b)) (λ b. inr (subst (C z) (sym f) b)) u)))) (λ b. (made.members z).1 (inr b)),
      );
    }

pub rest_of_both : (P : List (List (ℤ × ℤ))) (A Z J M : List (ℤ × ℤ)) (p : ℤ × ℤ) (i j : ℕ) → A ≡ get_or P i [] → Z ≡ get_or P (j - 1) [] → IsRunsOf J (Union (Covers A) (Covers Z)) →
    IsRunsOf M (Without (Covers J) (IsBetween p)) → IsRunsOf M (Without (Union (set_at P i) (set_at P (j - 1))) (IsBetween p))
rest_of_both P A Z J M p i j e f both made =
    let C : ℤ → List (ℤ × ℤ) → Type 0 = λ z L. Covers L z in
    record {
      maximal = made.maximal;
      members = λ z. (
        (λ c. let (a, n) = (made.members z).0 c in (⊎_elim (λ b. inl (subst (C z) e b)) (λ b. inr (subst (C z) f b)) ((both.members z).0 a), n)),
        (λ (u, n). (made.members z).1 ((both.members z).1 (⊎_elim (λ b. inl (subst (C z) (sym e) b)) (λ b. inr (subst (C z) (sym f) b)) u), n)),
      );
    }

-- ---- the same where it is one page

pub inserted_in_one : (whole : ℤ × ℤ) (P : List (List (ℤ × ℤ))) (M : List (ℤ × ℤ)) (p : ℤ × ℤ) (v : ℤ) (i j : ℕ) → IsRunListIn whole (flattened P) → p.0 ≤ℤ p.1 →
    (v ≡ p.1 +ℤ pos 1) ⊎ ((v ≡ p.1) × (p.1 ≡ whole.1)) → IsPageSpan P p.0 v i j → j - i ≡ 1 → IsRunsOf M (Union (set_at P i) (IsBetween p)) →
    IsRunsOf (flattened (set P i M)) (Union (Covers (flattened P)) (IsBetween p))
inserted_in_one whole P M p v i j r filled next s one made =
    let o = s.in_order in
    let most = s.at_most in
    let last : j ≡ i + 1 = omega arith in
    let same : j - 1 ≡ i = omega arith in
    let Q : ℕ → Type 0 = λ k. IsRunsOf (flattened (take i P) ++ (M ++ flattened (drop k P))) (Union (Covers (flattened P)) (IsBetween p)) in
    subst (λ (L : List (ℤ × ℤ)). IsRunsOf L (Union (Covers (flattened P)) (IsBetween p))) (sym (set_page P i M (omega arith)))
    (subst Q last (inserted whole P M p v i j r filled next s (record {
      maximal = made.maximal;
      members = λ z. (
        (λ c. ⊎_elim (λ a. inl (inl a)) (λ b. inr b) ((made.members z).0 c)),
        ⊎_elim (⊎_elim (λ a. (made.members z).1 (inl a)) (λ a. (made.members z).1 (inl (subst (λ (k : ℕ). set_at P k z) same a)))) (λ b. (made.members z).1 (inr b)),
      );
    })))

pub removed_from_one : (P : List (List (ℤ × ℤ))) (M : List (ℤ × ℤ)) (p : ℤ × ℤ) (i : ℕ) → IsMaximal (flattened P) → IsPageSpan P p.0 p.1 i (i + 1) →
    IsRunsOf M (Without (set_at P i) (IsBetween p)) → IsRunsOf (flattened (take i P) ++ (M ++ flattened (drop (i + 1) P))) (Without (Covers (flattened P)) (IsBetween p))
removed_from_one P M p i m s made =
    let same : i + 1 - 1 ≡ i = omega arith in
    removed P M p i (i + 1) m s (record {
      maximal = made.maximal;
      members = λ z. (
        (λ c. let (a, n) = (made.members z).0 c in (inl a, n)),
        (λ (u, n). (made.members z).1 (⊎_elim (λ a. a) (λ a. subst (λ (k : ℕ). set_at P k z) same a) u, n)),
      );
    })

pub removed_in_one : (P : List (List (ℤ × ℤ))) (M : List (ℤ × ℤ)) (p : ℤ × ℤ) (i : ℕ) → IsMaximal (flattened P) → IsPageSpan P p.0 p.1 i (i + 1) →
    IsRunsOf M (Without (set_at P i) (IsBetween p)) → IsRunsOf (flattened (set P i M)) (Without (Covers (flattened P)) (IsBetween p))
removed_in_one P M p i m s made =
    let most = s.at_most in
    subst (λ (L : List (ℤ × ℤ)). IsRunsOf L (Without (Covers (flattened P)) (IsBetween p))) (sym (set_page P i M (omega arith))) (removed_from_one P M p i m s made)

-- the page lies within the interval
pub removed_whole : (P : List (List (ℤ × ℤ))) (p : ℤ × ℤ) (i : ℕ) → IsMaximal (flattened P) → IsPageSpan P p.0 p.1 i (i + 1) → IsSubset (set_at P i) (IsBetween p) →
    IsRunsOf (flattened (take i P ++ drop (suc i) P)) (Without (Covers (flattened P)) (IsBetween p))
removed_whole P p i m s within =
    let more : i + 1 ≡ suc i = omega arith in
    subst (λ (n : ℕ). IsRunsOf (flattened (take i P ++ drop n P)) (Without (Covers (flattened P)) (IsBetween p))) more
    (subst (λ (L : List (ℤ × ℤ)). IsRunsOf L (Without (Covers (flattened P)) (IsBetween p))) (sym (flattened-append (take i P) (drop (i + 1) P)))
    (removed_from_one P [] p i m s (record { maximal = tt; members = λ z. ((λ c. absurd c), (λ (a, n). absurd (n (within z a)))) })))

-- ---- a page in two

pub halved : (L low high : List (ℤ × ℤ)) (v : ℤ) (i : ℕ) (d : ℤ × ℤ) → IsMaximal L → i < length L → v ≡ (get_or L i d).0 →
    IsRunsOf low (Below v (Covers L)) → IsRunsOf high (AtLeast v (Covers L)) → low ++ high ≡ L
halved L low high v i d m h e l r = runs_are_unique (low ++ high) L (IsMaximal-append low high l.maximal r.maximal apart) m members
  where
    free : ¬ (Covers L (v -ℤ pos 1))
    free = subst (λ z. ¬ (Covers L (z -ℤ pos 1))) (sym e) (free_below L (get_or L i d).0 m (start_in L (get_or L i d) (in_at L i d h)))

    apart : (x y : ℤ) → Covers low x → Covers high y → (x +ℤ pos 2) ≤ℤ y
    apart x y c f =
        let (a, lt) = (l.members x).0 c in
        let le = ((r.members y).0 f).1 in
        by_lt_z x (v -ℤ pos 1)
        (λ far. omega (arith, ints, far, le))
        (λ near. let same : x ≡ v -ℤ pos 1 = omega (arith, ints, near, lt) in absurd (free (subst (Covers L) same a)))

    members : (z : ℤ) → (Covers (low ++ high) z → Covers L z) × (Covers L z → Covers (low ++ high) z)
    members z = (
      (λ c. ⊎_elim (λ a. ((l.members z).0 a).0) (λ a. ((r.members z).0 a).0) (covers-append low high z c)),
      (λ c. by_lt_z z v
          (λ lt. covers-append_left low high z ((l.members z).1 (c, lt)))
          (λ le. covers-append_right low high z ((r.members z).1 (c, le)))),
    )

-- d is a run of L above the first
pub record IsMiddle (L : List (ℤ × ℤ)) (d : ℤ × ℤ) : Type 0 where
  pub filled : d.0 ≤ℤ d.1
  pub under : (x : ℤ) × Covers L x × (x <ℤ d.0)
  pub here : Covers L d.0
  pub place : (i : ℕ) × (i < length L) × (d ≡ get_or L i d)

pub is_middle : (L R : List (ℤ × ℤ)) (d : ℤ × ℤ) → R ≡ L → 1 < length L → IsMaximal L → d ≡ get_or R (length R / 2) d → IsMiddle L d
is_middle L R d e h m at =
    let i = length L / 2 in
    let less : i < length L = omega arith in
    let some : 0 < i = omega arith in
    let is : d ≡ get_or L i d = subst (λ (N : List (ℤ × ℤ)). d ≡ get_or N (length N / 2) d) e at in
    let filled : d.0 ≤ℤ d.1 = subst (λ (p : ℤ × ℤ). p.0 ≤ℤ p.1) (sym is) (open_at L i d m less) in
    let first = open_at L 0 d m (omega arith) in
    let far = runs_ascend L 0 i d m some less in
    let start : d.0 ≡ (get_or L i d).0 = ap (λ (p : ℤ × ℤ). p.0) is in
    record {
      filled = filled;
      under = ((get_or L 0 d).0, covers_at L 0 d (get_or L 0 d).0 (omega arith) (lower_end (get_or L 0 d) first), omega (arith, ints, first, far, start));
      here = covers_at L i d d.0 less (subst (λ (p : ℤ × ℤ). IsBetween p d.0) is (lower_end d filled));
      place = (i, less, is);
    }

pub low_half : (L M : List (ℤ × ℤ)) (d : ℤ × ℤ) (v : ℤ) → IsMiddle L d → v ≡ d.0 → IsRunsOf M (Below v (Covers L)) → HasSome (Covers M)
low_half L M d v h e r = let (x, c, lt) = h.under in (x, (r.members x).1 (c, omega (arith, ints, lt, e)))

pub high_half : (L M : List (ℤ × ℤ)) (d : ℤ × ℤ) (v : ℤ) → IsMiddle L d → v ≡ d.0 → IsRunsOf M (AtLeast v (Covers L)) → HasSome (Covers M)
high_half L M d v h e r = (d.0, (r.members d.0).1 (h.here, omega (arith, ints, e)))

pub both_halves : (L low high : List (ℤ × ℤ)) (d : ℤ × ℤ) (v : ℤ) → IsMaximal L → IsMiddle L d → v ≡ d.0 → IsRunsOf low (Below v (Covers L)) → IsRunsOf high (AtLeast v (Covers L)) → low ++ high ≡ L
both_halves L low high d v m h e l r = let (i, less, is) = h.place in halved L low high v i d m less (e ∙ ap (λ (p : ℤ × ℤ). p.0) is) l r

-- the second half put behind page i, and the first in its place
pub split_page : (P : List (List (ℤ × ℤ))) (low high : List (ℤ × ℤ)) (i : ℕ) → i < length P → low ++ high ≡ get_or P i [] → flattened (set (take (i + 1) P ++ high ∷ drop (i + 1) P) i low) ≡ flattened P
split_page [] low high i h e = absurd (omega arith)
split_page (L ∷ P) low high zero h e = sym (append_assoc low high (flattened P)) ∙ ap (λ (N : List (ℤ × ℤ)). N ++ flattened P) e
split_page (L ∷ P) low high (suc i) h e =
    let more : suc i + 1 ≡ suc (i + 1) = omega arith in
    ap (λ (n : ℕ). flattened (set (take n (L ∷ P) ++ high ∷ drop n (L ∷ P)) (suc i) low)) more ∙ ap (λ (N : List (ℤ × ℤ)). L ++ N) (split_page P low high i (omega arith) e)

put_behind : (P D : List (List (ℤ × ℤ))) (i : ℕ) (M : List (ℤ × ℤ)) → i < length P → set (take (i + 1) P ++ D) i M ≡ take i P ++ M ∷ D
put_behind [] D i M h = absurd (omega arith)
put_behind (L ∷ P) D zero M h = refl
put_behind (L ∷ P) D (suc i) M h =
    let e : suc i + 1 ≡ suc (i + 1) = omega arith in
    ap (λ (n : ℕ). set (take n (L ∷ P) ++ D) (suc i) M) e ∙ ap (λ (N : List (List (ℤ × ℤ))). L ∷ N) (put_behind P D i M (omega arith))

kept_there : (P D : List (List (ℤ × ℤ))) (i : ℕ) → i < length P → i < length (take (i + 1) P ++ D)
kept_there [] D i h = absurd (omega arith)
kept_there (L ∷ P) D zero h = omega arith
kept_there (L ∷ P) D (suc i) h =
    let e : suc i + 1 ≡ suc (i + 1) = omega arith in
    let n = kept_there P D i (omega arith) in
    subst (λ (k : ℕ). suc i < length (take k (L ∷ P) ++ D)) (sym e) (omega (arith, n))

-- Q has the pages up to i, and those from j on
pub page_there : (P Q : List (List (ℤ × ℤ))) (i j : ℕ) → i < j → j ≤ length P → Q ≡ take (i + 1) P ++ drop j P → i < length Q
page_there P Q i j o most e = subst (λ (R : List (List (ℤ × ℤ))). i < length R) (sym e) (kept_there P (drop j P) i (omega (arith, o, most)))

-- a page M in the place of those from i to before j
pub replace_pages : (P : List (List (ℤ × ℤ))) (M : List (ℤ × ℤ)) (i j : ℕ) → i < length P →
    flattened (set (take (i + 1) P ++ drop j P) i M) ≡ flattened (take i P) ++ (M ++ flattened (drop j P))
replace_pages P M i j h = ap flattened (put_behind P (drop j P) i M h) ∙ flattened-append (take i P) (M ∷ drop j P)

-- what is left after a change that may have failed is a list of runs in the range
pub within_after : {A E : Type 0} (whole : ℤ × ℤ) (r : Result A E) (L N : List (ℤ × ℤ)) (S : ℤ → Type 0) → IsRunListIn whole L → IsSubset S (IsBetween whole) →
    OnOk r (IsRunsOf N S) → OnErr r (N ≡ L) → IsRunListIn whole N
within_after whole (Ok u) L N S l h made same = IsRunListIn-runs whole N S made h
within_after whole (Err e) L N S l h made same = subst (IsRunListIn whole) (sym same) l

-- the first page of a list that has none
pub first_page : (P : List (List (ℤ × ℤ))) (N M : List (ℤ × ℤ)) (p : ℤ × ℤ) → length P ≡ 0 → flattened P ≡ N → IsRunsOf M (IsBetween p) → IsRunsOf M (Union (Covers N) (IsBetween p))
first_page (L ∷ P) N M p none e made = absurd (omega arith)
first_page [] N M p none e made = record {
  maximal = made.maximal;
  members = λ z. (
    (λ c. inr ((made.members z).0 c)),
    ⊎_elim (λ c. absurd (subst (λ (L : List (ℤ × ℤ)). Covers L z) (sym e) c)) (λ b. (made.members z).1 b),
  );
}

-- the runs of the pages before place i, and those of page i
pub flattened_more : (P : List (List (ℤ × ℤ))) (i : ℕ) (d : List (ℤ × ℤ)) → i < length P → flattened (take (i + 1) P) ≡ flattened (take i P) ++ get_or P i d
flattened_more [] i d h = absurd (omega arith)
flattened_more (L ∷ P) zero d h = append-nil L
flattened_more (L ∷ P) (suc i) d h =
    let more : suc i + 1 ≡ suc (i + 1) = omega arith in
    ap (λ (n : ℕ). flattened (take n (L ∷ P))) more
    ∙ ap (λ (N : List (ℤ × ℤ)). L ++ N) (flattened_more P i d (omega arith))
    ∙ sym (append_assoc L (flattened (take i P)) (get_or P i d))

-- the first page has a member
pub has_page : (P : List (List (ℤ × ℤ))) (N L : List (ℤ × ℤ)) (z : ℤ) → L ≡ get_or P 0 [] → flattened P ≡ N → Covers L z → Covers N z
has_page P N L z e f c = subst (λ (M : List (ℤ × ℤ)). Covers M z) f (covers_page P 0 z (subst (λ (M : List (ℤ × ℤ)). Covers M z) e c))

-- a page with a run has a member
pub page_filled : (R : List (ℤ × ℤ)) → IsMaximal R → 0 < length R → HasSome (Covers R)
page_filled [] m h = absurd (omega arith)
page_filled (p ∷ R) m h = (p.0, inl (lower_end p m.0))

-- the runs from place i to before place j put behind F and those before place i
pub parts_so_far : (P : List (List (ℤ × ℤ))) (F R M : List (ℤ × ℤ)) (i j : ℕ) → i ≤ j → flattened P ≡ F ++ take i R → M ≡ take (j - i) (drop i R) → flattened (P ++ M ∷ []) ≡ F ++ take j R
parts_so_far P F R M i j h e f =
    let more : i + (j - i) ≡ j = omega arith in
    flattened-append P (M ∷ [])
    ∙ ap₂ (λ (A B : List (ℤ × ℤ)). A ++ B) e (append-nil M ∙ f)
    ∙ append_assoc F (take i R) (take (j - i) (drop i R))
    ∙ ap (λ (A : List (ℤ × ℤ)). F ++ A) (sym (take-add i (j - i) R))
    ∙ ap (λ (n : ℕ). F ++ take n R) more

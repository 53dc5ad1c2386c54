-- Lemmas on lists of runs by place, and on the ends of runs.
use Rattle.std.proofs.Common.{◌≡◌, ℕ, suc, zero, ◌+◌, ◌*◌, ◌<◌, inl, inr, ℤ, pos, ◌+ℤ◌, ◌-ℤ◌, ◌≤ℤ◌, List, [], ◌∷◌, ◌++◌, map, take, drop, length, get_or, refl, ap, sym, subst, ◌∙◌, arith, Contains, IsPermutation}
use Rattle.std.proofs.lemmas.Int.{ints, by_lt_z}
use Rattle.std.proofs.lemmas.List.Sorted.{Contains-permutation, IsPermutation-sym}
use Rattle.ivl_laws.specs.Sets.{IsBetween, IsSubset, SameMembers}
use Rattle.ivl_laws.specs.Runs.{Covers, StartsAfter, IsMaximal, IsRunsOf}
use Rattle.ivl_laws.specs.Counts.{IsIn}
use Rattle.ivl_laws.specs.Arithmetic.{pairwise}
use Rattle.ivl_laws.proofs.Runs.{covered_after, ≤ℤ_antisymm, lower_end, upper_end}
use Rattle.ivl_laws.proofs.Products.{covered_by_one, one_covers, open_in}
use Rattle.ivl_laws.proofs.Lengths.{starts, free_below, length-map}

-- ---- `IsIn` and std's `Contains`

pub in_at : {X : Type 0} (xs : List X) (i : ℕ) (d : X) → i < length xs → IsIn xs (get_or xs i d)
in_at [] i d h = absurd (omega arith)
in_at (x ∷ xs) zero d h = inl refl
in_at (x ∷ xs) (suc i) d h = inr (in_at xs i d (omega arith))

pub in_from_contains : {X : Type 0} (xs : List X) (x : X) → Contains xs x → IsIn xs x
in_from_contains xs x (k, h, e) = subst (IsIn xs) e (in_at xs k x h)

pub contains_from_in : {X : Type 0} (xs : List X) (x : X) → IsIn xs x → Contains xs x
contains_from_in [] x i = absurd i
contains_from_in (y ∷ xs) x (inl e) = (0, omega arith, sym e)
contains_from_in (y ∷ xs) x (inr i) = let (k, h, e) = contains_from_in xs x i in (suc k, omega arith, e)

-- the same pairs in another order cover the same numbers
pub covers_more : (L M : List (ℤ × ℤ)) → IsPermutation L M → (z : ℤ) → Covers L z → Covers M z
covers_more L M h z c = let (p, i, b) = covered_by_one L z c in one_covers M p z (in_from_contains M p (Contains-permutation L M p h (contains_from_in L p i))) b

pub covers-permutation : (L M : List (ℤ × ℤ)) → IsPermutation L M → SameMembers (Covers L) (Covers M)
covers-permutation L M h z = (covers_more L M h z, covers_more M L (IsPermutation-sym L M h) z)

-- ---- by place

-- the run at a place covers its numbers
pub covers_at : (L : List (ℤ × ℤ)) (i : ℕ) (d : ℤ × ℤ) (z : ℤ) → i < length L → IsBetween (get_or L i d) z → Covers L z
covers_at L i d z h b = one_covers L (get_or L i d) z (in_at L i d h) b

pub place_of_covered : (L : List (ℤ × ℤ)) (d : ℤ × ℤ) (z : ℤ) → Covers L z → (i : ℕ) × (i < length L) × IsBetween (get_or L i d) z
place_of_covered [] d z c = absurd c
place_of_covered (p ∷ L) d z (inl b) = (0, omega arith, b)
place_of_covered (p ∷ L) d z (inr c) = let (i, h, b) = place_of_covered L d z c in (suc i, omega arith, b)

pub open_at : (L : List (ℤ × ℤ)) (i : ℕ) (d : ℤ × ℤ) → IsMaximal L → i < length L → (get_or L i d).0 ≤ℤ (get_or L i d).1
open_at L i d m h = open_in L (get_or L i d) m (in_at L i d h)

-- of two runs the later one leaves a number free above the earlier one
pub runs_ascend : (L : List (ℤ × ℤ)) (i j : ℕ) (d : ℤ × ℤ) → IsMaximal L → i < j → j < length L → ((get_or L i d).1 +ℤ pos 2) ≤ℤ (get_or L j d).0
runs_ascend [] i j d m h k = absurd (omega arith)
runs_ascend (p ∷ L) zero zero d m h k = absurd (omega arith)
runs_ascend (p ∷ L) zero (suc j) d m h k =
    covered_after p.1 L (get_or L j d).0 m.1 m.2 (covers_at L j d (get_or L j d).0 (omega arith) (lower_end (get_or L j d) (open_at L j d m.2 (omega arith))))
runs_ascend (p ∷ L) (suc i) zero d m h k = absurd (omega arith)
runs_ascend (p ∷ L) (suc i) (suc j) d m h k = runs_ascend L i j d m.2 (omega arith) (omega arith)

-- a list is maximal where each run is one and leaves a number free before the next
pub maximal_from_places : (L : List (ℤ × ℤ)) (d : ℤ × ℤ) → ((i : ℕ) → i < length L → (get_or L i d).0 ≤ℤ (get_or L i d).1) →
    ((i : ℕ) → i + 1 < length L → ((get_or L i d).1 +ℤ pos 2) ≤ℤ (get_or L (i + 1) d).0) → IsMaximal L
maximal_from_places [] d f g = tt
maximal_from_places (p ∷ []) d f g = (f 0 (omega arith), tt, tt)
maximal_from_places (p ∷ q ∷ L) d f g = (
  f 0 (omega arith),
  g 0 (omega arith),
  maximal_from_places (q ∷ L) d (λ i h. f (suc i) (omega arith))
      (λ i h. let e : suc i + 1 ≡ suc (i + 1) = omega arith in subst (λ (k : ℕ). ((get_or (p ∷ q ∷ L) (suc i) d).1 +ℤ pos 2) ≤ℤ (get_or (p ∷ q ∷ L) k d).0) e (g (suc i) (omega arith))),
)

pub IsMaximal-drop : (L : List (ℤ × ℤ)) (k : ℕ) → IsMaximal L → IsMaximal (drop k L)
IsMaximal-drop [] zero m = tt
IsMaximal-drop [] (suc k) m = tt
IsMaximal-drop (p ∷ L) zero m = m
IsMaximal-drop (p ∷ L) (suc k) m = IsMaximal-drop L k m.2

pub covers-drop : (L : List (ℤ × ℤ)) (k : ℕ) → IsSubset (Covers (drop k L)) (Covers L)
covers-drop [] zero z c = c
covers-drop [] (suc k) z c = c
covers-drop (p ∷ L) zero z c = c
covers-drop (p ∷ L) (suc k) z c = inr (covers-drop L k z c)

pub StartsAfter-take : (u : ℤ) (L : List (ℤ × ℤ)) (k : ℕ) → StartsAfter u L → StartsAfter u (take k L)
StartsAfter-take u [] zero s = tt
StartsAfter-take u [] (suc k) s = tt
StartsAfter-take u (p ∷ L) zero s = tt
StartsAfter-take u (p ∷ L) (suc k) s = s

pub IsMaximal-take : (L : List (ℤ × ℤ)) (k : ℕ) → IsMaximal L → IsMaximal (take k L)
IsMaximal-take [] zero m = tt
IsMaximal-take [] (suc k) m = tt
IsMaximal-take (p ∷ L) zero m = tt
IsMaximal-take (p ∷ L) (suc k) m = (m.0, StartsAfter-take p.1 L k m.1, IsMaximal-take L k m.2)

pub covers-take : (L : List (ℤ × ℤ)) (k : ℕ) → IsSubset (Covers (take k L)) (Covers L)
covers-take [] zero z c = c
covers-take [] (suc k) z c = c
covers-take (p ∷ L) zero z c = absurd c
covers-take (p ∷ L) (suc k) z (inl b) = inl b
covers-take (p ∷ L) (suc k) z (inr c) = inr (covers-take L k z c)

-- ---- the ends of runs

pub start_in : (L : List (ℤ × ℤ)) (p : ℤ × ℤ) → IsIn L p → IsIn (starts L) p.0
start_in [] p i = absurd i
start_in (q ∷ L) p (inl e) = inl (ap (λ (r : ℤ × ℤ). r.0) e)
start_in (q ∷ L) p (inr i) = inr (start_in L p i)

-- the number above an end is not covered
pub free_above_end : (L : List (ℤ × ℤ)) (p : ℤ × ℤ) → IsMaximal L → IsIn L p → ¬ (Covers L (p.1 +ℤ pos 1))
free_above_end [] p m i c = absurd i
free_above_end (q ∷ L) p m (inl e) (inl b) = let high = b.1 in let f = ap (λ (r : ℤ × ℤ). r.1) e in omega (arith, ints)
free_above_end (q ∷ L) p m (inl e) (inr c) = let f = ap (λ (r : ℤ × ℤ). r.1) e in let far = covered_after q.1 L (p.1 +ℤ pos 1) m.1 m.2 c in omega (arith, ints)
free_above_end (q ∷ L) p m (inr i) (inl b) =
    let o = open_in L p m.2 i in
    let far = covered_after q.1 L p.1 m.1 m.2 (one_covers L p p.1 i (upper_end p o)) in
    let high = b.1 in
    omega (arith, ints)
free_above_end (q ∷ L) p m (inr i) (inr c) = free_above_end L p m.2 i c

-- each end of a run of what a list covers is an end of some pair of the list
pub lower_of_some : (R N : List (ℤ × ℤ)) (r : ℤ × ℤ) → IsRunsOf R (Covers N) → IsIn R r → (p : ℤ × ℤ) × IsIn N p × IsBetween p r.0 × (p.0 ≡ r.0)
lower_of_some R N r h i =
    let open_run = open_in R r h.maximal i in
    let (p, j, b) = covered_by_one N r.0 ((h.members r.0).0 (one_covers R r r.0 i (lower_end r open_run))) in (
      p,
      j,
      b,
      ≤ℤ_antisymm p.0 r.0 b.0 (by_lt_z p.0 r.0
          (λ lt. let high = b.1 in absurd (free_below R r.0 h.maximal (start_in R r i) ((h.members (r.0 -ℤ pos 1)).1 (one_covers N p (r.0 -ℤ pos 1) j (omega (arith, ints), omega (arith, ints))))))
          (λ le. le)),
    )

pub upper_of_some : (R N : List (ℤ × ℤ)) (r : ℤ × ℤ) → IsRunsOf R (Covers N) → IsIn R r → (p : ℤ × ℤ) × IsIn N p × IsBetween p r.1 × (p.1 ≡ r.1)
upper_of_some R N r h i =
    let open_run = open_in R r h.maximal i in
    let (p, j, b) = covered_by_one N r.1 ((h.members r.1).0 (one_covers R r r.1 i (upper_end r open_run))) in (
      p,
      j,
      b,
      ≤ℤ_antisymm p.1 r.1 (by_lt_z r.1 p.1
          (λ lt. let low = b.0 in absurd (free_above_end R r h.maximal i ((h.members (r.1 +ℤ pos 1)).1 (one_covers N p (r.1 +ℤ pos 1) j (omega (arith, ints), omega (arith, ints))))))
          (λ le. le)) b.1,
    )

-- ---- the places of results over each pair of runs

pub get_or-map : {X Y : Type 0} (f : X → Y) (xs : List X) (j : ℕ) (d : X) (e : Y) → j < length xs → get_or (map f xs) j e ≡ f (get_or xs j d)
get_or-map f [] j d e h = absurd (omega arith)
get_or-map f (x ∷ xs) zero d e h = refl
get_or-map f (x ∷ xs) (suc j) d e h = get_or-map f xs j d e (omega arith)

pub get_or-append_left : {X : Type 0} (xs ys : List X) (j : ℕ) (d : X) → j < length xs → get_or (xs ++ ys) j d ≡ get_or xs j d
get_or-append_left [] ys j d h = absurd (omega arith)
get_or-append_left (x ∷ xs) ys zero d h = refl
get_or-append_left (x ∷ xs) ys (suc j) d h = get_or-append_left xs ys j d (omega arith)

pub get_or-append_right : {X : Type 0} (xs ys : List X) (k j : ℕ) (d : X) → k ≡ length xs + j → get_or (xs ++ ys) k d ≡ get_or ys j d
get_or-append_right [] ys k j d h = ap (λ n. get_or ys n d) (omega arith)
get_or-append_right (x ∷ xs) ys zero j d h = absurd (omega arith)
get_or-append_right (x ∷ xs) ys (suc k) j d h = get_or-append_right xs ys k j d (omega arith)

-- the result of run i of L and run j of M stands at place i * length M + j
pub get_or-pairwise : (f : ℤ × ℤ → ℤ × ℤ → ℤ × ℤ) (L M : List (ℤ × ℤ)) (i j : ℕ) (d : ℤ × ℤ) → i < length L → j < length M →
    get_or (pairwise f L M) (i * length M + j) d ≡ f (get_or L i d) (get_or M j d)
get_or-pairwise f [] M i j d h k = absurd (omega arith)
get_or-pairwise f (p ∷ L) M zero j d h k =
    let n = length-map (f p) M in
    let place : zero * length M + j ≡ j = omega arith in
    ap (λ t. get_or (map (f p) M ++ pairwise f L M) t d) place ∙ get_or-append_left (map (f p) M) (pairwise f L M) j d (omega arith) ∙ get_or-map (f p) M j d d k
get_or-pairwise f (p ∷ L) M (suc i) j d h k =
    let n = length-map (f p) M in
    get_or-append_right (map (f p) M) (pairwise f L M) (suc i * length M + j) (i * length M + j) d (omega arith) ∙ get_or-pairwise f L M i j d (omega arith) k

-- What a page tells of all: its least and its greatest member, its runs, and how many members there are below.
use Rattle.std.proofs.Common.{◌≡◌, ◌⊎◌, ⊎_elim, inl, inr, ℕ, zero, suc, ◌+◌, ◌-◌, ◌<◌, ◌≤◌, ℤ, pos, ◌+ℤ◌, ◌-ℤ◌, ◌≤ℤ◌, List, [], ◌∷◌, length, get_or, take, take_all, Some, None, refl, sym, subst, arith}
use Rattle.std.specs.Prelude.{Option, MatchOption}
use Rattle.std.proofs.lemmas.Int.{ints}
use Rattle.ivl_laws.specs.Bounds.{width_of}
use Rattle.ivl_laws.specs.Counts.{IsCountOf}
use Rattle.ivl_laws.specs.Families.{set_at}
use Rattle.ivl_laws.specs.Sets.{AtLeast, AtMost, Below, HasNone, IsBetween, IsCrossed, IsHullOf, Union}
use Rattle.ivl_laws.specs.Runs.{Covers, IsMaximal, IsRunListIn}
use Rattle.ivl_laws.proofs.Counts.{IsCountOf-apart, IsCountOf-none, IsCountOf-same, count_is_monotone, count_is_unique}
use Rattle.ivl_laws.proofs.Intervals.{IsCountOf-width_of}
use Rattle.ivl_laws.proofs.Runs.{lower_end, upper_end}
use Rattle.ivl_places.specs.Neighbours.{IsGreatest, IsLeast, IsRunWith}
use Rattle.ivl_paged.specs.Pages.{StartsUpTo, flattened}
use Rattle.ivl_paged.proofs.Paging.{covers_page, covers_taken, ends_below, in_page, order_of, page_of, pages_ascend, taken_covers}

-- ---- the ends

-- where page j stands beside page k
side_of : (j k : ℕ) → (j < k) ⊎ ((j ≡ k) ⊎ (k < j))
side_of j k = ⊎_elim (λ lt. inl lt) (λ le. inr (⊎_elim (λ gt. inr gt) (λ ge. inl (omega arith)) (order_of k j))) (order_of j k)

at_same : (P : List (List (ℤ × ℤ))) (j k : ℕ) (z : ℤ) → j ≡ k → set_at P j z → set_at P k z
at_same P j k z e c = subst (λ (i : ℕ). set_at P i z) e c

pub beyond : (P : List (List (ℤ × ℤ))) (k : ℕ) (z : ℤ) → length P ≤ k → set_at P k z → ⊥
beyond [] k z h c = c
beyond (L ∷ P) zero z h c = absurd (omega arith)
beyond (L ∷ P) (suc k) z h c = beyond P k z (omega arith) c

-- N is the list as a caller sees it, and L the page
module _ (P : List (List (ℤ × ℤ))) (N : List (ℤ × ℤ)) (m : IsMaximal (flattened P)) (e : flattened P ≡ N) where
  place_in : (z : ℤ) → Covers N z → (k : ℕ) × (k < length P) × set_at P k z
  place_in z c = page_of P z (subst (λ (K : List (ℤ × ℤ)). Covers K z) (sym e) c)

  pub seen_in : (k : ℕ) (z : ℤ) → set_at P k z → Covers N z
  seen_in k z c = subst (λ (K : List (ℤ × ℤ)). Covers K z) e (covers_page P k z c)

  pub none_seen : length P ≡ 0 → HasNone (Covers N)
  none_seen none z c = let (k, h, a) = place_in z c in omega (arith, h, none)

  least_here : (x : ℤ) → IsLeast x (set_at P 0) → IsLeast x (Covers N)
  least_here x h = (
    seen_in 0 x h.0,
    λ z c. let (k, lt, a) = place_in z c in
        ⊎_elim (λ less. absurd (omega arith))
        (⊎_elim
        (λ same. h.1 z (at_same P k 0 z same a))
        (λ more. let far = pages_ascend P 0 k x z m more h.0 a in omega (arith, ints, far)))
        (side_of k 0),
  )

  pub least_seen : (L : List (ℤ × ℤ)) (x : ℤ) → L ≡ get_or P 0 [] → IsLeast x (Covers L) → IsLeast x (Covers N)
  least_seen L x f h = least_here x (subst (λ (K : List (ℤ × ℤ)). IsLeast x (Covers K)) f h)

  greatest_here : (x : ℤ) (n : ℕ) → n + 1 ≡ length P → IsGreatest x (set_at P n) → IsGreatest x (Covers N)
  greatest_here x n last h = (
    seen_in n x h.0,
    λ z c. let (k, lt, a) = place_in z c in
        ⊎_elim (λ less. let far = pages_ascend P k n z x m less a h.0 in omega (arith, ints, far))
        (⊎_elim
        (λ same. h.1 z (at_same P k n z same a))
        (λ more. absurd (omega (arith, lt, last, more))))
        (side_of k n),
  )

  pub greatest_seen : (L : List (ℤ × ℤ)) (x : ℤ) (n : ℕ) → n + 1 ≡ length P → L ≡ get_or P n [] → IsGreatest x (Covers L) → IsGreatest x (Covers N)
  greatest_seen L x n last f h = greatest_here x n last (subst (λ (K : List (ℤ × ℤ)). IsGreatest x (Covers K)) f h)

  pub range_seen : (whole : ℤ × ℤ) (x : ℤ) → IsRunListIn whole (flattened P) → Covers N x → IsBetween whole x
  range_seen whole x r c = r.within x (subst (λ (K : List (ℤ × ℤ)). Covers K x) (sym e) c)

  -- ---- the run that holds a number

  free_here : (k : ℕ) (x y : ℤ) → set_at P k x → ¬ (set_at P k y) → (y +ℤ pos 1 ≡ x) ⊎ (x +ℤ pos 1 ≡ y) → ¬ (Covers N y)
  free_here k x y c n near d =
      let (j, lt, a) = place_in y d in
      ⊎_elim
      (λ less. let far = pages_ascend P j k y x m less a c in ⊎_elim (λ (f : y +ℤ pos 1 ≡ x). omega (arith, ints, far, f)) (λ (f : x +ℤ pos 1 ≡ y). omega (arith, ints, far, f)) near)
      (⊎_elim
      (λ same. n (at_same P j k y same a))
      (λ more. let far = pages_ascend P k j x y m more c a in ⊎_elim (λ (f : y +ℤ pos 1 ≡ x). omega (arith, ints, far, f)) (λ (f : x +ℤ pos 1 ≡ y). omega (arith, ints, far, f)) near))
      (side_of j k)

  run_here : (k : ℕ) (v : ℤ) (run : ℤ × ℤ) → IsRunWith v (set_at P k) run → IsRunWith v (Covers N) run
  run_here k v run h =
      let low = h.holds.0 in
      let high = h.holds.1 in
      let filled : run.0 ≤ℤ run.1 = omega (arith, ints, low, high) in
      record {
        holds = h.holds;
        inside = λ z b. seen_in k z (h.inside z b);
        free_below = free_here k run.0 (run.0 -ℤ pos 1) (h.inside run.0 (lower_end run filled)) h.free_below (inl (omega (arith, ints)));
        free_above = free_here k run.1 (run.1 +ℤ pos 1) (h.inside run.1 (upper_end run filled)) h.free_above (inr refl);
      }

  not_in_last : (v : ℤ) (n : ℕ) → StartsUpTo P v n → ¬ (set_at P (n - 1) v) → ¬ (Covers N v)
  not_in_last v n s free c = free (in_page P v n m s (subst (λ (K : List (ℤ × ℤ)). Covers K v) (sym e) c)).1

  run_by : (v : ℤ) (n : ℕ) (o : Option (ℤ × ℤ)) → StartsUpTo P v n → MatchOption o (¬ (set_at P (n - 1) v)) (IsRunWith v (set_at P (n - 1))) → MatchOption o (¬ (Covers N v)) (IsRunWith v (Covers N))
  run_by v n None s h = not_in_last v n s h
  run_by v n (Some run) s h = run_here (n - 1) v run h

  pub run_seen : (L : List (ℤ × ℤ)) (v : ℤ) (n : ℕ) (o : Option (ℤ × ℤ)) → StartsUpTo P v n → L ≡ get_or P (n - 1) [] →
      MatchOption o (¬ (Covers L v)) (IsRunWith v (Covers L)) → MatchOption o (¬ (Covers N v)) (IsRunWith v (Covers N))
  run_seen L v n o s f h = run_by v n o s (subst (λ (K : List (ℤ × ℤ)). MatchOption o (¬ (Covers K v)) (IsRunWith v (Covers K))) f h)

  pub no_run_seen : (v : ℤ) (n : ℕ) → StartsUpTo P v n → n ≡ 0 → ¬ (Covers N v)
  no_run_seen v n s none c = let (k, lt, a) = place_in v c in let far = s.above k v (omega (arith, none)) a in omega (arith, ints, far)

  -- ---- the next member

  pub next_seen_below : (v x : ℤ) (n : ℕ) → StartsUpTo P v n → IsLeast x (AtLeast v (Covers (flattened (take n P)))) → IsLeast x (AtLeast v (Covers N))
  next_seen_below v x n s h =
      let (k, lt, a) = covers_taken P n x h.0.0 in (
        (seen_in k x a, h.0.1),
        λ z (c, up). let (j, less, b) = place_in z c in
            ⊎_elim (λ before. h.1 z (taken_covers P n j z before b, up))
            (λ behind. let far = pages_ascend P k j x z m (omega (arith, lt, behind)) a b in omega (arith, ints, far))
            (order_of j n),
      )

  pub next_seen_above : (L : List (ℤ × ℤ)) (v x : ℤ) (n : ℕ) → StartsUpTo P v n → HasNone (AtLeast v (Covers (flattened (take n P)))) → L ≡ get_or P n [] → IsLeast x (Covers L) →
      IsLeast x (AtLeast v (Covers N))
  next_seen_above L v x n s none f h =
      let here : IsLeast x (set_at P n) = subst (λ (K : List (ℤ × ℤ)). IsLeast x (Covers K)) f h in
      let far = s.above n x (omega arith) here.0 in (
        (seen_in n x here.0, omega (arith, ints, far)),
        λ z (c, up). let (j, less, b) = place_in z c in
            ⊎_elim (λ before. absurd (none z (taken_covers P n j z before b, up)))
            (⊎_elim
            (λ same. here.1 z (at_same P j n z same b))
            (λ more. let over = pages_ascend P n j x z m more here.0 b in omega (arith, ints, over)))
            (side_of j n),
      )

  pub no_next_seen : (v : ℤ) (n : ℕ) → HasNone (AtLeast v (Covers (flattened (take n P)))) → length P ≤ n → HasNone (AtLeast v (Covers N))
  no_next_seen v n none all z (c, up) = let (j, less, b) = place_in z c in none z (taken_covers P n j z (omega (arith, less, all)) b, up)

  -- ---- the previous member

  previous_here : (v x : ℤ) (n : ℕ) → StartsUpTo P v n → IsGreatest x (AtMost v (set_at P (n - 1))) → IsGreatest x (AtMost v (Covers N))
  previous_here v x n s h = (
    (seen_in (n - 1) x h.0.0, h.0.1),
    λ z (c, low). let (j, less, b) = place_in z c in
        ⊎_elim (λ before. let far = pages_ascend P j (n - 1) z x m before b h.0.0 in omega (arith, ints, far))
        (⊎_elim
        (λ same. h.1 z (at_same P j (n - 1) z same b, low))
        (λ more. let far = s.above j z (omega (arith, more)) b in absurd (omega (arith, ints, far, low))))
        (side_of j (n - 1)),
  )

  pub previous_seen : {A : Type 0} (number : A → ℤ) (L : List (ℤ × ℤ)) (v : ℤ) (n : ℕ) (o : Option A) → StartsUpTo P v n → 0 < n → L ≡ get_or P (n - 1) [] →
      MatchOption o (HasNone (AtMost v (Covers L))) (λ x. IsGreatest (number x) (AtMost v (Covers L))) →
      MatchOption o (HasNone (AtMost v (Covers N))) (λ x. IsGreatest (number x) (AtMost v (Covers N)))
  previous_seen number L v n None s some f h = λ z c. let (y, d, le) = s.starts some in h y (subst (λ (K : List (ℤ × ℤ)). Covers K y) (sym f) d, le)
  previous_seen number L v n (Some x) s some f h = previous_here v (number x) n s (subst (λ (K : List (ℤ × ℤ)). IsGreatest (number x) (AtMost v (Covers K))) f h)

  pub no_previous_seen : (v : ℤ) (n : ℕ) → StartsUpTo P v n → n ≡ 0 → HasNone (AtMost v (Covers N))
  no_previous_seen v n s none z (c, low) = let (k, lt, a) = place_in z c in let far = s.above k z (omega (arith, none)) a in omega (arith, ints, far, low)

-- ---- the next member in the pages that start up to a number

-- of the first n pages only the last has a number at v or above
pub next_in_last : {A : Type 0} (number : A → ℤ) (P : List (List (ℤ × ℤ))) (L : List (ℤ × ℤ)) (v : ℤ) (n : ℕ) (o : Option A) → IsMaximal (flattened P) → StartsUpTo P v n → 0 < n → L ≡ get_or P (n - 1) [] →
    MatchOption o (HasNone (AtLeast v (Covers L))) (λ x. IsLeast (number x) (AtLeast v (Covers L))) →
    MatchOption o (HasNone (AtLeast v (Covers (flattened (take n P))))) (λ x. IsLeast (number x) (AtLeast v (Covers (flattened (take n P)))))
next_in_last number P L v n o m s some f h = go o (subst (λ (K : List (ℤ × ℤ)). MatchOption o (HasNone (AtLeast v (Covers K))) (λ x. IsLeast (number x) (AtLeast v (Covers K)))) f h)
  where
    in_last : (z : ℤ) → Covers (flattened (take n P)) z → v ≤ℤ z → set_at P (n - 1) z
    in_last z c up =
        let (k, lt, a) = covers_taken P n z c in
        ⊎_elim (λ before. absurd (let far = ends_below P v n k z m s before a in omega (arith, ints, far, up)))
        (λ behind. at_same P k (n - 1) z (omega (arith, lt, behind)) a)
        (order_of (k + 1) n)

    go : (p : Option _) → MatchOption p (HasNone (AtLeast v (set_at P (n - 1)))) (λ x. IsLeast (number x) (AtLeast v (set_at P (n - 1)))) →
        MatchOption p (HasNone (AtLeast v (Covers (flattened (take n P))))) (λ x. IsLeast (number x) (AtLeast v (Covers (flattened (take n P)))))
    go None none = λ z (c, up). none z (in_last z c up, up)
    go (Some x) least = ((taken_covers P n (n - 1) (number x) (omega (arith, some)) least.0.0, least.0.1), λ z (c, up). least.1 z (in_last z c up, up))

pub none_in_none : (P : List (List (ℤ × ℤ))) (v : ℤ) (n : ℕ) → n ≡ 0 → HasNone (AtLeast v (Covers (flattened (take n P))))
none_in_none P v n e z (c, up) = let (k, lt, a) = covers_taken P n z c in omega (arith, lt, e)

-- ---- the hull

pub hull_seen : (N : List (ℤ × ℤ)) (r : ℤ × ℤ) (x y : ℤ) → r ≡ (x, y) → IsLeast x (Covers N) → IsGreatest y (Covers N) → IsHullOf r (Covers N)
hull_seen N r x y e least greatest = subst (λ (p : ℤ × ℤ). IsHullOf p (Covers N)) (sym e) (record {
  holds = λ z c. (least.1 z c, greatest.1 z c);
  ends = λ _. (least.0, greatest.0);
})

pub hull_of_none : (N : List (ℤ × ℤ)) (r : ℤ × ℤ) → IsCrossed r → HasNone (Covers N) → IsHullOf r (Covers N)
hull_of_none N r crossed none = record {
  holds = λ z c. absurd (none z c);
  ends = λ o. absurd (omega (arith, ints, crossed, o));
}

-- ---- counts

-- the members of the first i pages
pub counts_next_page : (P : List (List (ℤ × ℤ))) (i : ℕ) (L : List (ℤ × ℤ)) (k n : ℕ) → IsMaximal (flattened P) → i < length P → L ≡ get_or P i [] →
    IsCountOf k (Covers (flattened (take i P))) → IsCountOf n (Covers L) → IsCountOf (k + n) (Covers (flattened (take (i + 1) P)))
counts_next_page P i L k n m h is a b = IsCountOf-same (Union (Covers (flattened (take i P))) (Covers L)) (Covers (flattened (take (i + 1) P))) (k + n)
    (λ z. (
      ⊎_elim
          (λ (c : Covers (flattened (take i P)) z). let (j, lt, d) = covers_taken P i z c in taken_covers P (i + 1) j z (omega (arith, lt)) d)
          (λ (c : Covers L z). taken_covers P (i + 1) i z (omega arith) (subst (λ (K : List (ℤ × ℤ)). Covers K z) is c)),
      (λ c. let (j, lt, d) = covers_taken P (i + 1) z c in
          ⊎_elim (λ less. inl (taken_covers P i j z less d))
          (λ le. inr (subst (λ (K : List (ℤ × ℤ)). Covers K z) (sym is) (at_same P j i z (omega (arith, lt, le)) d)))
          (order_of j i)),
    ))
    (IsCountOf-apart (Covers (flattened (take i P))) (Covers L) k n
    (λ z c d. let (j, lt, f) = covers_taken P i z c in
    let far = pages_ascend P j i z z m lt f (subst (λ (K : List (ℤ × ℤ)). Covers K z) is d) in
    omega (arith, ints, far))
    a b)

pub counts_fit : (whole : ℤ × ℤ) (P : List (List (ℤ × ℤ))) (i k greatest : ℕ) → IsRunListIn whole (flattened P) → width_of whole ≤ greatest → IsCountOf k (Covers (flattened (take i P))) → k ≤ greatest
counts_fit whole P i k greatest r h a =
    let few = count_is_monotone (Covers (flattened (take i P))) (IsBetween whole) k (width_of whole)
    (λ z c. let (j, lt, d) = covers_taken P i z c in r.within z (covers_page P j z d)) a (IsCountOf-width_of whole) in
    omega (arith, few, h)

pub counts_all_pages : (P : List (List (ℤ × ℤ))) (i k : ℕ) → length P ≤ i → IsCountOf k (Covers (flattened (take i P))) → IsCountOf k (Covers (flattened P))
counts_all_pages P i k h a = subst (λ (Q : List (List (ℤ × ℤ))). IsCountOf k (Covers (flattened Q))) (take_all i P h) a

-- the members below v are those of the pages before the last that starts up to v, and some of that page
pub ranks_seen : (P : List (List (ℤ × ℤ))) (N L : List (ℤ × ℤ)) (v : ℤ) (n a b : ℕ) → IsMaximal (flattened P) → flattened P ≡ N → StartsUpTo P v n → 0 < n → L ≡ get_or P (n - 1) [] →
    IsCountOf a (Covers (flattened (take (n - 1) P))) → IsCountOf b (Below v (Covers L)) → IsCountOf (a + b) (Below v (Covers N))
ranks_seen P N L v n a b m e s some f x y = IsCountOf-same (Union (Covers (flattened (take (n - 1) P))) (Below v (Covers L))) (Below v (Covers N)) (a + b)
    (λ z. (
      ⊎_elim
          (λ (c : Covers (flattened (take (n - 1) P)) z). let (j, lt, d) = covers_taken P (n - 1) z c in
          let far = ends_below P v n j z m s (omega (arith, lt, some)) d in
          (seen_in P N m e j z d, omega (arith, ints, far)))
          (λ (c : Below v (Covers L) z). (seen_in P N m e (n - 1) z (subst (λ (K : List (ℤ × ℤ)). Covers K z) f c.0), c.1)),
      (λ (c, low). let (j, lt, d) = place_in P N m e z c in
          ⊎_elim (λ less. inl (taken_covers P (n - 1) j z less d))
          (⊎_elim
          (λ same. inr (subst (λ (K : List (ℤ × ℤ)). Covers K z) (sym f) (at_same P j (n - 1) z same d), low))
          (λ more. absurd (let far = s.above j z (omega (arith, more)) d in omega (arith, ints, far, low))))
          (side_of j (n - 1))),
    ))
    (IsCountOf-apart (Covers (flattened (take (n - 1) P))) (Below v (Covers L)) a b
    (λ z c d. let (j, lt, g) = covers_taken P (n - 1) z c in
    let far = pages_ascend P j (n - 1) z z m lt g (subst (λ (K : List (ℤ × ℤ)). Covers K z) f d.0) in
    omega (arith, ints, far))
    x y)

pub ranks_fit : (whole : ℤ × ℤ) (P : List (List (ℤ × ℤ))) (N : List (ℤ × ℤ)) (v : ℤ) (k greatest : ℕ) → IsRunListIn whole (flattened P) → flattened P ≡ N → width_of whole ≤ greatest →
    IsCountOf k (Below v (Covers N)) → k ≤ greatest
ranks_fit whole P N v k greatest r e h a =
    let few = count_is_monotone (Below v (Covers N)) (IsBetween whole) k (width_of whole)
    (λ z c. r.within z (subst (λ (K : List (ℤ × ℤ)). Covers K z) (sym e) c.0)) a (IsCountOf-width_of whole) in
    omega (arith, few, h)

pub no_rank_seen : (P : List (List (ℤ × ℤ))) (N : List (ℤ × ℤ)) (v : ℤ) (n k : ℕ) → IsMaximal (flattened P) → flattened P ≡ N → StartsUpTo P v n → n ≡ 0 → k ≡ 0 → IsCountOf k (Below v (Covers N))
no_rank_seen P N v n k m e s none zero_is = subst (λ (j : ℕ). IsCountOf j (Below v (Covers N))) (sym zero_is)
    (IsCountOf-none (Below v (Covers N)) (λ z (c, low). no_previous_seen P N m e v n s none z (c, omega (arith, ints, low))))

-- ---- the member with so many below it

-- k members are in the pages before place i, and page L there has more than `left`
pub nth_seen : {A : Type 0} (number : A → ℤ) (P : List (List (ℤ × ℤ))) (N L : List (ℤ × ℤ)) (i k left size : ℕ) (o : Option A) → IsMaximal (flattened P) → flattened P ≡ N → i < length P → L ≡ get_or P i [] →
    IsCountOf k (Covers (flattened (take i P))) → IsCountOf size (Covers L) → left < size →
    MatchOption o ((n : ℕ) → IsCountOf n (Covers L) → n ≤ left) (λ x. Covers L (number x) × IsCountOf left (Below (number x) (Covers L))) →
    MatchOption o ((n : ℕ) → IsCountOf n (Covers N) → n ≤ k + left) (λ x. Covers N (number x) × IsCountOf (k + left) (Below (number x) (Covers N)))
nth_seen number P N L i k left size None m e h is a b more t = absurd (let few = t size b in omega (arith, few, more))
nth_seen number P N L i k left size (Some x) m e h is a b more t =
    let v = number x in
    let here : set_at P i v = subst (λ (K : List (ℤ × ℤ)). Covers K v) is t.0 in (
      seen_in P N m e i v here,
      IsCountOf-same (Union (Covers (flattened (take i P))) (Below v (Covers L))) (Below v (Covers N)) (k + left)
          (λ z. (
            ⊎_elim
                (λ (c : Covers (flattened (take i P)) z). let (j, lt, d) = covers_taken P i z c in
                let far = pages_ascend P j i z v m lt d here in
                (seen_in P N m e j z d, omega (arith, ints, far)))
                (λ (c : Below v (Covers L) z). (seen_in P N m e i z (subst (λ (K : List (ℤ × ℤ)). Covers K z) is c.0), c.1)),
            (λ (c, low). let (j, lt, d) = place_in P N m e z c in
                ⊎_elim (λ less. inl (taken_covers P i j z less d))
                (⊎_elim
                (λ same. inr (subst (λ (K : List (ℤ × ℤ)). Covers K z) (sym is) (at_same P j i z same d), low))
                (λ over. absurd (let far = pages_ascend P i j v z m over here d in omega (arith, ints, far, low))))
                (side_of j i)),
          ))
          (IsCountOf-apart (Covers (flattened (take i P))) (Below v (Covers L)) k left
          (λ z c d. let (j, lt, g) = covers_taken P i z c in
          let far = pages_ascend P j i z z m lt g (subst (λ (K : List (ℤ × ℤ)). Covers K z) is d.0) in
          omega (arith, ints, far))
          a t.1),
    )

pub no_nth_seen : (P : List (List (ℤ × ℤ))) (N : List (ℤ × ℤ)) (i k n : ℕ) → flattened P ≡ N → length P ≤ i → IsCountOf k (Covers (flattened (take i P))) → IsCountOf n (Covers N) → n ≡ k
no_nth_seen P N i k n e h a b = count_is_unique (Covers N) n k b (subst (λ (K : List (ℤ × ℤ)). IsCountOf k (Covers K)) e (counts_all_pages P i k h a))

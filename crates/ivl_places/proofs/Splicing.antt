-- Runs put in the place of others.
use Rattle.std.proofs.Common.{◌≡◌, ◌⊎◌, ⊎_elim, inl, inr, ℕ, zero, suc, ◌+◌, ◌-◌, ◌<◌, ◌≤◌, ℤ, pos, ◌+ℤ◌, ◌-ℤ◌, ◌≤ℤ◌, ◌<ℤ◌, List, [], ◌∷◌, ◌++◌, length, get_or, take, drop, set, refl, sym, ap, subst, ◌∙◌, arith, Option, Some, None}
use Rattle.std.proofs.lemmas.Int.{ints, clamps, by_lt_z}
use Rattle.std.specs.Int.{int_max, int_min}
use Rattle.std.proofs.lemmas.List.{drop-drop, take-append-drop}
use Rattle.std.proofs.lemmas.List.Sums.{sum_by-append, sum_by-cons}
use Rattle.ivl_laws.specs.Sets.{Above, Below, IsBetween, IsSubset, Union, Without}
use Rattle.ivl_laws.specs.Runs.{Covers, IsMaximal, IsRunListIn, IsRunsOf, StartsBy}
use Rattle.ivl_laws.specs.Bounds.{width_of}
use Rattle.ivl_laws.specs.Counts.{IsCountOf}
use Rattle.ivl_laws.proofs.Runs.{covered_after, covered_from, lower_end, upper_end}
use Rattle.ivl_laws.proofs.Merging.{covers-append, covers-append_left, covers-append_right}
use Rattle.ivl_laws.proofs.Places.{covers_at, covers-drop, covers-take, open_at, IsMaximal-drop, IsMaximal-take}
use Rattle.ivl_laws.proofs.Widths.{count_is_total_width, total_width, total_width-le}
use Rattle.ivl_places.specs.Edits.{IsSpan, replaced}
use Rattle.ivl_walks.specs.HeldRun.{led_by}
use Rattle.ivl_places.specs.Places.{EndsFrom}
use Rattle.ivl_walks.specs.Order.{IsBelow}
use Rattle.ivl_walks.proofs.MergeState.{IsMaximal-append}
use Rattle.ivl_places.proofs.Windows.{above_all, below_all, covers_split}

-- a write at the end of what is kept
pub set_before : (L M : List (ℤ × ℤ)) (i : ℕ) (p : ℤ × ℤ) → i < length L → set (take (i + 1) L ++ M) i p ≡ take i L ++ p ∷ M
set_before [] M i p h = absurd (omega arith)
set_before (q ∷ L) M zero p h = refl
set_before (q ∷ L) M (suc i) p h =
    let e : suc i + 1 ≡ suc (i + 1) = omega arith in
    ap (λ (n : ℕ). set (take n (q ∷ L) ++ M) (suc i) p) e ∙ ap (λ (N : List (ℤ × ℤ)). q ∷ N) (set_before L M i p (omega arith))

-- ---- lists one above the other

-- the runs before a place, and those from one on, lie on either side of what stands there
pub taken_below : (L : List (ℤ × ℤ)) (i : ℕ) (d : ℤ × ℤ) (x : ℤ) → IsMaximal L → i < length L → Covers (take i L) x → (x +ℤ pos 2) ≤ℤ (get_or L i d).0
taken_below L zero d x m h c = absurd c
taken_below [] (suc i) d x m h c = absurd (omega arith)
taken_below (p ∷ L) (suc i) d x m h (inl b) =
    let far = covered_after p.1 L (get_or L i d).0 m.1 m.2 (covers_at L i d (get_or L i d).0 (omega arith) (lower_end (get_or L i d) (open_at L i d m.2 (omega arith)))) in
    omega (arith, ints, far, b.1)
taken_below (p ∷ L) (suc i) d x m h (inr c) = taken_below L i d x m.2 (omega arith) c

pub dropped_above : (L : List (ℤ × ℤ)) (k : ℕ) (d : ℤ × ℤ) (y : ℤ) → IsMaximal L → k < length L → Covers (drop (k + 1) L) y → ((get_or L k d).1 +ℤ pos 2) ≤ℤ y
dropped_above [] k d y m h c = absurd (omega arith)
dropped_above (p ∷ L) zero d y m h c = covered_after p.1 L y m.1 m.2 c
dropped_above (p ∷ L) (suc k) d y m h c =
    let e : suc k + 1 ≡ suc (k + 1) = omega arith in
    dropped_above L k d y m.2 (omega arith) (subst (λ (n : ℕ). Covers (drop n (p ∷ L)) y) e c)

pub parts_below : (L : List (ℤ × ℤ)) (i j : ℕ) → IsMaximal L → i ≤ j → IsBelow (pos 2) (Covers (take i L)) (Covers (drop j L))
parts_below L zero j m o x y c d = absurd c
parts_below [] (suc i) j m o x y c d = absurd c
parts_below (p ∷ L) (suc i) zero m o x y c d = absurd (omega arith)
parts_below (p ∷ L) (suc i) (suc j) m o x y (inl b) d = let far = covered_after p.1 L y m.1 m.2 (covers-drop L j y d) in omega (arith, ints, far, b.1)
parts_below (p ∷ L) (suc i) (suc j) m o x y (inr c) d = parts_below L i j m.2 (omega arith) x y c d

-- ---- a list with M in the place of the runs from place i to before place j

module _ (L M : List (ℤ × ℤ)) (i j : ℕ) (S : ℤ → Type 0) (m : IsMaximal L) (n : IsMaximal M) (o : i ≤ j)
    (low : IsBelow (pos 2) (Covers (take i L)) (Covers M)) (high : IsBelow (pos 2) (Covers M) (Covers (drop j L)))
    (before : IsSubset (Covers (take i L)) S) (here : IsSubset (Covers M) S) (after : IsSubset (Covers (drop j L)) S)
    (all : (z : ℤ) → S z → Covers (take i L) z ⊎ (Covers M z ⊎ Covers (drop j L) z)) where
  pub runs_of_spliced : IsRunsOf (take i L ++ (M ++ drop j L)) S
  runs_of_spliced = record {
    maximal = IsMaximal-append (take i L) (M ++ drop j L) (IsMaximal-take L i m)
        (IsMaximal-append M (drop j L) n (IsMaximal-drop L j m) high)
        (λ x y c d. ⊎_elim (λ e. low x y c e) (λ e. parts_below L i j m o x y c e) (covers-append M (drop j L) y d));
    members = λ z. (
      (λ c. ⊎_elim (λ d. before z d) (λ d. ⊎_elim (λ e. here z e) (λ e. after z e) (covers-append M (drop j L) z d)) (covers-append (take i L) (M ++ drop j L) z c)),
      (λ s. ⊎_elim
          (λ c. covers-append_left (take i L) (M ++ drop j L) z c)
          (λ c. covers-append_right (take i L) (M ++ drop j L) z (⊎_elim (λ e. covers-append_left M (drop j L) z e) (λ e. covers-append_right M (drop j L) z e) c))
          (all z s)),
    );
  }

-- ---- how many numbers the new list has

split_parts : (L : List (ℤ × ℤ)) (i j : ℕ) → i ≤ j → L ≡ take i L ++ (take (j - i) (drop i L) ++ drop j L)
split_parts L i j o =
    let rest : drop (j - i) (drop i L) ≡ drop j L = drop-drop (j - i) i L ∙ ap (λ (n : ℕ). drop n L) (omega arith) in
    sym (take-append-drop i L) ∙ ap (λ (N : List (ℤ × ℤ)). take i L ++ N) (sym (take-append-drop (j - i) (drop i L)) ∙ ap (λ (N : List (ℤ × ℤ)). take (j - i) (drop i L) ++ N) rest)

total_width-led : (o : Option (ℤ × ℤ)) (L : List (ℤ × ℤ)) → total_width (led_by o L) ≡ total_width (led_by o []) + total_width L
total_width-led None L = omega arith
total_width-led (Some p) L =
    let a = sum_by-cons width_of p L in
    let b = sum_by-cons width_of p [] in
    omega (arith, a, b)

total_width-replaced : (L : List (ℤ × ℤ)) (i j : ℕ) (o p : Option (ℤ × ℤ)) → i ≤ j →
    total_width (replaced L i j o p) + total_width (take (j - i) (drop i L)) ≡ total_width L + total_width (led_by o []) + total_width (led_by p [])
total_width-replaced L i j o p h =
    let all = ap total_width (split_parts L i j h) in
    let a = sum_by-append width_of (take i L) (take (j - i) (drop i L) ++ drop j L) in
    let b = sum_by-append width_of (take (j - i) (drop i L)) (drop j L) in
    let c = sum_by-append width_of (take i L) (led_by o (led_by p (drop j L))) in
    let d = total_width-led o (led_by p (drop j L)) in
    let e = total_width-led p (drop j L) in
    omega (arith, all, a, b, c, d, e)

-- n numbers less those of the runs that go, and with those of the runs that come
pub record IsResized (whole : ℤ × ℤ) (L : List (ℤ × ℤ)) (i j : ℕ) (o p : Option (ℤ × ℤ)) (n greatest : ℕ) : Type 0 where
  pub gone_fits : total_width (take (j - i) (drop i L)) ≤ n
  pub old_fits : n ≤ greatest
  pub fits : (kept : ℕ) → kept + total_width (take (j - i) (drop i L)) ≡ n → kept + total_width (led_by o []) + total_width (led_by p []) ≤ greatest
  pub list : IsRunListIn whole (replaced L i j o p)
  pub counts : (kept : ℕ) → kept + total_width (take (j - i) (drop i L)) ≡ n → IsCountOf (kept + total_width (led_by o []) + total_width (led_by p [])) (Covers (replaced L i j o p))

-- M is the list as a caller saw it
pub is_resized : (whole : ℤ × ℤ) (L M : List (ℤ × ℤ)) (i j : ℕ) (o p : Option (ℤ × ℤ)) (n greatest : ℕ) → L ≡ M → IsRunListIn whole L → IsCountOf n (Covers L) → i ≤ j →
    IsRunListIn whole (replaced M i j o p) → width_of whole ≤ greatest → IsResized whole L i j o p n greatest
is_resized whole L M i j o p n greatest same l c h made most =
    let P : List (ℤ × ℤ) → Type 0 = λ N. IsRunListIn whole (replaced N i j o p) in
    let r = subst P (sym same) made in
    let total = (count_is_total_width L n l.maximal).0 c in
    let sum = total_width-replaced L i j o p h in
    let all = ap total_width (split_parts L i j h) in
    let a = sum_by-append width_of (take i L) (take (j - i) (drop i L) ++ drop j L) in
    let b = sum_by-append width_of (take (j - i) (drop i L)) (drop j L) in
    let was = total_width-le whole L l.maximal l.within in
    let is = total_width-le whole (replaced L i j o p) r.maximal r.within in
    record {
      gone_fits = omega (arith, total, all, a, b);
      old_fits = omega (arith, total, was, most);
      fits = λ kept e. omega (arith, total, sum, is, most, e);
      list = r;
      counts = λ kept e. (count_is_total_width (replaced L i j o p) (kept + total_width (led_by o []) + total_width (led_by p [])) r.maximal).1 (omega (arith, total, sum, e));
    }

-- ---- what lies on either side of the runs that go

first_of_dropped : (L : List (ℤ × ℤ)) (i : ℕ) (d : ℤ × ℤ) (z : ℤ) → IsMaximal L → i < length L → Covers (drop i L) z → (get_or L i d).0 ≤ℤ z
first_of_dropped [] i d z m h c = absurd (omega arith)
first_of_dropped (p ∷ L) zero d z m h c = covered_from p L z m c
first_of_dropped (p ∷ L) (suc i) d z m h c = first_of_dropped L i d z m.2 (omega arith) c

last_of_taken : (L : List (ℤ × ℤ)) (k : ℕ) (d : ℤ × ℤ) (z : ℤ) → IsMaximal L → k < length L → Covers (take (k + 1) L) z → z ≤ℤ (get_or L k d).1
last_of_taken [] k d z m h c = absurd (omega arith)
last_of_taken (p ∷ L) zero d z m h (inl b) = b.1
last_of_taken (p ∷ L) zero d z m h (inr c) = absurd c
last_of_taken (p ∷ L) (suc k) d z m h c =
    let e : suc k + 1 ≡ suc (k + 1) = omega arith in
    ⊎_elim
    (λ b. let far = covered_after p.1 L (get_or L k d).1 m.1 m.2 (covers_at L k d (get_or L k d).1 (omega arith) (upper_end (get_or L k d) (open_at L k d m.2 (omega arith)))) in omega (arith, ints, far, b.1))
    (λ t. last_of_taken L k d z m.2 (omega arith) t)
    (subst (λ (n : ℕ). Covers (take n (p ∷ L)) z) e c)

end_at : (L : List (ℤ × ℤ)) (i : ℕ) (d : ℤ × ℤ) (v : ℤ) → i < length L → EndsFrom v (drop i L) → v ≤ℤ (get_or L i d).1
end_at [] i d v h e = absurd (omega arith)
end_at (p ∷ L) zero d v h e = e
end_at (p ∷ L) (suc i) d v h e = end_at L i d v (omega arith) e

start_at : (L : List (ℤ × ℤ)) (k : ℕ) (d : ℤ × ℤ) (v : ℤ) → k < length L → StartsBy v (take (k + 1) L) → (get_or L k d).0 ≤ℤ v
start_at [] k d v h s = absurd (omega arith)
start_at (p ∷ L) zero d v h s = s.0
start_at (p ∷ L) (suc k) d v h s =
    let e : suc k + 1 ≡ suc (k + 1) = omega arith in
    let t = subst (λ (n : ℕ). StartsBy v (take n (p ∷ L))) e s in
    start_at L k d v (omega arith) t.1

-- ---- an interval joined with the runs that it touches

module _ (L : List (ℤ × ℤ)) (W : ℤ × ℤ) (i j : ℕ) (m : IsMaximal L) (w : W.0 ≤ℤ W.1) (s : IsSpan L (W.0 -ℤ pos 1) (W.1 +ℤ pos 1) i j) where
  left_of : IsBelow (pos 2) (Covers (take i L)) (IsBetween W)
  left_of x y c b = let k = below_all (W.0 -ℤ pos 1) (take i L) x s.below c in omega (arith, ints, k, b.0)

  right_of : IsBelow (pos 2) (IsBetween W) (Covers (drop j L))
  right_of x y b c = let k = above_all (W.1 +ℤ pos 1) (drop j L) y s.above c in omega (arith, ints, k, b.1)

  parts_of : (z : ℤ) → Covers L z → Covers (take i L) z ⊎ ((Covers (drop i L) z × Covers (take j L) z) ⊎ Covers (drop j L) z)
  parts_of z c = ⊎_elim (λ t. inl t) (λ d. ⊎_elim (λ t. inr (inl (d, t))) (λ e. inr (inr e)) (covers_split L j z c)) (covers_split L i z c)

  pub joined_with_none : i ≡ j → IsRunsOf (replaced L i j (Some W) None) (Union (Covers L) (IsBetween W))
  joined_with_none e = runs_of_spliced L (W ∷ []) i j (Union (Covers L) (IsBetween W)) m (w, tt, tt) s.in_order
      (λ x y c d. ⊎_elim (λ b. left_of x y c b) (λ n. absurd n) d)
      (λ x y c d. ⊎_elim (λ b. right_of x y b d) (λ n. absurd n) c)
      (λ z c. inl (covers-take L i z c)) (λ z. ⊎_elim (λ b. inr b) (λ n. absurd n)) (λ z c. inl (covers-drop L j z c))
      (λ z. ⊎_elim
      (λ c. ⊎_elim (λ t. inl t) (λ d. inr (inr (subst (λ (n : ℕ). Covers (drop n L) z) e d))) (covers_split L i z c))
      (λ b. inr (inl (inl b))))

  -- k is the last of the runs that it touches
  module _ (J : ℤ × ℤ) (k : ℕ) (d e : ℤ × ℤ) (h : i < j) (last : k + 1 ≡ j) (low : J.0 ≡ int_min W.0 (get_or L i d).0) (high : J.1 ≡ int_max W.1 (get_or L k e).1) where
    less : i < length L
    less = let a = s.at_most in omega (arith, a, h)

    less_last : k < length L
    less_last = let a = s.at_most in omega (arith, a, last)

    joined_there : (z : ℤ) → IsBetween J z → Union (Covers L) (IsBetween W) z
    joined_there z b = by_lt_z z W.0
        (λ lt. let r = end_at L i d (W.0 -ℤ pos 1) less s.ends in inl (covers_at L i d z less (omega (arith, ints, clamps, low, b.0, lt), omega (arith, ints, r, lt))))
        (λ le. by_lt_z W.1 z
        (λ lt. let r = start_at L k e (W.1 +ℤ pos 1) less_last (subst (λ (n : ℕ). StartsBy (W.1 +ℤ pos 1) (take n L)) (sym last) s.starts) in
        inl (covers_at L k e z less_last (omega (arith, ints, r, lt), omega (arith, ints, clamps, high, b.1, lt))))
        (λ up. inr (le, up)))

    pub joined_with_some : IsRunsOf (replaced L i j (Some J) None) (Union (Covers L) (IsBetween W))
    joined_with_some = runs_of_spliced L (J ∷ []) i j (Union (Covers L) (IsBetween W)) m (omega (arith, ints, clamps, low, high, w), tt, tt) s.in_order
        (λ x y c. ⊎_elim (λ b. let far = taken_below L i d x m less c in let near = left_of x W.0 c (lower_end W w) in omega (arith, ints, clamps, low, b.0, far, near)) (λ n. absurd n))
        (λ x y. ⊎_elim
        (λ b c. let far = dropped_above L k e y m less_last (subst (λ (n : ℕ). Covers (drop n L) y) (sym last) c) in
        let near = right_of W.1 y (upper_end W w) c in omega (arith, ints, clamps, high, b.1, far, near))
        (λ n. absurd n))
        (λ z c. inl (covers-take L i z c)) (λ z. ⊎_elim (λ b. joined_there z b) (λ n. absurd n)) (λ z c. inl (covers-drop L j z c))
        (λ z. ⊎_elim
        (λ c. ⊎_elim (λ t. inl t) (⊎_elim
        (λ (x, y). inr (inl (inl (
          let a = first_of_dropped L i d z m less x in omega (arith, ints, clamps, low, a),
          let a = last_of_taken L k e z m less_last (subst (λ (n : ℕ). Covers (take n L) z) (sym last) y) in omega (arith, ints, clamps, high, a),
        ))))
        (λ x. inr (inr x))) (parts_of z c))
        (λ b. let l = b.0 in let u = b.1 in inr (inl (inl (omega (arith, ints, clamps, low, l), omega (arith, ints, clamps, high, u))))))

-- ---- the runs without an interval, of which two parts may be left

parts_are : (o p : Option (ℤ × ℤ)) (D : List (ℤ × ℤ)) → (led_by o [] ++ led_by p []) ++ D ≡ led_by o (led_by p D)
parts_are None None D = refl
parts_are None (Some q) D = refl
parts_are (Some r) None D = refl
parts_are (Some r) (Some q) D = refl

module _ (L : List (ℤ × ℤ)) (W : ℤ × ℤ) (i j k : ℕ) (d e : ℤ × ℤ) (o p : Option (ℤ × ℤ)) (m : IsMaximal L) (w : W.0 ≤ℤ W.1) (s : IsSpan L W.0 W.1 i j) (h : i < j) (last : k + 1 ≡ j)
    (x : IsRunsOf (led_by o []) (Below W.0 (IsBetween (get_or L i d)))) (y : IsRunsOf (led_by p []) (Above W.1 (IsBetween (get_or L k e)))) where
  first_less : i < length L
  first_less = let a = s.at_most in omega (arith, a, h)

  last_less : k < length L
  last_less = let a = s.at_most in omega (arith, a, last)

  left_part : (z : ℤ) → Covers (led_by o []) z → Below W.0 (IsBetween (get_or L i d)) z
  left_part z = (x.members z).0

  right_part : (z : ℤ) → Covers (led_by p []) z → Above W.1 (IsBetween (get_or L k e)) z
  right_part z = (y.members z).0

  parts_apart : IsBelow (pos 2) (Covers (led_by o [])) (Covers (led_by p []))
  parts_apart a b c f = let l = (left_part a c).1 in let r = (right_part b f).1 in omega (arith, ints, l, r, w)

  above_kept : IsBelow (pos 2) (Covers (take i L)) (Covers (led_by o [] ++ led_by p []))
  above_kept a b c f = ⊎_elim
      (λ u. let far = taken_below L i d a m first_less c in let low = (left_part b u).0.0 in omega (arith, ints, far, low))
      (λ u. let l = below_all W.0 (take i L) a s.below c in let r = (right_part b u).1 in omega (arith, ints, l, r, w))
      (covers-append (led_by o []) (led_by p []) b f)

  below_kept : IsBelow (pos 2) (Covers (led_by o [] ++ led_by p [])) (Covers (drop j L))
  below_kept a b c f = ⊎_elim
      (λ u. let l = (left_part a u).1 in let r = above_all W.1 (drop j L) b s.above f in omega (arith, ints, l, r, w))
      (λ u. let far = dropped_above L k e b m last_less (subst (λ (n : ℕ). Covers (drop n L) b) (sym last) f) in let high = (right_part a u).0.1 in omega (arith, ints, far, high))
      (covers-append (led_by o []) (led_by p []) a c)

  parts_left : IsSubset (Covers (led_by o [] ++ led_by p [])) (Without (Covers L) (IsBetween W))
  parts_left z c = ⊎_elim
      (λ u. let (b, l) = left_part z u in (covers_at L i d z first_less b, λ i. let low = i.0 in omega (arith, ints, l, low)))
      (λ u. let (b, r) = right_part z u in (covers_at L k e z last_less b, λ i. let high = i.1 in omega (arith, ints, r, high)))
      (covers-append (led_by o []) (led_by p []) z c)

  in_first : (z : ℤ) → Covers (drop i L) z → z <ℤ W.0 → Covers (led_by o []) z
  in_first z c lt =
      let low = first_of_dropped L i d z m first_less c in
      let end = end_at L i d W.0 first_less s.ends in
      (x.members z).1 ((low, omega (arith, ints, end, lt)), lt)

  in_last : (z : ℤ) → Covers (take j L) z → W.1 <ℤ z → Covers (led_by p []) z
  in_last z c lt =
      let high = last_of_taken L k e z m last_less (subst (λ (n : ℕ). Covers (take n L) z) (sym last) c) in
      let start = start_at L k e W.1 last_less (subst (λ (n : ℕ). StartsBy W.1 (take n L)) (sym last) s.starts) in
      (y.members z).1 ((omega (arith, ints, start, lt), high), lt)

  -- a number of the list that is not in W
  all_left : (z : ℤ) → Without (Covers L) (IsBetween W) z → Covers (take i L) z ⊎ (Covers (led_by o [] ++ led_by p []) z ⊎ Covers (drop j L) z)
  all_left z (c, n) = by_lt_z z W.0
      (λ lt. ⊎_elim (λ t. inl t) (λ u. inr (inl (covers-append_left (led_by o []) (led_by p []) z (in_first z u lt)))) (covers_split L i z c))
      (λ le. by_lt_z W.1 z
      (λ lt. ⊎_elim (λ t. inr (inl (covers-append_right (led_by o []) (led_by p []) z (in_last z t lt)))) (λ u. inr (inr u)) (covers_split L j z c))
      (λ up. absurd (n (le, up))))

  pub left_without : IsRunsOf (replaced L i j o p) (Without (Covers L) (IsBetween W))
  left_without = subst (λ (M : List (ℤ × ℤ)). IsRunsOf (take i L ++ M) (Without (Covers L) (IsBetween W))) (parts_are o p (drop j L))
      (runs_of_spliced L (led_by o [] ++ led_by p []) i j (Without (Covers L) (IsBetween W)) m (IsMaximal-append (led_by o []) (led_by p []) x.maximal y.maximal parts_apart) s.in_order
      above_kept below_kept
      (λ z c. (covers-take L i z c, λ b. let l = below_all W.0 (take i L) z s.below c in let low = b.0 in omega (arith, ints, l, low)))
      parts_left
      (λ z c. (covers-drop L j z c, λ b. let r = above_all W.1 (drop j L) z s.above c in let high = b.1 in omega (arith, ints, r, high)))
      all_left)

pub left_where_none : (L : List (ℤ × ℤ)) (W : ℤ × ℤ) (i j : ℕ) → IsMaximal L → IsSpan L W.0 W.1 i j → i ≡ j → IsRunsOf L (Without (Covers L) (IsBetween W))
left_where_none L W i j m s e = record {
  maximal = m;
  members = λ z. (
    (λ c. (
      c,
      λ b. ⊎_elim
          (λ t. let l = below_all W.0 (take i L) z s.below t in let low = b.0 in omega (arith, ints, l, low))
          (λ d. let r = above_all W.1 (drop j L) z s.above (subst (λ (n : ℕ). Covers (drop n L) z) e d) in let high = b.1 in omega (arith, ints, r, high))
          (covers_split L i z c),
    )),
    (λ w. w.0),
  );
}

-- The runs of a list that meet an interval: those from the first that ends in it or above, to the last that starts in it or below.
use Rattle.std.proofs.Common.{◌≡◌, ◌⊎◌, ⊎_elim, inl, inr, ℕ, zero, suc, ◌+◌, ◌-◌, ◌≤◌, ℤ, ◌≤ℤ◌, ◌<ℤ◌, List, [], ◌∷◌, length, take, drop, sym, ap, subst, ◌∙◌, arith}
use Rattle.std.proofs.lemmas.Int.{ints, by_lt_z}
use Rattle.std.proofs.lemmas.List.{drop-drop}
use Rattle.std.proofs.lemmas.Result.{IfOk-weaker}
use Rattle.std.specs.Prelude.{slice_get, IsSomeAnd, Result, IfOk, if◌then◌else◌}
use Rattle.ivl_laws.specs.Sets.{IsBetween, SameMembers, Intersection, Union}
use Rattle.ivl_laws.specs.Runs.{Covers, IsMaximal, IsRunsOf, IsRunListIn, StartsBy, runs_below}
use Rattle.ivl_laws.proofs.Runs.{covered_after}
use Rattle.ivl_laws.proofs.Places.{covers-take, covers-drop}
use Rattle.ivl_laws.proofs.Lengths.{length_of_union}
use Rattle.ivl_laws.proofs.SetLaws.{IsRunsOf-same}
use Rattle.ivl_laws.proofs.Ranges.{IsRunListIn-drop, IsRunListIn-take}
use Rattle.ivl_places.specs.Places.{EndBelow, EndsFrom, StartAbove}
use Rattle.ivl_places.proofs.Searching.{above_after, none_above}
use Rattle.ivl_places.proofs.Finding.{covered_at_place}
use Rattle.ivl_laws.proofs.Orders.{int_lt_true}

-- ---- what the place of a number says of the runs on both sides of it

pub record IsSplitAt (v : ℤ) (L : List (ℤ × ℤ)) (i j : ℕ) : Type 0 where
  pub below : EndBelow v (take i L)
  pub rest : EndsFrom v (drop i L)
  pub starts : StartsBy v (take j L)
  pub above : StartAbove v (drop j L)
  pub at_most : j ≤ length L

after_run : (v : ℤ) (r : ℤ × ℤ) (L : List (ℤ × ℤ)) → v ≤ℤ r.1 → IsMaximal (r ∷ L) → StartAbove v L
after_run v r [] h m = tt
after_run v r (q ∷ L) h m = let k : v <ℤ q.0 = omega (arith, ints, h, m.1) in (k, above_after v q L k m.2)

pub split_by_run : (L : List (ℤ × ℤ)) (i : ℕ) (v : ℤ) → IsMaximal L → IsSomeAnd (slice_get L i) (λ run. IsBetween run v) → IsSplitAt v L i (i + 1)
split_by_run [] i v m h = absurd h
split_by_run (p ∷ L) zero v m h = record { below = tt; rest = h.1; starts = (h.0, tt); above = after_run v p L h.1 m; at_most = omega arith }
split_by_run (p ∷ L) (suc i) v m h =
    let u = split_by_run L i v m.2 h in
    let le = u.at_most in
    let far = covered_after p.1 L v m.1 m.2 (covered_at_place L i v h) in
    let o = m.0 in
    let e : suc i + 1 ≡ suc (i + 1) = omega arith in
    record {
      below = (omega (arith, ints), u.below);
      rest = u.rest;
      starts = subst (λ (n : ℕ). StartsBy v (take n (p ∷ L))) (sym e) (omega (arith, ints), u.starts);
      above = subst (λ (n : ℕ). StartAbove v (drop n (p ∷ L))) (sym e) u.above;
      at_most = omega arith;
    }

past : (p : ℤ × ℤ) (L : List (ℤ × ℤ)) (j : ℕ) (v : ℤ) → p.0 ≤ℤ p.1 → p.1 <ℤ v → 1 + runs_below v L ≡ j → ((i : ℕ) → runs_below v L ≡ i → IsSplitAt v L i i) → IsSplitAt v (p ∷ L) j j
past p L zero v o lt e f = absurd (omega arith)
past p L (suc j) v o lt e f =
    let u = f j (omega arith) in
    let le = u.at_most in
    record { below = (lt, u.below); rest = u.rest; starts = (omega (arith, ints), u.starts); above = u.above; at_most = omega arith }

pub split_by_gap : (L : List (ℤ × ℤ)) (i : ℕ) (v : ℤ) → IsMaximal L → ¬ (Covers L v) → runs_below v L ≡ i → IsSplitAt v L i i
split_by_gap [] zero v m n e = record { below = tt; rest = tt; starts = tt; above = tt; at_most = omega arith }
split_by_gap [] (suc i) v m n e = absurd (omega arith)
split_by_gap (p ∷ L) i v m n e = by_lt_z p.1 v
    (λ lt. past p L i v m.0 lt (ap (λ b. (if b then 1 else 0) + runs_below v L) (sym (int_lt_true p.1 v lt)) ∙ e) (λ j f. split_by_gap L j v m.2 (λ c. n (inr c)) f))
    (λ le.
    let k : v <ℤ p.0 = by_lt_z v p.0 (λ lt. lt) (λ low. absurd (n (inl (low, le)))) in
    let above : StartAbove v (p ∷ L) = (k, above_after v p L k m) in
    let none : 0 ≡ i = sym (none_above v (p ∷ L) above m).1 ∙ e in
    subst (λ (j : ℕ). IsSplitAt v (p ∷ L) j j) none (record { below = tt; rest = le; starts = tt; above = above; at_most = omega arith }))

-- ---- the runs between the two places

-- no fewer runs start at b or below than end below a
places_in_order : (L : List (ℤ × ℤ)) (i j : ℕ) (a b : ℤ) → a ≤ℤ b → IsMaximal L → i ≤ length L → EndBelow a (take i L) → StartAbove b (drop j L) → i ≤ j
places_in_order L zero j a b o m h e s = omega arith
places_in_order [] (suc i) j a b o m h e s = absurd (omega arith)
places_in_order (p ∷ L) (suc i) zero a b o m h e s = let x = m.0 in let y = e.0 in let z = s.0 in absurd (omega (arith, ints))
places_in_order (p ∷ L) (suc i) (suc j) a b o m h e s = let k = places_in_order L i j a b o m.2 (omega arith) e.1 s in omega arith

pub below_all : (v : ℤ) (L : List (ℤ × ℤ)) (z : ℤ) → EndBelow v L → Covers L z → z <ℤ v
below_all v [] z e c = absurd c
below_all v (p ∷ L) z e (inl b) = let x = b.1 in let y = e.0 in omega (arith, ints)
below_all v (p ∷ L) z e (inr c) = below_all v L z e.1 c

pub above_all : (v : ℤ) (L : List (ℤ × ℤ)) (z : ℤ) → StartAbove v L → Covers L z → v <ℤ z
above_all v [] z s c = absurd c
above_all v (p ∷ L) z s (inl b) = let x = b.0 in let y = s.0 in omega (arith, ints)
above_all v (p ∷ L) z s (inr c) = above_all v L z s.1 c

pub covers_split : (L : List (ℤ × ℤ)) (i : ℕ) (z : ℤ) → Covers L z → Covers (take i L) z ⊎ Covers (drop i L) z
covers_split [] i z c = absurd c
covers_split (p ∷ L) zero z c = inr c
covers_split (p ∷ L) (suc i) z (inl b) = inl (inl b)
covers_split (p ∷ L) (suc i) z (inr c) = ⊎_elim (λ t. inl (inr t)) (λ d. inr d) (covers_split L i z c)

-- the part of the list from place i to place j has what the list has in the window
pub same_in_window : (L : List (ℤ × ℤ)) (i j : ℕ) (W : ℤ × ℤ) → i ≤ j → EndBelow W.0 (take i L) → StartAbove W.1 (drop j L) →
    SameMembers (Intersection (Covers (take (j - i) (drop i L))) (IsBetween W)) (Intersection (Covers L) (IsBetween W))
same_in_window L i j W o e s z = (
  (λ h. (covers-drop L i z (covers-take (drop i L) (j - i) z h.0), h.1)),
  (λ h. (
    ⊎_elim
        (λ b. let k = below_all W.0 (take i L) z e b in let low = h.1.0 in absurd (omega (arith, ints)))
        (λ c. ⊎_elim (λ t. t) (λ d. let k = above_all W.1 (drop j L) z s (subst (λ (M : List (ℤ × ℤ)). Covers M z) rest d) in let high = h.1.1 in absurd (omega (arith, ints)))
        (covers_split (drop i L) (j - i) z c))
        (covers_split L i z h.0),
    h.1,
  )),
)
  where
    rest : drop (j - i) (drop i L) ≡ drop j L
    rest = drop-drop (j - i) i L ∙ ap (λ (n : ℕ). drop n L) (omega arith)

-- the runs of the list from place i to place j are those that meet W
pub record IsWindow (L : List (ℤ × ℤ)) (W : ℤ × ℤ) (i j : ℕ) : Type 0 where
  pub in_order : i ≤ j
  pub below : EndBelow W.0 (take i L)
  pub above : StartAbove W.1 (drop j L)

-- M and N are the list as two searches saw it, for the ends of W
pub is_window : (L M N : List (ℤ × ℤ)) (W : ℤ × ℤ) (a b : ℤ) (i j : ℕ) → IsMaximal L → M ≡ L → N ≡ M → W.0 ≤ℤ W.1 → a ≡ W.0 → b ≡ W.1 →
    i ≤ length M → EndBelow a (take i M) → StartAbove b (drop j N) → IsWindow L W i j
is_window L M N W a b i j m e f o g h le x y =
    let below : EndBelow W.0 (take i L) = subst (λ (K : List (ℤ × ℤ)). EndBelow W.0 (take i K)) e (subst (λ (v : ℤ). EndBelow v (take i M)) g x) in
    let above : StartAbove W.1 (drop j L) = subst (λ (K : List (ℤ × ℤ)). StartAbove W.1 (drop j K)) (f ∙ e) (subst (λ (v : ℤ). StartAbove v (drop j N)) h y) in
    record { in_order = places_in_order L i j W.0 W.1 o m (subst (λ (K : List (ℤ × ℤ)). i ≤ length K) e le) below above; below = below; above = above }

pub cut_from_part : {E : Type 0} (r : Result (List (ℤ × ℤ)) E) (K L : List (ℤ × ℤ)) (W : ℤ × ℤ) (i j : ℕ) → K ≡ L → IsWindow L W i j →
    IfOk r (λ N. IsRunsOf N (Intersection (Covers (take (j - i) (drop i K))) (IsBetween W))) → IfOk r (λ N. IsRunsOf N (Intersection (Covers L) (IsBetween W)))
cut_from_part r K L W i j e w =
    IfOk-weaker r _ _ (λ N h. IsRunsOf-same _ _ N (same_in_window L i j W w.in_order w.below w.above)
    (subst (λ (M : List (ℤ × ℤ)). IsRunsOf N (Intersection (Covers (take (j - i) (drop i M))) (IsBetween W))) e h))

pub part_is_run_list : (whole : ℤ × ℤ) (L : List (ℤ × ℤ)) (i n : ℕ) → IsRunListIn whole L → IsRunListIn whole (take n (drop i L))
part_is_run_list whole L i n r = IsRunListIn-take whole (drop i L) n (IsRunListIn-drop whole L i r)

-- ---- the first and the last run of the part that is kept

ends_of_part : (L : List (ℤ × ℤ)) (n : ℕ) (v : ℤ) → EndsFrom v L → EndsFrom v (take n L)
ends_of_part [] zero v e = tt
ends_of_part [] (suc n) v e = tt
ends_of_part (p ∷ L) zero v e = tt
ends_of_part (p ∷ L) (suc n) v e = e

-- K is the list that is cut, and M the list as a search saw it
pub first_of_kept : (K L M : List (ℤ × ℤ)) (i n : ℕ) (v w : ℤ) → K ≡ L → M ≡ L → v ≡ w → EndsFrom v (drop i M) → EndsFrom w (take n (drop i K))
first_of_kept K L M i n v w e f g h =
    ends_of_part (drop i K) n w (subst (λ (N : List (ℤ × ℤ)). EndsFrom w (drop i N)) (f ∙ sym e) (subst (λ (u : ℤ). EndsFrom u (drop i M)) g h))

starts_of_part : (L : List (ℤ × ℤ)) (n : ℕ) (v : ℤ) → StartsBy v L → StartsBy v (take n L)
starts_of_part [] zero v s = tt
starts_of_part [] (suc n) v s = tt
starts_of_part (p ∷ L) zero v s = tt
starts_of_part (p ∷ L) (suc n) v s = (s.0, starts_of_part L n v s.1)

starts_between : (L : List (ℤ × ℤ)) (i j : ℕ) (v : ℤ) → StartsBy v (take j L) → StartsBy v (take (j - i) (drop i L))
starts_between L zero j v s = let e : j ≡ j - 0 = omega arith in subst (λ (n : ℕ). StartsBy v (take n L)) e s
starts_between [] (suc i) j v s = starts_of_part [] (j - suc i) v tt
starts_between (p ∷ L) (suc i) zero v s = let e : 0 ≡ 0 - suc i = omega arith in subst (λ (n : ℕ). StartsBy v (take n (drop i L))) e tt
starts_between (p ∷ L) (suc i) (suc j) v s = let e : j - i ≡ suc j - suc i = omega arith in subst (λ (n : ℕ). StartsBy v (take n (drop i L))) e (starts_between L i j v s.1)

pub starts_of_kept : (K L M N : List (ℤ × ℤ)) (i j : ℕ) (v w : ℤ) → K ≡ L → M ≡ L → N ≡ M → v ≡ w → StartsBy v (take j N) → StartsBy w (take (j - i) (drop i K))
starts_of_kept K L M N i j v w e f g h s =
    starts_between K i j w (subst (λ (J : List (ℤ × ℤ)). StartsBy w (take j J)) (g ∙ f ∙ sym e) (subst (λ (u : ℤ). StartsBy u (take j N)) h s))

-- ---- the runs of an answer, as many as were pushed at most

pub one_more_at_most : (old new : List (ℤ × ℤ)) (p : ℤ × ℤ) (n : ℕ) → IsRunsOf new (Union (Covers old) (IsBetween p)) → length old ≤ n → length new ≤ n + 1
one_more_at_most old new p n r h =
    let k = length_of_union old (p ∷ []) new (IsRunsOf-same (Union (Covers old) (IsBetween p)) (Union (Covers old) (Covers (p ∷ []))) new (λ z. (
      ⊎_elim (λ c. inl c) (λ b. inr (inl b)),
      ⊎_elim (λ c. inl c) (⊎_elim (λ b. inr b) (λ c. absurd c)),
    )) r) in
    omega arith

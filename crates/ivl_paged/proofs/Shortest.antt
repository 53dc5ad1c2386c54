-- The shortest run that has room, page by page.
use Rattle.std.proofs.Common.{◌≡◌, ◌⊎◌, ⊎_elim, inl, inr, ℕ, zero, suc, ◌+◌, ◌-◌, ◌<◌, ◌≤◌, ℤ, pos, ◌+ℤ◌, ◌-ℤ◌, ◌≤ℤ◌, List, [], ◌++◌, length, get_or, take, take_all, Some, None, refl, sym, subst, ◌∙◌, arith}
use Rattle.std.specs.Prelude.{MatchOption, Option}
use Rattle.std.proofs.lemmas.Bool.{cases_lt}
use Rattle.std.proofs.lemmas.List.{get_or_default}
use Rattle.std.proofs.lemmas.Int.{ints, by_lt_z}
use Rattle.ivl_laws.specs.Bounds.{width_of}
use Rattle.ivl_laws.specs.Sets.{AtLeast}
use Rattle.ivl_laws.specs.Runs.{Covers, IsMaximal}
use Rattle.ivl_laws.proofs.Counts.{in-append}
use Rattle.ivl_laws.proofs.Intervals.{width_of-filled}
use Rattle.ivl_laws.proofs.Merging.{covers-append, covers-append_left, covers-append_right}
use Rattle.ivl_laws.proofs.Products.{one_covers}
use Rattle.ivl_laws.proofs.Runs.{lower_end, pair_same, upper_end, ≤ℤ_antisymm}
use Rattle.ivl_places.specs.FirstFit.{FitsAt, IsFirstFit}
use Rattle.ivl_places.specs.Fits.{IsBestFit}
use Rattle.ivl_places.specs.Neighbours.{IsRunWith}
use Rattle.ivl_places.proofs.Fits.{run_is_listed}
use Rattle.ivl_paged.specs.Longests.{HasLong}
use Rattle.ivl_paged.specs.Pages.{flattened}
use Rattle.ivl_paged.specs.Parts.{IsBetterOf, IsShorterOf, IsShortestRun}
use Rattle.ivl_paged.proofs.Fitting.{first_of, fits_in_part}
use Rattle.ivl_paged.proofs.Paging.{IsMaximal-taken, covers_taken, flattened_more, parts_apart}

-- ---- a run and the numbers that it has room for

run_is_filled : (S : ℤ → Type 0) (v : ℤ) (p : ℤ × ℤ) → IsRunWith v S p → p.0 ≤ℤ p.1
run_is_filled S v p r = let low = r.holds.0 in let high = r.holds.1 in omega (arith, ints, low, high)

fits_in_run : (n : ℕ) (S : ℤ → Type 0) (v : ℤ) (p : ℤ × ℤ) → IsRunWith v S p → n ≤ width_of p → FitsAt n S p.0
fits_in_run n S v p r h z b =
    let width = width_of-filled p (run_is_filled S v p r) in
    r.inside z (b.0, omega (arith, ints, b.1, width, h))

same_run : (S : ℤ → Type 0) (v : ℤ) (p q : ℤ × ℤ) → IsRunWith v S p → IsRunWith v S q → p ≡ q
same_run S v p q r s =
    let pl = r.holds.0 in
    let pu = r.holds.1 in
    let ql = s.holds.0 in
    let qu = s.holds.1 in
    pair_same p q
    (by_lt_z p.0 q.0
    (λ h. absurd (s.free_below (r.inside (q.0 -ℤ pos 1) (omega (arith, ints, h), omega (arith, ints, ql, pu)))))
    (λ h. by_lt_z q.0 p.0 (λ k. absurd (r.free_below (s.inside (p.0 -ℤ pos 1) (omega (arith, ints, k), omega (arith, ints, pl, qu))))) (λ k. ≤ℤ_antisymm p.0 q.0 k h)))
    (by_lt_z p.1 q.1
    (λ h. absurd (r.free_above (s.inside (p.1 +ℤ pos 1) (omega (arith, ints, ql, pu), omega (arith, ints, h)))))
    (λ h. by_lt_z q.1 p.1 (λ k. absurd (s.free_above (r.inside (q.1 +ℤ pos 1) (omega (arith, ints, pl, qu), omega (arith, ints, k))))) (λ k. ≤ℤ_antisymm p.1 q.1 k h)))

abbrev pub IsBestSoFar : ℕ → (ℤ → Type 0) → Option (ℤ × ℤ) → Type 0
IsBestSoFar n S o = MatchOption o ((v : ℤ) → ¬ (FitsAt n S v)) (IsShortestRun n S)

-- the run that holds the best fit
pub shortest_by_fit : (n : ℕ) (S : ℤ → Type 0) (fit : ℤ × ℤ) (u : ℤ) (o : Option (ℤ × ℤ)) → IsBestFit n S fit → u ≡ fit.0 → MatchOption o (¬ (S u)) (IsRunWith u S) → IsBestSoFar n S o
shortest_by_fit n S fit u None b e h = absurd (h (subst S (sym e) (b.of_set.inside fit.0 b.of_set.holds)))
shortest_by_fit n S fit u (Some r) b e h =
    let same : r ≡ b.run = same_run S fit.0 r b.run (subst (λ (v : ℤ). IsRunWith v S r) e h) b.of_set in
    subst (IsShortestRun n S) (sym same) (record {
      of_set = subst (λ (v : ℤ). IsRunWith v S b.run) (sym b.starts) b.of_set;
      enough = b.enough;
      shortest = b.shortest;
    })

-- the lowest room that starts no lower than the shortest run is its start
pub fit_of_shortest : (n : ℕ) (S : ℤ → Type 0) (run : ℤ × ℤ) (u : ℤ) (o : Option (ℤ × ℤ)) → 0 < n → IsShortestRun n S run → u ≡ run.0 →
    MatchOption o ((w : ℤ) → ¬ (FitsAt n (AtLeast u S) w)) (IsFirstFit n (AtLeast u S)) → MatchOption o ((w : ℤ) → ¬ (FitsAt n S w)) (IsBestFit n S)
fit_of_shortest n S run u o some s e h = go o h
  where
    here : FitsAt n (AtLeast u S) run.0
    here z b = (fits_in_run n S run.0 run s.of_set s.enough z b, omega (arith, ints, b.0, e))

    go : (o : Option (ℤ × ℤ)) → MatchOption o ((w : ℤ) → ¬ (FitsAt n (AtLeast u S) w)) (IsFirstFit n (AtLeast u S)) → MatchOption o ((w : ℤ) → ¬ (FitsAt n S w)) (IsBestFit n S)
    go None h = absurd (h run.0 here)
    go (Some fit) f =
        let count = f.count in
        let low = f.lowest run.0 here in
        let from = (f.members fit.0 (omega (arith, ints), omega (arith, ints, count, some))).1 in
        let starts : run.0 ≡ fit.0 = ≤ℤ_antisymm run.0 fit.0 (omega (arith, ints, from, e)) low in
        record {
          count = f.count;
          run = run;
          of_set = subst (λ (v : ℤ). IsRunWith v S run) starts s.of_set;
          starts = starts;
          enough = s.enough;
          shortest = s.shortest;
        }

-- ---- the runs of two lists, of which one follows the other

module _ (n : ℕ) (A L : List (ℤ × ℤ)) (some : 0 < n) (m : IsMaximal (A ++ L)) where
  run_left : (v : ℤ) (t : ℤ × ℤ) → IsRunWith v (Covers A) t → IsRunWith v (Covers (A ++ L)) t
  run_left v t r =
      let filled = run_is_filled (Covers A) v t r in
      record {
        holds = r.holds;
        inside = λ z b. covers-append_left A L z (r.inside z b);
        free_below = λ c. ⊎_elim r.free_below
            (λ d. let far = parts_apart A L t.0 (t.0 -ℤ pos 1) m (r.inside t.0 (lower_end t filled)) d in omega (arith, ints, far))
            (covers-append A L (t.0 -ℤ pos 1) c);
        free_above = λ c. ⊎_elim r.free_above
            (λ d. let far = parts_apart A L t.1 (t.1 +ℤ pos 1) m (r.inside t.1 (upper_end t filled)) d in omega (arith, ints, far))
            (covers-append A L (t.1 +ℤ pos 1) c);
      }

  run_right : (v : ℤ) (t : ℤ × ℤ) → IsRunWith v (Covers L) t → IsRunWith v (Covers (A ++ L)) t
  run_right v t r =
      let filled = run_is_filled (Covers L) v t r in
      record {
        holds = r.holds;
        inside = λ z b. covers-append_right A L z (r.inside z b);
        free_below = λ c. ⊎_elim
            (λ d. let far = parts_apart A L (t.0 -ℤ pos 1) t.0 m d (r.inside t.0 (lower_end t filled)) in omega (arith, ints, far))
            r.free_below
            (covers-append A L (t.0 -ℤ pos 1) c);
        free_above = λ c. ⊎_elim
            (λ d. let far = parts_apart A L (t.1 +ℤ pos 1) t.1 m d (r.inside t.1 (upper_end t filled)) in omega (arith, ints, far))
            r.free_above
            (covers-append A L (t.1 +ℤ pos 1) c);
      }

  run_of_either : (v : ℤ) (t : ℤ × ℤ) → IsRunWith v (Covers (A ++ L)) t → IsRunWith v (Covers A) t ⊎ IsRunWith v (Covers L) t
  run_of_either v t r = ⊎_elim
      (λ i. inl (record {
        holds = r.holds;
        inside = λ z b. one_covers A t z i b;
        free_below = λ c. r.free_below (covers-append_left A L (t.0 -ℤ pos 1) c);
        free_above = λ c. r.free_above (covers-append_left A L (t.1 +ℤ pos 1) c);
      }))
      (λ i. inr (record {
        holds = r.holds;
        inside = λ z b. one_covers L t z i b;
        free_below = λ c. r.free_below (covers-append_right A L (t.0 -ℤ pos 1) c);
        free_above = λ c. r.free_above (covers-append_right A L (t.1 +ℤ pos 1) c);
      }))
      (in-append A L t (run_is_listed (A ++ L) v t m r))

  -- a run of the first list starts below one of the second
  starts_lower : (u v : ℤ) (p t : ℤ × ℤ) → IsRunWith u (Covers A) p → IsRunWith v (Covers L) t → p.0 ≤ℤ t.0
  starts_lower u v p t r s =
      let far = parts_apart A L p.0 t.0 m (r.inside p.0 (lower_end p (run_is_filled (Covers A) u p r))) (s.inside t.0 (lower_end t (run_is_filled (Covers L) v t s))) in
      omega (arith, ints, far)

  first_is_shorter : (p q : ℤ × ℤ) → IsShortestRun n (Covers A) p → IsShortestRun n (Covers L) q → width_of p ≤ width_of q → IsShortestRun n (Covers (A ++ L)) p
  first_is_shorter p q s t h = record {
    of_set = run_left p.0 p s.of_set;
    enough = s.enough;
    shortest = λ v r w k. ⊎_elim
        (λ a. s.shortest v r a k)
        (λ a. let low = starts_lower p.0 v p r s.of_set a in
        ⊎_elim (λ less. inl (omega (arith, less, h)))
        (λ same. let e = same.0 in ⊎_elim (λ less. inl less) (λ le. inr (omega (arith, le, e, h), low)) (cases_lt (width_of p) (width_of r)))
        (t.shortest v r a k))
        (run_of_either v r w);
  }

  second_is_shorter : (p q : ℤ × ℤ) → IsShortestRun n (Covers A) p → IsShortestRun n (Covers L) q → width_of q < width_of p → IsShortestRun n (Covers (A ++ L)) q
  second_is_shorter p q s t h = record {
    of_set = run_right q.0 q t.of_set;
    enough = t.enough;
    shortest = λ v r w k. ⊎_elim
        (λ a. inl (⊎_elim (λ less. omega (arith, less, h)) (λ same. let e = same.0 in omega (arith, e, h)) (s.shortest v r a k)))
        (λ a. t.shortest v r a k)
        (run_of_either v r w);
  }

  only_first : (p : ℤ × ℤ) → IsShortestRun n (Covers A) p → ((v : ℤ) → ¬ (FitsAt n (Covers L) v)) → IsShortestRun n (Covers (A ++ L)) p
  only_first p s none = record {
    of_set = run_left p.0 p s.of_set;
    enough = s.enough;
    shortest = λ v r w k. ⊎_elim (λ a. s.shortest v r a k) (λ a. absurd (none r.0 (fits_in_run n (Covers L) v r a k))) (run_of_either v r w);
  }

  only_second : (q : ℤ × ℤ) → ((v : ℤ) → ¬ (FitsAt n (Covers A) v)) → IsShortestRun n (Covers L) q → IsShortestRun n (Covers (A ++ L)) q
  only_second q none t = record {
    of_set = run_right q.0 q t.of_set;
    enough = t.enough;
    shortest = λ v r w k. ⊎_elim (λ a. absurd (none r.0 (fits_in_run n (Covers A) v r a k))) (λ a. t.shortest v r a k) (run_of_either v r w);
  }

  best_of_both : (o u r : Option (ℤ × ℤ)) → IsBestSoFar n (Covers A) o → IsBestSoFar n (Covers L) u → IsShorterOf o u r → IsBestSoFar n (Covers (A ++ L)) r
  best_of_both None None r a b e = subst (IsBestSoFar n (Covers (A ++ L))) (sym e) (λ v f. ⊎_elim (a v) (b v) (fits_in_part n A L v some m f))
  best_of_both None (Some q) r a b e = subst (IsBestSoFar n (Covers (A ++ L))) (sym e) (only_second q a b)
  best_of_both (Some p) None r a b e = subst (IsBestSoFar n (Covers (A ++ L))) (sym e) (only_first p a b)
  best_of_both (Some p) (Some q) r a b (inl (h, e)) = subst (IsBestSoFar n (Covers (A ++ L))) (sym e) (second_is_shorter p q a b h)
  best_of_both (Some p) (Some q) r a b (inr (h, e)) = subst (IsBestSoFar n (Covers (A ++ L))) (sym e) (first_is_shorter p q a b h)

-- ---- the best of the first pages

pub best_in_none : (n : ℕ) (P : List (List (ℤ × ℤ))) → 0 < n → IsBestSoFar n (Covers (flattened (take 0 P))) None
best_in_none n P some v f = let (k, less, c) = covers_taken P 0 v (first_of n v _ some f) in omega (arith, less)

pub best_with_next : (n : ℕ) (P : List (List (ℤ × ℤ))) (L : List (ℤ × ℤ)) (i : ℕ) (best r : Option (ℤ × ℤ)) → 0 < n → i < length P → IsMaximal (flattened (take (i + 1) P)) → L ≡ get_or P i L →
    IsBestSoFar n (Covers (flattened (take i P))) best → IsBetterOf n best (Covers L) r → IsBestSoFar n (Covers (flattened (take (i + 1) P))) r
best_with_next n P L i best r some h m is a b =
    let more : flattened (take (i + 1) P) ≡ flattened (take i P) ++ L = flattened_more P i L h ∙ subst (λ (K : List (ℤ × ℤ)). flattened (take i P) ++ get_or P i L ≡ flattened (take i P) ++ K) (sym is) refl in
    subst (λ (K : List (ℤ × ℤ)). IsBestSoFar n (Covers K) r) (sym more)
    (best_of_both n (flattened (take i P)) L some (subst IsMaximal more m) best b.other r a b.of_set b.shorter)

-- pages with no such run change nothing
pub best_past : (n : ℕ) (P : List (List (ℤ × ℤ))) (i j : ℕ) (best : Option (ℤ × ℤ)) → 0 < n → i ≤ j → j ≤ length P → IsMaximal (flattened P) → ((k : ℕ) → i ≤ k → k < j → ¬ (HasLong n P k)) →
    IsBestSoFar n (Covers (flattened (take i P))) best → IsBestSoFar n (Covers (flattened (take j P))) best
best_past n P i j best some le most m none b = subst (λ (k : ℕ). IsBestSoFar n (Covers (flattened (take k P))) best) (omega (arith, le)) (go (j - i) (omega (arith, le)))
  where
    unchanged : (o : Option (ℤ × ℤ)) → IsShorterOf o None o
    unchanged None = refl
    unchanged (Some p) = refl

    go : (d : ℕ) → i + d ≤ j → IsBestSoFar n (Covers (flattened (take (i + d) P))) best
    go zero h = subst (λ (k : ℕ). IsBestSoFar n (Covers (flattened (take k P))) best) (omega arith) b
    go (suc d) h =
        let here : i + d < length P = omega (arith, h, most) in
        let before = go d (omega (arith, h)) in
        let not_here : IsBetterOf n best (Covers (get_or P (i + d) [])) best = record { other = None; of_set = λ v f. none (i + d) (omega arith) (omega (arith, h)) (v, f); shorter = unchanged best } in
        subst (λ (k : ℕ). IsBestSoFar n (Covers (flattened (take k P))) best) (omega arith)
        (best_with_next n P (get_or P (i + d) []) (i + d) best best some here (IsMaximal-taken P (i + d + 1) m) (sym (get_or_default P (i + d) _ [] here)) before not_here)

pub best_in_all : (n : ℕ) (P : List (List (ℤ × ℤ))) (i : ℕ) (o : Option (ℤ × ℤ)) → length P ≤ i → IsBestSoFar n (Covers (flattened (take i P))) o → IsBestSoFar n (Covers (flattened P)) o
best_in_all n P i o h = subst (λ (Q : List (List (ℤ × ℤ))). IsBestSoFar n (Covers (flattened Q)) o) (take_all i P h)

-- Room that is taken from the start of a run, and the shortest run that has it.
use Rattle.std.proofs.Common.{◌≡◌, ◌⊎◌, ◌≤◌, ◌<◌, ◌+◌, inl, inr, ⊎_elim, ℕ, ℤ, pos, ◌+ℤ◌, ◌-ℤ◌, ◌≤ℤ◌, List, [], ◌∷◌, ◌++◌, length, take, take_all, get_or, Some, None, arith, refl, sym, subst}
use Rattle.std.specs.Prelude.{Option, MatchOption, ⊤}
use Rattle.std.proofs.lemmas.Bool.{cases_lt}
use Rattle.std.proofs.lemmas.Int.{ints, by_lt_z}
use Rattle.ivl_laws.specs.Bounds.{width_of}
use Rattle.ivl_laws.specs.Counts.{IsIn}
use Rattle.ivl_laws.specs.Sets.{IsBetween, IsSubset}
use Rattle.ivl_laws.specs.Runs.{Covers, IsMaximal}
use Rattle.ivl_laws.proofs.Counts.{in-append, in-append_left, in-append_right}
use Rattle.ivl_laws.proofs.Intervals.{width_of-filled}
use Rattle.ivl_laws.proofs.Lengths.{free_below}
use Rattle.ivl_laws.proofs.Places.{free_above_end, start_in}
use Rattle.ivl_laws.proofs.Products.{one_covers, open_in}
use Rattle.ivl_laws.proofs.Runs.{lower_end, pair_same, ≤ℤ_antisymm}
use Rattle.ivl_places.specs.Edits.{widened}
use Rattle.ivl_places.specs.Fits.{IsBestFit, IsNoBetter}
use Rattle.ivl_places.specs.Neighbours.{IsRunWith}
use Rattle.ivl_places.specs.FirstFit.{FitsAt, IsFirstFit}
use Rattle.ivl_places.proofs.Ranks.{ahead, more_is}
use Rattle.ivl_places.proofs.FirstFit.{in_one_run}

-- the number below the lowest room is free, else there were a lower one
pub fit_splits_none : (n : ℕ) (S : ℤ → Type 0) (run : ℤ × ℤ) → IsFirstFit n S run → ¬ (IsSubset (IsBetween (widened run)) S)
fit_splits_none n S run f h =
    let e = f.count in
    let low = f.lowest (run.0 -ℤ pos 1) (λ z b. let l = b.0 in let u = b.1 in h z (l, omega (arith, ints))) in
    absurd (omega (arith, ints))

-- ---- the best of the first runs

-- the run fits better than the best so far
abbrev FitsBetter : ℕ → ℤ × ℤ → Option (ℤ × ℤ) → Type 0
FitsBetter n run best = (n ≤ width_of run) × MatchOption best ⊤ (λ shortest. width_of run < width_of shortest)

-- the best so far, once the run is seen
abbrev pub IsBetterRun : ℕ → Option (ℤ × ℤ) → ℤ × ℤ → Option (ℤ × ℤ) → Type 0
IsBetterRun n None run answer = ((n ≤ width_of run) × (answer ≡ Some run)) ⊎ ((width_of run < n) × (answer ≡ None))
IsBetterRun n (Some best) run answer = ((n ≤ width_of run) × (width_of run < width_of best) × (answer ≡ Some run))
    ⊎ (((width_of run < n) ⊎ (width_of best ≤ width_of run)) × (answer ≡ Some best))

pub better_taken : (n : ℕ) (best : Option (ℤ × ℤ)) (run : ℤ × ℤ) (answer : Option (ℤ × ℤ)) → FitsBetter n run best → answer ≡ Some run → IsBetterRun n best run answer
better_taken n None run answer f e = inl (f.0, e)
better_taken n (Some best) run answer f e = inl (f.0, f.1, e)

pub better_left : (n : ℕ) (best : Option (ℤ × ℤ)) (run : ℤ × ℤ) (answer : Option (ℤ × ℤ)) → ¬ (FitsBetter n run best) → answer ≡ best → IsBetterRun n best run answer
better_left n None run answer f e = inr (⊎_elim (λ h. h) (λ h. absurd (f (h, tt))) (cases_lt (width_of run) n), e)
better_left n (Some best) run answer f e = inr (⊎_elim (λ h. inl h) (λ h. ⊎_elim (λ less. absurd (f (h, less))) (λ le. inr le) (cases_lt (width_of run) (width_of best))) (cases_lt (width_of run) n), e)

pub record IsShortest (n : ℕ) (L : List (ℤ × ℤ)) (best : ℤ × ℤ) : Type 0 where
  pub of_list : IsIn L best
  pub enough : n ≤ width_of best
  pub shortest : (q : ℤ × ℤ) → IsIn L q → n ≤ width_of q → IsNoBetter best q

abbrev pub IsBestOf : ℕ → List (ℤ × ℤ) → Option (ℤ × ℤ) → Type 0
IsBestOf n L o = MatchOption o ((q : ℤ × ℤ) → IsIn L q → width_of q < n) (IsShortest n L)

not_in_none : (L : List (ℤ × ℤ)) (q : ℤ × ℤ) → ¬ (IsIn (take 0 L) q)
not_in_none [] q i = i
not_in_none (p ∷ L) q i = i

pub best_of_none : (n : ℕ) (L : List (ℤ × ℤ)) → IsBestOf n (take 0 L) None
best_of_none n L q i = absurd (not_in_none L q i)

pub best_of_all : (n : ℕ) (L : List (ℤ × ℤ)) (i : ℕ) (o : Option (ℤ × ℤ)) → length L ≤ i → IsBestOf n (take i L) o → IsBestOf n L o
best_of_all n L i o h = subst (λ (M : List (ℤ × ℤ)). IsBestOf n M o) (take_all i L h)

-- a run after others, each of which lies below it
module _ (n : ℕ) (K : List (ℤ × ℤ)) (d : ℤ × ℤ) where
  in_pushed : {C : Type 0} (q : ℤ × ℤ) → IsIn (K ++ d ∷ []) q → (IsIn K q → C) → (q ≡ d → C) → C
  in_pushed q i f h = ⊎_elim f (⊎_elim h (λ x. absurd x)) (in-append K (d ∷ []) q i)

  none_yet : (answer : Option (ℤ × ℤ)) → IsBestOf n K None → IsBetterRun n None d answer → IsBestOf n (K ++ d ∷ []) answer
  none_yet answer u (inl (h, e)) = subst (IsBestOf n (K ++ d ∷ [])) (sym e) (record {
    of_list = in-append_right K (d ∷ []) d (inl refl);
    enough = h;
    shortest = λ q i w. in_pushed q i
        (λ j. let k = u q j in absurd (omega arith))
        (λ f. subst (IsNoBetter d) (sym f) (inr (refl, omega (arith, ints))));
  })
  none_yet answer u (inr (h, e)) = subst (IsBestOf n (K ++ d ∷ [])) (sym e) (λ q i. in_pushed q i (u q) (λ f. subst (λ (r : ℤ × ℤ). width_of r < n) (sym f) h))

  one_yet : (best : ℤ × ℤ) (answer : Option (ℤ × ℤ)) → best.0 ≤ℤ d.0 → IsShortest n K best → IsBetterRun n (Some best) d answer → IsBestOf n (K ++ d ∷ []) answer
  one_yet best answer low u (inl (h, less, e)) = subst (IsBestOf n (K ++ d ∷ [])) (sym e) (record {
    of_list = in-append_right K (d ∷ []) d (inl refl);
    enough = h;
    shortest = λ q i w. in_pushed q i
        (λ j. inl (⊎_elim (λ (k : width_of best < width_of q). omega arith) (λ k. let same = k.0 in omega arith) (u.shortest q j w)))
        (λ f. subst (IsNoBetter d) (sym f) (inr (refl, omega (arith, ints))));
  })
  one_yet best answer low u (inr (other, e)) = subst (IsBestOf n (K ++ d ∷ [])) (sym e) (record {
    of_list = in-append_left K (d ∷ []) best u.of_list;
    enough = u.enough;
    shortest = λ q i w. in_pushed q i
        (λ j. u.shortest q j w)
        (λ f. subst (IsNoBetter best) (sym f) (last (subst (λ (r : ℤ × ℤ). n ≤ width_of r) f w)));
  })
    where
      last : n ≤ width_of d → IsNoBetter best d
      last w = ⊎_elim
          (λ (h : width_of d < n). absurd (omega arith))
          (λ (h : width_of best ≤ width_of d). ⊎_elim (λ less. inl less) (λ le. inr (omega arith, low)) (cases_lt (width_of best) (width_of d)))
          other

pub best_of_more : (n : ℕ) (L : List (ℤ × ℤ)) (i : ℕ) (d : ℤ × ℤ) (best answer : Option (ℤ × ℤ)) → IsMaximal L → IsMaximal (take i L) → i < length L → d ≡ get_or L i d →
    IsBestOf n (take i L) best → IsBetterRun n best d answer → IsBestOf n (take (i + 1) L) answer
best_of_more n L i d None answer m k h is u b = subst (λ (M : List (ℤ × ℤ)). IsBestOf n M answer) (sym (more_is L i d m h is)) (none_yet n (take i L) d answer u b)
best_of_more n L i d (Some best) answer m k h is u b =
    let o = open_in (take i L) best k u.of_list in
    let before = ahead L i d m h is best.0 (one_covers (take i L) best best.0 u.of_list (lower_end best o)) in
    subst (λ (M : List (ℤ × ℤ)). IsBestOf n M answer) (sym (more_is L i d m h is)) (one_yet n (take i L) d best answer (omega (arith, ints)) u b)

-- ---- the best of all runs

-- a run of the members is in the list
pub run_is_listed : (L : List (ℤ × ℤ)) (v : ℤ) (q : ℤ × ℤ) → IsMaximal L → IsRunWith v (Covers L) q → IsIn L q
run_is_listed L v q m r =
    let (p, i, a, b) = in_one_run 1 L v (omega arith) m (λ z h. let l = h.0 in let u = h.1 in subst (Covers L) (≤ℤ_antisymm v z l (omega (arith, ints))) (r.inside v r.holds)) in
    let below = free_below L p.0 m (start_in L p i) in
    let above = free_above_end L p m i in
    let pl = a.0 in
    let pu = a.1 in
    let ql = r.holds.0 in
    let qu = r.holds.1 in
    let low : p.0 ≡ q.0 = by_lt_z p.0 q.0
    (λ h. absurd (r.free_below (one_covers L p (q.0 -ℤ pos 1) i (omega (arith, ints), omega (arith, ints)))))
    (λ h. by_lt_z q.0 p.0 (λ k. absurd (below (r.inside (p.0 -ℤ pos 1) (omega (arith, ints), omega (arith, ints))))) (λ k. ≤ℤ_antisymm p.0 q.0 k h)) in
    let high : p.1 ≡ q.1 = by_lt_z p.1 q.1
    (λ h. absurd (above (r.inside (p.1 +ℤ pos 1) (omega (arith, ints), omega (arith, ints)))))
    (λ h. by_lt_z q.1 p.1 (λ k. absurd (r.free_above (one_covers L p (q.1 +ℤ pos 1) i (omega (arith, ints), omega (arith, ints))))) (λ k. ≤ℤ_antisymm p.1 q.1 k h)) in
    subst (IsIn L) (pair_same p q low high) i

pub best_is_fit : (n : ℕ) (L : List (ℤ × ℤ)) (best fit : ℤ × ℤ) → IsMaximal L → IsShortest n L best → fit ≡ (best.0, (best.0 +ℤ pos n) -ℤ pos 1) → IsBestFit n (Covers L) fit
best_is_fit n L best fit m u e =
    let o = open_in L best m u.of_list in
    rw e (record {
      count = refl;
      run = best;
      of_set = record {
        holds = lower_end best o;
        inside = λ z b. one_covers L best z u.of_list b;
        free_below = free_below L best.0 m (start_in L best u.of_list);
        free_above = free_above_end L best m u.of_list;
      };
      starts = refl;
      enough = u.enough;
      shortest = λ v q r w. u.shortest q (run_is_listed L v q m r) w;
    })

pub none_is_no_fit : (n : ℕ) (L : List (ℤ × ℤ)) → 0 < n → IsMaximal L → IsBestOf n L None → (v : ℤ) → ¬ (FitsAt n (Covers L) v)
none_is_no_fit n L h m u v f =
    let (p, i, a, b) = in_one_run n L v h m f in
    let w = width_of-filled p (open_in L p m i) in
    let k = u p i in
    let pl = a.0 in
    let pu = b.1 in
    omega (arith, ints)

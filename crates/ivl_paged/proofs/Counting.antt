-- How many runs pages have: before an edit, beside the pages that it changes, and after it.
use Rattle.std.proofs.Common.{◌≡◌, ◌⊎◌, ⊎_elim, inl, inr, Bool, ℕ, ◌+◌, ◌-◌, ◌^◌, ◌<◌, ◌≤◌, ℤ, pos, ◌+ℤ◌, ◌-ℤ◌, ◌≤ℤ◌, List, ◌∷◌, ◌++◌, length, length-append, get_or, take, drop, set, sym, ap, subst, ◌∙◌, arith}
use Rattle.std.specs.Prelude.{◌<ℤ◌, ◌↔◌, Err, IsOk, IsTrue, Ok, Result, false}
use Rattle.std.proofs.lemmas.Int.{ints, by_lt_z}
use Rattle.std.proofs.lemmas.List.{drop-drop}
use Rattle.ivl_laws.specs.Counts.{IsIn}
use Rattle.ivl_laws.specs.Sets.{IsBetween, IsSubset, Without}
use Rattle.ivl_laws.specs.Runs.{Covers, IsMaximal, IsRunsOf}
use Rattle.ivl_laws.proofs.Counts.{in_without, length-without, without}
use Rattle.ivl_laws.proofs.Lengths.{decide_between, decide_covers, length-starts, length_by_starts, start_of, starts}
use Rattle.ivl_laws.proofs.Places.{start_in}
use Rattle.ivl_laws.proofs.Products.{one_covers}
use Rattle.ivl_places.specs.Edits.{widened}
use Rattle.ivl_places.proofs.FirstFit.{in_one_run}
use Rattle.ivl_places.proofs.IntervalOperands.{length_but_interval}
use Rattle.ivl_places.specs.Neighbours.{IsLeast, IsRunWith}
use Rattle.ivl_paged.specs.Pages.{AreHeads, flattened}
use Rattle.ivl_paged.proofs.Heads.{heads_set}
use Rattle.ivl_paged.proofs.Paging.{cut_at, flattened-append, flattened_more, set_page}

-- ---- the runs of some of the pages

pub length_cut : (P : List (List (ℤ × ℤ))) (i : ℕ) → length (flattened P) ≡ length (flattened (take i P)) + length (flattened (drop i P))
length_cut P i = ap length (cut_at P i) ∙ length-append (flattened (take i P)) (flattened (drop i P))

-- L is page i
pub length_next : (P : List (List (ℤ × ℤ))) (L d : List (ℤ × ℤ)) (i : ℕ) → i < length P → L ≡ get_or P i d → length (flattened (take (i + 1) P)) ≡ length (flattened (take i P)) + length L
length_next P L d i h e =
    ap length (flattened_more P i d h) ∙ length-append (flattened (take i P)) (get_or P i d) ∙ ap (λ (M : List (ℤ × ℤ)). length (flattened (take i P)) + length M) (sym e)

pub length_page : (P : List (List (ℤ × ℤ))) (L d : List (ℤ × ℤ)) (i : ℕ) → i < length P → L ≡ get_or P i d → length (flattened P) ≡ length (flattened (take i P)) + (length L + length (flattened (drop (i + 1) P)))
length_page P L d i h e = let a = length_cut P (i + 1) in let b = length_next P L d i h e in omega (arith, a, b)

pub length_set : (P : List (List (ℤ × ℤ))) (M : List (ℤ × ℤ)) (i : ℕ) → i < length P → length (flattened (set P i M)) ≡ length (flattened (take i P)) + (length M + length (flattened (drop (i + 1) P)))
length_set P M i h =
    let a = ap length (set_page P i M h) in
    let b = length-append (flattened (take i P)) (M ++ flattened (drop (i + 1) P)) in
    let c = length-append M (flattened (drop (i + 1) P)) in
    omega (arith, a, b, c)

pub length_outside : (P : List (List (ℤ × ℤ))) (i j : ℕ) → length (flattened (take i P ++ drop j P)) ≡ length (flattened (take i P)) + length (flattened (drop j P))
length_outside P i j = ap length (flattened-append (take i P) (drop j P)) ∙ length-append (flattened (take i P)) (flattened (drop j P))

-- the pages from place i to before place j, and those beside them
pub length_inside : (P : List (List (ℤ × ℤ))) (i j : ℕ) → i ≤ j →
    length (flattened P) ≡ length (flattened (take i P)) + (length (flattened (take (j - i) (drop i P))) + length (flattened (drop j P)))
length_inside P i j h =
    let a = length_cut P i in
    let b = length_cut (drop i P) (j - i) in
    let more : drop (j - i) (drop i P) ≡ drop j P = drop-drop (j - i) i P ∙ ap (λ (n : ℕ). drop n P) (omega (arith, h)) in
    let c = ap (λ (Q : List (List (ℤ × ℤ))). length (flattened Q)) more in
    omega (arith, a, b, c)

-- ---- a page that a list of pages lends: the runs beside it, and what the list keeps once it is M

-- H are the least numbers of the pages P, which a caller sees as Q
module _ {X : Type 0} (value : X → ℤ) (H : List X) (P Q : List (List (ℤ × ℤ))) (L : List (ℤ × ℤ)) (i count here : ℕ)
    (kept : AreHeads value H P × (count ≡ length (flattened P))) (same : P ≡ Q) (less : i < length Q) (is : L ≡ get_or P i L) (counted : here ≡ length L) where
  there : i < length P
  there = subst (λ (R : List (List (ℤ × ℤ))). i < length R) (sym same) less

  pub lent_within : here ≤ count
  lent_within = let all = length_page P L L i there is in let n = kept.1 in omega (arith, all, n, counted)

  pub count_after : (M : List (ℤ × ℤ)) (after : ℕ) → after ≡ length M → count - here + after ≡ length (flattened (set P i M))
  count_after M after e =
      let all = length_page P L L i there is in
      let made = length_set P M i there in
      let n = kept.1 in
      omega (arith, all, made, n, counted, e)

  pub kept_after : (M : List (ℤ × ℤ)) (x : X) (after : ℕ) → IsLeast (value x) (Covers M) → after ≡ length M → AreHeads value (set H i x) (set P i M) × (count - here + after ≡ length (flattened (set P i M)))
  kept_after M x after least e = (heads_set value H P i x M kept.0 least, count_after M after e)

-- ---- what is left of the runs of a set

-- a number whose predecessor was removed is the one above the interval
after_cut : (p : ℤ × ℤ) (z : ℤ) → IsBetween p (z -ℤ pos 1) → ¬ (IsBetween p z) → z ≡ p.1 +ℤ pos 1
after_cut p z b n = by_lt_z p.1 z
    (λ lt. let high = b.1 in omega (arith, ints, lt, high))
    (λ le. let low = b.0 in absurd (n (omega (arith, ints, low), le)))

-- an interval that does not lie inside a run leaves no more runs than there were
pub no_more_runs : (L R : List (ℤ × ℤ)) (p : ℤ × ℤ) → IsMaximal L → p.0 ≤ℤ p.1 → ¬ (IsSubset (IsBetween (widened p)) (Covers L)) → IsRunsOf R (Without (Covers L) (IsBetween p)) → length R ≤ length L
no_more_runs L R p m filled n r = ⊎_elim (λ last. ⊎_elim (both last) (λ free. old_starts (λ z e c d. free (subst (Covers L) e c))) (decide_covers L (p.1 +ℤ pos 1))) (λ free. old_starts (λ z e c d. free (subst (Covers L) (omega (arith, ints, e)) d))) (decide_covers L p.1)
  where
    old_starts : ((z : ℤ) → z ≡ p.1 +ℤ pos 1 → Covers L z → Covers L (z -ℤ pos 1) → ⊥) → length R ≤ length L
    old_starts never =
        let short = length_by_starts R (Without (Covers L) (IsBetween p)) (starts L) r
        (λ z s k. start_of L z s.0 (λ d. ⊎_elim (λ b. never z (after_cut p z b s.1) s.0 d) (λ o. k (d, o)) (decide_between p (z -ℤ pos 1)))) in
        let same = length-starts L in
        omega (arith, short, same)

    both : Covers L p.1 → Covers L (p.1 +ℤ pos 1) → length R ≤ length L
    both last next =
        let (q, i, a, b) = in_one_run 2 L p.1 (omega arith) m (λ z c. let low = c.0 in let high = c.1 in by_lt_z p.1 z
        (λ lt. subst (Covers L) (omega (arith, ints, lt, high)) next)
        (λ le. subst (Covers L) (omega (arith, ints, le, low)) last)) in
        let high = b.1 in
        let le = a.0 in
        let start : p.0 ≤ℤ q.0 = by_lt_z q.0 p.0
        (λ lt. absurd (n (λ z c. let from = c.0 in let to = c.1 in one_covers L q z i (omega (arith, ints, lt, from), omega (arith, ints, to, high)))))
        (λ o. o) in
        let h : IsIn (starts L) q.0 = start_in L q i in
        let short = length_by_starts R (Without (Covers L) (IsBetween p)) ((p.1 +ℤ pos 1) ∷ without q.0 (starts L) h) r
        (λ z s k. ⊎_elim
        (λ d. ⊎_elim (λ c. inl (after_cut p z c s.1)) (λ o. absurd (k (d, o))) (decide_between p (z -ℤ pos 1)))
        (λ f. inr (in_without q.0 z (starts L) h (λ e. s.1 (subst (IsBetween p) (sym e) (start, le))) (start_of L z s.0 f)))
        (decide_covers L (z -ℤ pos 1))) in
        let less = length-without q.0 (starts L) h in
        let same = length-starts L in
        omega (arith, short, less, same)

-- R is L without the interval, which splits no run, or one run more is counted still
pub fits_after_split : (L R : List (ℤ × ℤ)) (p : ℤ × ℤ) (count here after : ℕ) → IsMaximal L → p.0 ≤ℤ p.1 → IsRunsOf R (Without (Covers L) (IsBetween p)) → here ≡ length L → after ≡ length R → here ≤ count → count < 2 ^ 64 →
    (count < 2 ^ 64 - 1) ⊎ (¬ (IsSubset (IsBetween (widened p)) (Covers L))) → count - here + after < 2 ^ 64
fits_after_split L R p count here after m filled r e f within fits counted = ⊎_elim
    (λ lt. let most = length_but_interval L R p r in omega (arith, most, lt, e, f, within))
    (λ n. let most = no_more_runs L R p m filled n r in omega (arith, most, fits, e, f, within))
    counted

-- ---- an interval inside a run

-- N is the list L, and a search at v, the first number of p, found the run
pub inside_by_upper : (N L : List (ℤ × ℤ)) (run p : ℤ × ℤ) (v : ℤ) (t : Bool) → N ≡ L → v ≡ p.0 → p.0 ≤ℤ p.1 → IsRunWith v (Covers N) run → run.0 <ℤ p.0 → (IsTrue t ↔ (p.1 <ℤ run.1)) → IsTrue t ↔ IsSubset (IsBetween (widened p)) (Covers L)
inside_by_upper N L run p v t e f filled r low k = (
  (λ u z b. let high = k.0 u in let from = b.0 in let to = b.1 in subst (λ (M : List (ℤ × ℤ)). Covers M z) e (r.inside z (omega (arith, ints, low, from), omega (arith, ints, high, to)))),
  (λ h. k.1 (by_lt_z p.1 run.1
      (λ lt. lt)
      (λ le. let up = r.holds.1 in absurd (r.free_above (subst (λ (M : List (ℤ × ℤ)). Covers M (run.1 +ℤ pos 1)) (sym e) (h (run.1 +ℤ pos 1) (omega (arith, ints, up, f), omega (arith, ints, le)))))))),
)

pub outside_by_lower : (N L : List (ℤ × ℤ)) (run p : ℤ × ℤ) (v : ℤ) (t : Bool) → N ≡ L → v ≡ p.0 → p.0 ≤ℤ p.1 → IsRunWith v (Covers N) run → p.0 ≤ℤ run.0 → t ≡ false → IsTrue t ↔ IsSubset (IsBetween (widened p)) (Covers L)
outside_by_lower N L run p v t e f filled r low none = (
  (λ u. absurd (cc)),
  (λ h. let from = r.holds.0 in absurd (r.free_below (subst (λ (M : List (ℤ × ℤ)). Covers M (run.0 -ℤ pos 1)) (sym e) (h (run.0 -ℤ pos 1) (omega (arith, ints, low), omega (arith, ints, from, f, filled)))))),
)

pub err_is_not_ok : {A E : Type 0} (r : Result A E) (e : E) → r ≡ Err e → ¬ (IsOk r)
err_is_not_ok (Ok a) e h i = absurd (cc)
err_is_not_ok (Err d) e h i = absurd (cc)

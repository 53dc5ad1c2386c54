-- Numbers added to a page or removed from it: what a search for the first of them tells, and when the number of runs grows.
use Rattle.std.proofs.Common.{◌≡◌, ⊎_elim, inl, inr, ◌<◌, ◌≤◌, ℤ, pos, ◌+ℤ◌, ◌-ℤ◌, ◌≤ℤ◌, List, ◌∷◌, length, sym, subst, arith}
use Rattle.std.specs.Prelude.{IsSomeAnd, MatchOption, None, Option, Some}
use Rattle.std.proofs.lemmas.Int.{ints, by_lt_z}
use Rattle.ivl_laws.specs.Counts.{IsIn}
use Rattle.ivl_laws.specs.Sets.{HasSome, Intersection, IsBetween, Union, Without}
use Rattle.ivl_laws.specs.Runs.{Covers, IsMaximal, IsRunsOf}
use Rattle.ivl_laws.proofs.Counts.{in_without, length-without, without}
use Rattle.ivl_laws.proofs.Lengths.{decide_covers, length-starts, length_by_starts, start_of, starts}
use Rattle.ivl_laws.proofs.Places.{start_in}
use Rattle.ivl_laws.proofs.Products.{one_covers}
use Rattle.ivl_places.specs.Edits.{widened}
use Rattle.ivl_places.specs.Neighbours.{IsRunWith}
use Rattle.ivl_places.proofs.FirstFit.{in_one_run}

-- ---- an interval that touches a run adds none

-- a start of the sum is a start of L, or the first number of p
start_of_sum : (L : List (ℤ × ℤ)) (p : ℤ × ℤ) (z : ℤ) → Union (Covers L) (IsBetween p) z → ¬ (Union (Covers L) (IsBetween p) (z -ℤ pos 1)) → IsIn (p.0 ∷ starts L) z
start_of_sum L p z u n = ⊎_elim
    (λ c. inr (start_of L z c (λ d. n (inl d))))
    (λ b. let low = b.0 in let high = b.1 in by_lt_z p.0 z
    (λ lt. absurd (n (inr (omega (arith, ints, lt), omega (arith, ints, high)))))
    (λ le. inl (omega (arith, ints, low, le))))
    u

module _ (L R : List (ℤ × ℤ)) (p : ℤ × ℤ) (m : IsMaximal L) (filled : p.0 ≤ℤ p.1) (r : IsRunsOf R (Union (Covers L) (IsBetween p))) where
  none_more_below : Covers L (p.0 -ℤ pos 1) → length R ≤ length L
  none_more_below c =
      let short = length_by_starts R (Union (Covers L) (IsBetween p)) (starts L) r
      (λ z u n. ⊎_elim (λ e. absurd (n (inl (subst (λ (x : ℤ). Covers L (x -ℤ pos 1)) (sym e) c)))) (λ i. i) (start_of_sum L p z u n)) in
      let same = length-starts L in
      omega (arith, short, same)

  -- the run that has a number of p, or the one above, does not start there any more, unless it is the first of p
  none_more_there : (w : ℤ) → p.0 ≤ℤ w → w ≤ℤ (p.1 +ℤ pos 1) → ¬ (Covers L (p.0 -ℤ pos 1)) → Covers L w → length R ≤ length L
  none_more_there w from to free c =
      let (q, i, a, b) = in_one_run 1 L w (omega arith) m (λ z d. let low = d.0 in let high = d.1 in subst (Covers L) (omega (arith, ints, low, high)) c) in
      let low = a.0 in
      let high = a.1 in
      let h : IsIn (starts L) q.0 = start_in L q i in
      let other : (z : ℤ) → ¬ (z ≡ q.0) → IsIn (starts L) z → IsIn (p.0 ∷ without q.0 (starts L) h) z = λ z n s. inr (in_without q.0 z (starts L) h n s) in
      let first : (z : ℤ) → ¬ (Union (Covers L) (IsBetween p) (z -ℤ pos 1)) → q.0 ≤ℤ z → z ≤ℤ q.0 → IsIn (p.0 ∷ without q.0 (starts L) h) z = λ z n ge le. by_lt_z p.0 q.0
      (λ lt. absurd (n (inr (omega (arith, ints, lt, ge), omega (arith, ints, low, le, to)))))
      (λ up. by_lt_z q.0 p.0
      (λ lt. absurd (free (one_covers L q (p.0 -ℤ pos 1) i (omega (arith, ints, lt), omega (arith, ints, high, from)))))
      (λ down. inl (omega (arith, ints, ge, le, up, down)))) in
      let short = length_by_starts R (Union (Covers L) (IsBetween p)) (p.0 ∷ without q.0 (starts L) h) r
      (λ z u n. ⊎_elim (λ e. inl e) (λ s. by_lt_z z q.0
      (λ lt. other z (λ e. omega (arith, ints, lt, e)) s)
      (λ ge. by_lt_z q.0 z
      (λ lt. other z (λ e. omega (arith, ints, lt, e)) s)
      (λ le. first z n ge le)))
      (start_of_sum L p z u n)) in
      let less = length-without q.0 (starts L) h in
      let same = length-starts L in
      omega (arith, short, less, same)

  -- an interval that overlaps or touches a run adds none
  pub none_more : HasSome (Intersection (Covers L) (IsBetween (widened p))) → length R ≤ length L
  none_more (w, (c, b)) =
      let low = b.0 in
      let high = b.1 in
      ⊎_elim
      (λ below. none_more_below below)
      (λ free. by_lt_z w p.0
      (λ lt. absurd (free (subst (Covers L) (omega (arith, ints, low, lt)) c)))
      (λ from. none_more_there w from high free c))
      (decide_covers L (p.0 -ℤ pos 1))

  -- one run more: the interval is a run by itself
  pub alone_if_more : length L < length R → IsRunWith p.0 (Covers R) p
  alone_if_more more = record {
    holds = (omega (arith, ints), filled);
    inside = λ z b. (r.members z).1 (inr b);
    free_below = λ c. ⊎_elim
        (λ d. let le = none_more_below d in omega (arith, more, le))
        (λ b. let low = b.0 in omega (arith, ints, low))
        ((r.members (p.0 -ℤ pos 1)).0 c);
    free_above = λ c. ⊎_elim
        (λ d. ⊎_elim
        (λ e. let le = none_more_below e in omega (arith, more, le))
        (λ free. let le = none_more_there (p.1 +ℤ pos 1) (omega (arith, ints, filled)) (omega (arith, ints)) free d in omega (arith, more, le))
        (decide_covers L (p.0 -ℤ pos 1)))
        (λ b. let high = b.1 in omega (arith, ints, high))
        ((r.members (p.1 +ℤ pos 1)).0 c);
  }

-- ---- the run that a search found at v, the first number of p, if it found one

pub nothing_to_add : (o : Option (ℤ × ℤ)) (L : List (ℤ × ℤ)) (p : ℤ × ℤ) (v w : ℤ) → IsMaximal L → v ≡ p.0 → w ≡ p.1 → MatchOption o (¬ (Covers L v)) (IsRunWith v (Covers L)) → IsSomeAnd o (λ run. w ≤ℤ run.1) →
    IsRunsOf L (Union (Covers L) (IsBetween p))
nothing_to_add None L p v w m e f found h = absurd h
nothing_to_add (Some run) L p v w m e f found h = record {
  maximal = m;
  members = λ z. (
    (λ c. inl c),
    ⊎_elim (λ c. c) (λ b. let low = b.0 in let high = b.1 in let from = found.holds.0 in found.inside z (omega (arith, ints, from, e, low), omega (arith, ints, high, f, h))),
  );
}

-- the search found none, and p has no other number
pub nothing_to_remove : (o : Option (ℤ × ℤ)) (L : List (ℤ × ℤ)) (p : ℤ × ℤ) (v : ℤ) → IsMaximal L → v ≡ p.0 → MatchOption o (¬ (Covers L v)) (IsRunWith v (Covers L)) → (o ≡ None) × (p.1 ≤ℤ p.0) →
    IsRunsOf L (Without (Covers L) (IsBetween p))
nothing_to_remove None L p v m e free (none, one) = record {
  maximal = m;
  members = λ z. (
    (λ c. (c, λ b. let low = b.0 in let high = b.1 in free (subst (Covers L) (omega (arith, ints, low, high, one, e)) c))),
    (λ s. s.0),
  );
}
nothing_to_remove (Some run) L p v m e found (none, one) = absurd (cc)

-- Intervals that are looked at in turn: those so far are a list of runs, and end where the last one does.
use Rattle.std.proofs.Common.{◌≡◌, ⊎_elim, ℕ, suc, ◌+◌, ◌-◌, ◌<◌, ◌≤◌, ℤ, pos, ◌+ℤ◌, ◌≤ℤ◌, ◌<ℤ◌, List, [], ◌∷◌, ◌++◌, take, length, get_or, take_all, refl, ap, sym, subst, ◌∙◌, arith}
use Rattle.std.proofs.lemmas.Int.{ints, by_lt_z}
use Rattle.std.proofs.lemmas.List.{get_or_read, take_more}
use Rattle.ivl_laws.specs.Sets.{IsBetween, IsSubset}
use Rattle.ivl_laws.specs.Runs.{AddsRun, Covers, IsMaximal, IsRunListIn}
use Rattle.ivl_laws.proofs.Adding.{adds_to_none}
use Rattle.ivl_laws.proofs.Intervals.{within_is_in_range}
use Rattle.ivl_laws.proofs.Places.{open_at, runs_ascend}
use Rattle.ivl_laws.proofs.Ranges.{first_is_least, last_is_greatest}
use Rattle.ivl_laws.proofs.Runs.{≤ℤ_trans}
use Rattle.ivl_walks.proofs.MergeState.{adds_above}

pub record AreRunsTo (p whole : ℤ × ℤ) (L : List (ℤ × ℤ)) : Type 0 where
  pub list : IsRunListIn whole L
  pub filled : p.0 ≤ℤ p.1
  pub ends : (z : ℤ) → Covers L z → z ≤ℤ p.1

runs_to : (q whole : ℤ × ℤ) (L M : List (ℤ × ℤ)) → AddsRun L q M → IsSubset (Covers L) (IsBetween whole) → ((z : ℤ) → Covers L z → z ≤ℤ q.1) → q.0 ≤ℤ q.1
    → IsSubset (IsBetween q) (IsBetween whole) → AreRunsTo q whole M
runs_to q whole L M a inside ends o w = record {
  list = record { maximal = a.runs.maximal; within = λ z c. ⊎_elim (inside z) (w z) ((a.runs.members z).0 c) };
  filled = o;
  ends = λ z c. ⊎_elim (ends z) (λ b. b.1) ((a.runs.members z).0 c);
}

one_run_more : (p q whole : ℤ × ℤ) (L : List (ℤ × ℤ)) → AreRunsTo p whole L → q.0 ≤ℤ q.1 → ¬ (q.0 ≤ℤ (p.1 +ℤ pos 1)) → IsSubset (IsBetween q) (IsBetween whole)
    → AreRunsTo q whole (L ++ q ∷ [])
one_run_more p q whole L r o apart w =
    let below : (p.1 +ℤ pos 1) <ℤ q.0 = by_lt_z (p.1 +ℤ pos 1) q.0 (λ l. l) (λ k. absurd (apart k)) in
    runs_to q whole L _
    (adds_above L q r.list.maximal o (λ x y c b. let e = r.ends x c in let s = b.0 in omega (arith, ints, e, s, below)))
    r.list.within (λ z c. let e = r.ends z c in omega (arith, ints, e, below, o)) o w

-- How far a loop over the runs after the first has come.
pub record IsReadTo (p whole : ℤ × ℤ) (list rest : List (ℤ × ℤ)) (k : ℕ) : Type 0 where
  pub first : ℤ × ℤ
  pub is : list ≡ first ∷ rest
  pub runs : AreRunsTo p whole (first ∷ take k rest)
  pub here : p ≡ get_or (first ∷ rest) k p

pub first_is_read : (p whole : ℤ × ℤ) (list rest : List (ℤ × ℤ)) → list ≡ p ∷ rest → p.0 ≤ℤ p.1 → IsSubset (IsBetween p) (IsBetween whole) → IsReadTo p whole list rest 0
first_is_read p whole list rest e o w = record {
  first = p;
  is = e;
  runs = runs_to p whole [] _ (adds_to_none [] p refl o) (λ z n. absurd n) (λ z n. absurd n) o w;
  here = refl;
}

pub next_is_read : (p q whole : ℤ × ℤ) (list rest : List (ℤ × ℤ)) (k : ℕ) → IsReadTo p whole list rest k → k < length rest → q ≡ get_or rest k q → q.0 ≤ℤ q.1
    → ¬ (q.0 ≤ℤ (p.1 +ℤ pos 1)) → IsSubset (IsBetween q) (IsBetween whole) → IsReadTo q whole list rest (k + 1)
next_is_read p q whole list rest k r h e o apart w = record {
  first = r.first;
  is = r.is;
  runs = rw (take_more rest k q h ∙ ap (λ y. take k rest ++ y ∷ []) (sym e)) (one_run_more p q whole (r.first ∷ take k rest) r.runs o apart w);
  here = let next : suc k ≡ k + 1 = omega arith in e ∙ ap (λ n. get_or (r.first ∷ rest) n q) next;
}

-- what is asked of the next interval is so in a list of runs
pub next_is_apart : (p q whole : ℤ × ℤ) (list rest : List (ℤ × ℤ)) (k : ℕ) → IsReadTo p whole list rest k → k < length rest → q ≡ get_or rest k q → IsMaximal list
    → (q.0 ≤ℤ q.1) × ((p.1 +ℤ pos 2) ≤ℤ q.0)
next_is_apart p q whole list rest k r h e m =
    let L = r.first ∷ rest in
    let all : IsMaximal L = subst IsMaximal r.is m in
    let last : p ≡ get_or L k q = get_or_read L k p (omega (arith, h)) r.here q in (
      subst (λ (x : ℤ × ℤ). x.0 ≤ℤ x.1) (sym e) (open_at L (suc k) q all (omega (arith, h))),
      subst (λ (x : ℤ × ℤ). (p.1 +ℤ pos 2) ≤ℤ x.0) (sym e)
          (subst (λ (x : ℤ × ℤ). (x.1 +ℤ pos 2) ≤ℤ (get_or rest k q).0) (sym last) (runs_ascend L k (suc k) q all (omega arith) (omega (arith, h)))),
    )

pub all_are_read : (p whole : ℤ × ℤ) (list rest : List (ℤ × ℤ)) (k : ℕ) → IsReadTo p whole list rest k → length rest ≤ k → IsRunListIn whole list
all_are_read p whole list rest k r h = rw (r.is ∙ ap (λ l. r.first ∷ l) (sym (take_all k rest h))) r.runs.list

-- runs are in the range where the first one and the last one are
pub in_range_by_ends : (whole p q : ℤ × ℤ) (L : List (ℤ × ℤ)) → IsMaximal L → 0 < length L → p ≡ get_or L 0 p → q ≡ get_or L (length L - 1) q
    → IsSubset (IsBetween p) (IsBetween whole) → IsSubset (IsBetween q) (IsBetween whole) → IsRunListIn whole L
in_range_by_ends whole p q L m some first last low high =
    let least = first_is_least L p m some in
    let greatest = last_is_greatest L (length L - 1) q m (omega (arith, some)) in
    let from = within_is_in_range whole p (subst (λ (x : ℤ × ℤ). x.0 ≤ℤ x.1) (sym first) (open_at L 0 p m some)) low in
    let to = within_is_in_range whole q (subst (λ (x : ℤ × ℤ). x.0 ≤ℤ x.1) (sym last) (open_at L (length L - 1) q m (omega (arith, some)))) high in
    record {
      maximal = m;
      within = λ z c. (
        ≤ℤ_trans whole.0 p.0 z from.0 (subst (λ (x : ℤ × ℤ). x.0 ≤ℤ z) (sym first) (least.1 z c)),
        ≤ℤ_trans z q.1 whole.1 (subst (λ (x : ℤ × ℤ). z ≤ℤ x.1) (sym last) (greatest.1 z c)) to.1,
      );
    }

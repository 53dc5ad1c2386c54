-- The least and the greatest member taken from a list of runs.
use Rattle.std.proofs.Common.{◌≡◌, ℕ, zero, suc, ◌+◌, ◌<◌, ℤ, ◌≤ℤ◌, List, [], ◌∷◌, length, get_or, refl, ap, sym, subst, ◌∙◌, arith, Option, None}
use Rattle.std.proofs.lemmas.Int.{ints}
use Rattle.std.specs.Prelude.{slice_get, IsSomeAnd}
use Rattle.ivl_laws.specs.Sets.{Above, Below, HasSome, IsBetween, Only, Without}
use Rattle.ivl_laws.specs.Runs.{Covers, IsMaximal, IsRunsOf}
use Rattle.ivl_laws.proofs.Places.{open_at}
use Rattle.ivl_laws.proofs.Ranges.{IsRunsOf-none, first_is_least, last_is_greatest, some_is_filled}
use Rattle.ivl_laws.proofs.Runs.{≤ℤ_antisymm}
use Rattle.ivl_laws.proofs.SetLaws.{IsRunsOf-same}
use lib.Signed.{≤ℤ_refl}
use Rattle.ivl_places.specs.Edits.{IsSpan, replaced}
use Rattle.ivl_walks.specs.HeldRun.{led_by}
use Rattle.ivl_places.proofs.Splicing.{left_without}
use Rattle.ivl_places.proofs.Windows.{split_by_run}

run_at : (L : List (ℤ × ℤ)) (i : ℕ) (d : ℤ × ℤ) (v : ℤ) → i < length L → IsBetween (get_or L i d) v → IsSomeAnd (slice_get L i) (λ run. IsBetween run v)
run_at [] i d v h b = absurd (omega arith)
run_at (p ∷ L) zero d v h b = b
run_at (p ∷ L) (suc i) d v h b = run_at L i d v (omega arith) b

span_of_run : (L : List (ℤ × ℤ)) (i : ℕ) (d : ℤ × ℤ) (v : ℤ) → IsMaximal L → i < length L → IsBetween (get_or L i d) v → IsSpan L v v i (i + 1)
span_of_run L i d v m h b =
    let s = split_by_run L i v m (run_at L i d v h b) in record {
      in_order = omega arith;
      at_most = s.at_most;
      below = s.below;
      ends = s.rest;
      starts = s.starts;
      above = s.above;
    }

without_only : (S : ℤ → Type 0) (L : List (ℤ × ℤ)) (v : ℤ) → IsRunsOf L (Without S (IsBetween (v, v))) → IsRunsOf L (Without S (Only v))
without_only S L v = IsRunsOf-same (Without S (IsBetween (v, v))) (Without S (Only v)) L (λ z. (
  (λ (s, n). (s, λ e. n (omega (arith, ints, e), omega (arith, ints, e)))),
  (λ (s, n). (s, λ b. n (≤ℤ_antisymm z v b.1 b.0))),
))

-- the run at place i without its least number, which is v
pub without_start : (L : List (ℤ × ℤ)) (i : ℕ) (d : ℤ × ℤ) (v : ℤ) (o : Option (ℤ × ℤ)) → IsMaximal L → i < length L → v ≡ (get_or L i d).0 →
    IsRunsOf (led_by o []) (Above v (IsBetween (get_or L i d))) → IsRunsOf (replaced L i (i + 1) o None) (Without (Covers L) (Only v))
without_start L i d v o m h e r =
    let q = open_at L i d m h in
    without_only (Covers L) (replaced L i (i + 1) o None) v
    (left_without L (v, v) i (i + 1) i d d None o m (≤ℤ_refl v) (span_of_run L i d v m h (omega (arith, ints, e), omega (arith, ints, e, q))) (omega arith) refl
    (IsRunsOf-none (Below v (IsBetween (get_or L i d))) (λ z b. let low = b.0.0 in let lt = b.1 in omega (arith, ints, low, lt, e))) r)

-- the run at place i without its greatest number, which is v
pub without_end : (L : List (ℤ × ℤ)) (i : ℕ) (d : ℤ × ℤ) (v : ℤ) (o : Option (ℤ × ℤ)) → IsMaximal L → i < length L → v ≡ (get_or L i d).1 →
    IsRunsOf (led_by o []) (Below v (IsBetween (get_or L i d))) → IsRunsOf (replaced L i (i + 1) o None) (Without (Covers L) (Only v))
without_end L i d v o m h e r =
    let q = open_at L i d m h in
    without_only (Covers L) (replaced L i (i + 1) o None) v
    (left_without L (v, v) i (i + 1) i d d o None m (≤ℤ_refl v) (span_of_run L i d v m h (omega (arith, ints, e, q), omega (arith, ints, e))) (omega arith) refl
    r (IsRunsOf-none (Above v (IsBetween (get_or L i d))) (λ z b. let high = b.0.1 in let lt = b.1 in omega (arith, ints, high, lt, e))))

-- K is the list L as it was read, and d its first or its last run
pub without_least : (K L : List (ℤ × ℤ)) (d : ℤ × ℤ) (v : ℤ) (o : Option (ℤ × ℤ)) → K ≡ L → IsMaximal L → 0 < length K → d ≡ get_or K 0 d → Covers L v → ((z : ℤ) → Covers L z → v ≤ℤ z) →
    IsRunsOf (led_by o []) (Above v (IsBetween d)) → IsRunsOf (replaced L 0 1 o None) (Without (Covers L) (Only v))
without_least K L d v o same m h is c least r =
    let less : 0 < length L = subst (λ (N : List (ℤ × ℤ)). 0 < length N) same h in
    let at : d ≡ get_or L 0 d = subst (λ (N : List (ℤ × ℤ)). d ≡ get_or N 0 d) same is in
    let first = first_is_least L d m less in
    without_start L 0 d v o m less (≤ℤ_antisymm v (get_or L 0 d).0 (least (get_or L 0 d).0 first.0) (first.1 v c))
    (subst (λ (p : ℤ × ℤ). IsRunsOf (led_by o []) (Above v (IsBetween p))) at r)

pub without_greatest : (K L : List (ℤ × ℤ)) (i j : ℕ) (d : ℤ × ℤ) (v : ℤ) (o : Option (ℤ × ℤ)) → K ≡ L → IsMaximal L → i + 1 ≡ length K → j ≡ i + 1 → d ≡ get_or K i d → Covers L v → ((z : ℤ) → Covers L z → z ≤ℤ v) →
    IsRunsOf (led_by o []) (Below v (IsBetween d)) → IsRunsOf (replaced L i j o None) (Without (Covers L) (Only v))
without_greatest K L i j d v o same m h e is c greatest r =
    let last : i + 1 ≡ length L = subst (λ (N : List (ℤ × ℤ)). i + 1 ≡ length N) same h in
    let at : d ≡ get_or L i d = subst (λ (N : List (ℤ × ℤ)). d ≡ get_or N i d) same is in
    let most = last_is_greatest L i d m last in
    subst (λ (k : ℕ). IsRunsOf (replaced L i k o None) (Without (Covers L) (Only v))) (sym e)
    (without_end L i d v o m (omega (arith, last)) (≤ℤ_antisymm v (get_or L i d).1 (most.1 v c) (greatest (get_or L i d).1 most.0))
    (subst (λ (p : ℤ × ℤ). IsRunsOf (led_by o []) (Below v (IsBetween p))) at r))

pub some_member : (K L : List (ℤ × ℤ)) → K ≡ L → IsMaximal L → 0 < length K → HasSome (Covers L)
some_member K L same m h = some_is_filled L m (λ e. let n : length K ≡ 0 = ap length (same ∙ e) in absurd (omega (arith, n, h)))

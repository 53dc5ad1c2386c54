-- The lowest of the longest runs of a set, among its runs as they are listed.
use Rattle.std.proofs.Common.{◌≡◌, ⊎_elim, inl, inr, ◌<◌, ◌≤◌, ℕ, ℤ, ◌≤ℤ◌, ◌<ℤ◌, List, [], ◌∷◌, Some, None, refl, sym, ap, arith}
use Rattle.std.specs.Prelude.{All, IfSome, MatchOption, Option}
use Rattle.std.proofs.lemmas.Int.{ints}
use Rattle.std.proofs.lemmas.List.Elements.{All-cons, All-nil}
use Rattle.ivl_laws.specs.Bounds.{width_of}
use Rattle.ivl_laws.specs.Counts.{IsIn}
use Rattle.ivl_laws.specs.Runs.{Covers, IsMaximal}
use Rattle.ivl_laws.proofs.Intervals.{width_of-filled}
use Rattle.ivl_laws.proofs.Products.{one_covers, open_in}
use Rattle.ivl_places.specs.FirstFit.{FitsAt, IsFirstFit}
use Rattle.ivl_places.specs.Neighbours.{IsRunWith}
use Rattle.ivl_places.proofs.Fits.{run_is_listed}
use Rattle.ivl_paged.specs.Longests.{NoneLonger}
use Rattle.ivl_paged.proofs.Fitting.{fewer_fit}
use Rattle.ivl_paged.proofs.Paging.{order_of, parts_apart}
use Rattle.ivl_blocks.specs.Answering.{IsLongestRun}

all_listed : (F : (ℤ × ℤ) → Type 0) (L : List (ℤ × ℤ)) → ((q : ℤ × ℤ) → IsIn L q → F q) → All F L
all_listed F [] h = All-nil F
all_listed F (q ∷ L) h = All-cons F q L (h q (inl refl)) (all_listed F L (λ r i. h r (inr i)))

-- no run is longer, and those that start lower are shorter
first_in_list : (L : List (ℤ × ℤ)) (p : ℤ × ℤ) → IsMaximal L → IsIn L p → ((q : ℤ × ℤ) → IsIn L q → width_of q ≤ width_of p) → ((q : ℤ × ℤ) → IsIn L q → q.0 <ℤ p.0 → width_of q < width_of p) → IsLongestRun L p
first_in_list [] p m i most low = absurd i
first_in_list (q ∷ L) p m (inl e) most low = record {
  before = [];
  after = L;
  parts = ap (λ r. r ∷ L) (sym e);
  shorter = All-nil (λ r. width_of r < width_of p);
  not_longer = all_listed (λ r. width_of r ≤ width_of p) L (λ r i. most r (inr i));
}
first_in_list (q ∷ L) p m (inr i) most low =
    let rest = first_in_list L p m.2 i (λ r j. most r (inr j)) (λ r j. low r (inr j)) in
    let far = parts_apart (q ∷ []) L q.0 p.0 m (inl (omega (arith, ints), m.0)) (one_covers L p p.0 i (omega (arith, ints), open_in L p m.2 i)) in
    record {
      before = q ∷ rest.before;
      after = rest.after;
      parts = ap (λ (K : List (ℤ × ℤ)). q ∷ K) rest.parts;
      shorter = All-cons (λ r. width_of r < width_of p) q rest.before (low q (inl refl) (omega (arith, ints, far))) rest.shorter;
      not_longer = rest.not_longer;
    }

listed_fits : (L : List (ℤ × ℤ)) (q : ℤ × ℤ) → IsMaximal L → IsIn L q → FitsAt (width_of q) (Covers L) q.0
listed_fits L q m i z b = let width = width_of-filled q (open_in L q m i) in one_covers L q z i (b.0, omega (arith, ints, b.1, width))

longest_is_listed : (L : List (ℤ × ℤ)) (p : ℤ × ℤ) → IsMaximal L → IsRunWith p.0 (Covers L) p → NoneLonger (width_of p) (Covers L) → IsFirstFit (width_of p) (Covers L) p → IsLongestRun L p
longest_is_listed L p m run most first = first_in_list L p m (run_is_listed L p.0 p m run)
    (λ q i. most (width_of q) q.0 (listed_fits L q m i))
    (λ q i lower. ⊎_elim
    (λ less. less)
    (λ le. let low = first.lowest q.0 (fewer_fit (width_of p) (width_of q) (Covers L) q.0 le (listed_fits L q m i)) in absurd (omega (arith, ints, low, lower)))
    (order_of (width_of q) (width_of p)))

pub longest_in_list : (L : List (ℤ × ℤ)) (o : Option (ℤ × ℤ)) → IsMaximal L → MatchOption o (L ≡ []) (λ p. IsRunWith p.0 (Covers L) p) → IfSome o (λ p. NoneLonger (width_of p) (Covers L)) →
    IfSome o (λ p. IsFirstFit (width_of p) (Covers L) p) → MatchOption o (L ≡ []) (IsLongestRun L)
longest_in_list L None m run most first = run
longest_in_list L (Some p) m run most first = longest_is_listed L p m run most first

pub longest_is_filled : (L : List (ℤ × ℤ)) (o : Option (ℤ × ℤ)) → MatchOption o (L ≡ []) (λ p. IsRunWith p.0 (Covers L) p) → IfSome o (λ p. p.0 ≤ℤ p.1)
longest_is_filled L None run = tt
longest_is_filled L (Some p) run = run.holds.1

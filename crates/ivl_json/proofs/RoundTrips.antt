-- What is written reads back.
use Rattle.std.proofs.Common.{inl, ◌≡◌, Bool, true, false, ℕ, suc, ℤ, pos, negsuc, ◌≤ℤ◌, ◌<ℤ◌, List, [], ◌∷◌, map, refl, arith}
use Rattle.std.proofs.lemmas.Int.{ints}
use Rattle.std.specs.Prelude.{int_le, int_lt, Some, Ok}
use Rattle.serde_json.specs.Find.{as_integer, of_integer}
use Rattle.serde_json.specs.View.{items_of}
use Rattle.ivl_laws.specs.Sets.{IsBetween, IsInRange, IsSubset}
use Rattle.ivl_laws.specs.Runs.{Covers, IsRunListIn, IsRunsOf}
use Rattle.ivl_laws.proofs.Intervals.{within_is_in_range, crossed_same}
use Rattle.ivl_laws.proofs.Ranges.{IsRunListIn-rest, IsRunListIn-runs}
use Rattle.ivl_json.specs.Reading.{within, bound_read, interval_read, Reads}
use Rattle.ivl_json.specs.SetReading.{items_read, set_read, SetReads}
use Rattle.ivl_json.specs.Writing.{bound_json, interval_json, set_json}

within-between : (whole : ℤ × ℤ) (z : ℤ) → IsBetween whole z → within whole (Some z) ≡ Ok z
within-between whole z (low, high) =
    let above : int_le whole.0 z ≡ true = grind (arith, ints) in
    let below : int_le z whole.1 ≡ true = grind (arith, ints) in
    rw (above, below)

as_integer-of_integer : (z : ℤ) → as_integer (of_integer z) ≡ Some z
as_integer-of_integer (pos n) = refl
as_integer-of_integer (negsuc n) = refl

pub bound_read-bound_json : (whole : ℤ × ℤ) (z : ℤ) → IsBetween whole z → bound_read whole (bound_json z) ≡ Ok z
bound_read-bound_json whole z h = rw (as_integer-of_integer z) (within-between whole z h)

-- an interval whose bounds are in the range and do not cross
pub interval_read-filled : (whole p : ℤ × ℤ) → p.0 ≤ℤ p.1 → IsInRange whole p → interval_read whole (interval_json p) ≡ Ok p
interval_read-filled whole p o h =
    let filled : int_lt p.1 p.0 ≡ false = grind (arith, ints) in
    let lower : IsBetween whole p.0 = (h.0, omega (arith, ints, o, h.1)) in
    let upper : IsBetween whole p.1 = (omega (arith, ints, o, h.0), h.1) in
    rw (filled, bound_read-bound_json whole p.0 lower, bound_read-bound_json whole p.1 upper)

pub interval_read-crossed : (whole p : ℤ × ℤ) → p.1 <ℤ p.0 → interval_read whole (interval_json p) ≡ Ok (pos 1, pos 0)
interval_read-crossed whole p c =
    let crossed : int_lt p.1 p.0 ≡ true = grind (arith, ints) in
    rw crossed

reads_back_by : (whole p : ℤ × ℤ) (crossed : Bool) → int_lt p.1 p.0 ≡ crossed → IsSubset (IsBetween p) (IsBetween whole) → Reads whole (interval_json p) (IsBetween p)
reads_back_by whole p false e h =
    let filled : p.0 ≤ℤ p.1 = grind (arith, ints) in
    (p, interval_read-filled whole p filled (within_is_in_range whole p filled h), λ z. ((λ b. b), (λ b. b)))
reads_back_by whole p true e h =
    let crossed : p.1 <ℤ p.0 = grind (arith, ints) in
    ((pos 1, pos 0), interval_read-crossed whole p crossed, crossed_same (pos 1, pos 0) p (omega (arith, ints)) crossed)

-- an interval of the range, also one with no member
pub reads_back : (whole p : ℤ × ℤ) → IsSubset (IsBetween p) (IsBetween whole) → Reads whole (interval_json p) (IsBetween p)
reads_back whole p h = reads_back_by whole p (int_lt p.1 p.0) refl h

items_read-runs : (whole : ℤ × ℤ) (i : ℕ) (L : List (ℤ × ℤ)) → IsRunListIn whole L → items_read whole i (items_of (map interval_json L)) ≡ Ok L
items_read-runs whole i [] r = refl
items_read-runs whole i (p ∷ L) r =
    let first = interval_read-filled whole p r.maximal.0 (within_is_in_range whole p r.maximal.0 (λ z b. r.within z (inl b))) in
    let rest = items_read-runs whole (suc i) L (IsRunListIn-rest whole p L r) in
    rw (first, rest)

pub set_read-set_json : (whole : ℤ × ℤ) (L : List (ℤ × ℤ)) → IsRunListIn whole L → set_read whole (set_json L) ≡ Ok L
set_read-set_json whole [] r = refl
set_read-set_json whole (p ∷ L) r = items_read-runs whole 0 (p ∷ L) r

pub set_reads_back : (whole : ℤ × ℤ) (L : List (ℤ × ℤ)) → IsRunListIn whole L → SetReads whole (set_json L) (Covers L)
set_reads_back whole L r = (L, set_read-set_json whole L r, λ z. ((λ c. c), (λ c. c)))

pub set_of_runs_reads_back : (S : ℤ → Type 0) (whole : ℤ × ℤ) (L : List (ℤ × ℤ)) → IsRunsOf L S → IsSubset S (IsBetween whole) → SetReads whole (set_json L) S
set_of_runs_reads_back S whole L r h = (L, set_read-set_json whole L (IsRunListIn-runs whole L S r h), r.members)

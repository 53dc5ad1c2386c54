use Rattle.std.proofs.Common.{◌≡◌, ℕ, ◌+◌, ◌-◌, ◌^◌, ◌<◌, ◌≤◌, length, take}
use Rattle.ivl_laws.specs.Runs.{IsMaximal}
use Rattle.ivl_places.specs.Places.{EndBelow}
use Rattle.ivl_places.proofs.Searching.{IsFrom}
use Rattle.intervallum.proofs.steps.search.find_between.Given as goal

abbrev pub invariant-search : goal.invariant-search
invariant-search g l =
    let runs = l.fn.probes.runs in
    let v = g.B.Width.value l.fn.v in
    (l.low + l.left ≤ l.fn.high) × (l.fn.high ≤ length runs) × (l.probes.runs ≡ runs) × IsMaximal runs × EndBelow v (take l.low runs) × IsFrom v runs (l.low + l.left) l.is_in
    × ((digits : ℕ) → l.fn.high - l.fn.low < 2 ^ digits → (rest : ℕ) × (l.probes.looks + rest ≡ l.fn.probes.looks + digits) × (l.left < 2 ^ rest))
    × (l.fn.low ≤ l.low)

abbrev pub decreases-search : goal.decreases-search
decreases-search g l = l.left

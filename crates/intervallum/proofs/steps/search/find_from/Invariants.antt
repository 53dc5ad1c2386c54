use Rattle.std.proofs.Common.{◌≡◌, ℕ, ◌+◌, ◌-◌, ◌^◌, ◌≤◌, length, take}
use Rattle.ivl_laws.specs.Runs.{IsMaximal}
use Rattle.ivl_places.specs.Places.{EndBelow}
use Rattle.intervallum.proofs.steps.search.find_from.Given as goal

-- after k looks it is one less than 2 ^ k runs on
abbrev pub invariant-search : goal.invariant-search
invariant-search g l =
    let runs = l.fn.probes.runs in
    (l.from ≤ l.low) × (l.low ≤ length runs) × (l.probes.runs ≡ runs) × IsMaximal runs × EndBelow (g.B.Width.value l.v) (take l.low runs)
    × ((k : ℕ) × (l.low - l.from + 1 ≡ 2 ^ k) × (l.probes.looks ≡ l.fn.probes.looks + k))

abbrev pub decreases-search : goal.decreases-search
decreases-search g l = l.count - l.low

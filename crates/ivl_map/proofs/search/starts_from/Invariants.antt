use Rattle.std.proofs.Common.{◌-◌, ◌≤◌, length, take}
use Rattle.ivl_map.specs.Entries.{AllStartBy}
use Rattle.ivl_map.proofs.search.starts_from.Given as goal

abbrev pub invariant-search : goal.invariant-search
invariant-search g l =
    (l.from ≤ l.low) × (l.low ≤ length l.entries) × AllStartBy (g.B.Width.value l.value) (take l.low l.entries)

abbrev pub decreases-search : goal.decreases-search
decreases-search g l = l.count - l.low

use Rattle.std.proofs.Common.{◌+◌, ◌≤◌, length, take, drop}
use Rattle.ivl_map.specs.Entries.{AllStartBy, FirstStartsAbove}
use Rattle.ivl_map.proofs.search.starts_between.Given as goal

abbrev pub invariant-search : goal.invariant-search
invariant-search g l =
    (l.low + l.left ≤ length l.entries) × AllStartBy (g.B.Width.value l.value) (take l.low l.entries) × FirstStartsAbove (g.B.Width.value l.value) (drop (l.low + l.left) l.entries) × (l.fn.low ≤ l.low)

abbrev pub decreases-search : goal.decreases-search
decreases-search g l = l.left

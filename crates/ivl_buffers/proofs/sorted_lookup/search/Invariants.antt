use Rattle.std.proofs.Common.{◌+◌, ◌≤◌, length, map, take}
use Rattle.ivl_places.specs.Places.{EndBelow}
use Rattle.ivl_buffers.specs.Lists.{IsInOrder}
use Rattle.ivl_buffers.proofs.InOrder.{IsPast, IsSeen}
use Rattle.ivl_buffers.proofs.sorted_lookup.search.Given as goal

abbrev pub invariant-search : goal.invariant-search
invariant-search g l = record {
  at_most : l.low + l.left ≤ length l.runs;
  past : IsPast g.R.Pair.pair (g.R.Bound.Width.value l.v) l.runs l.low;
  seen : IsSeen g.R.Pair.pair (g.R.Bound.Width.value l.v) l.runs (l.low + l.left) l.is_in;
  below : IsInOrder (map g.R.Pair.pair l.runs) → EndBelow (g.R.Bound.Width.value l.v) (take l.low (map g.R.Pair.pair l.runs));
}

abbrev pub decreases-search : goal.decreases-search
decreases-search g l = l.left

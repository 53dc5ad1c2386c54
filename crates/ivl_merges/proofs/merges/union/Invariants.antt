use Rattle.std.proofs.Common.{◌≡◌, ◌+◌, ◌-◌, ◌<◌, ◌≤◌, ℤ, List, drop, length, map}
use Rattle.ivl_walks.specs.Sinks.{IsRunIn}
use Rattle.ivl_walks.proofs.UnionSteps.{IsUnited, union_of}
use Rattle.ivl_merges.proofs.merges.union.Given as goal

-- what is written and the runs from the two places on make up the answer
abbrev pub invariant-walk : goal.invariant-walk
invariant-walk g l = record {
  first : l.i ≤ length l.a;
  second : l.j ≤ length l.b;
  some : 0 < g.S.Sink.count l.out;
  count : g.S.Sink.count l.out ≤ g.S.Sink.count l.fn.out + (l.i + l.j);
  room : g.S.Sink.room l.out ≡ g.S.Sink.room l.fn.out;
  last : IsRunIn g.R.Bound.Width.whole (g.R.Pair.pair l.last);
  state : (W : List (ℤ × ℤ)) × IsUnited (map g.R.Pair.pair (drop l.i l.a)) (map g.R.Pair.pair (drop l.j l.b)) (union_of g.R.Pair.pair l.a l.b) (g.S.Sink.holds l.fn.out l.out) (g.R.Pair.pair l.last) W;
}

abbrev pub decreases-walk : goal.decreases-walk
decreases-walk g l = (length l.a + length l.b) - (l.i + l.j)

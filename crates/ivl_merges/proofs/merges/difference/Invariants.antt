use Rattle.std.proofs.Common.{◌≡◌, ◌+◌, ◌-◌, ◌<◌, ◌≤◌, [], Some, None, drop, length, map}
use Rattle.ivl_laws.specs.Runs.{IsRunListIn}
use Rattle.ivl_walks.proofs.DifferenceSteps.{IsParting, held_from}
use Rattle.ivl_merges.proofs.merges.difference.Given as goal

-- what is written, and what the second list leaves of the first from the held pair on, make up the answer
abbrev pub invariant-walk : goal.invariant-walk
invariant-walk g l = record {
  place : (x : _) → l.held ≡ Some x → l.i < length l.a;
  ended : l.held ≡ None → map g.R.Pair.pair (drop (l.i + 1) l.a) ≡ [];
  first : l.i ≤ length l.a;
  second : l.j ≤ length l.b;
  count : g.S.Sink.count l.out ≤ g.S.Sink.count l.fn.out + (l.i + l.j);
  room : g.S.Sink.room l.out ≡ g.S.Sink.room l.fn.out;
  list : IsRunListIn g.R.Bound.Width.whole (held_from g.R.Pair.pair l.a l.b l.held l.i);
  state : IsParting g.R.Pair.pair l.a l.b l.held l.i l.j (g.S.Sink.holds l.fn.out l.out);
}

abbrev pub decreases-walk : goal.decreases-walk
decreases-walk g l = (length l.a - l.i) + (length l.b - l.j)

use Rattle.std.proofs.Common.{◌≡◌, ◌+◌, ◌≤◌, ℤ, List, drop, length, map}
use Rattle.ivl_laws.specs.Sets.{Complement}
use Rattle.ivl_laws.specs.Runs.{Covers, IsRunListIn}
use Rattle.ivl_walks.proofs.ComplementSteps.{IsLeaving}
use Rattle.ivl_merges.proofs.merges.complement.Given as goal

-- what is written, and what the runs that are not seen yet leave of the numbers above the end, make up the complement
abbrev pub invariant-loop-run : goal.invariant-loop-run
invariant-loop-run g l = record {
  index : l.run-index ≤ length l.more;
  count : g.S.Sink.count l.out ≤ g.S.Sink.count l.fn.out + (l.run-index + 1);
  room : g.S.Sink.room l.out ≡ g.S.Sink.room l.fn.out;
  list : IsRunListIn g.R.Bound.Width.whole (map g.R.Pair.pair l.more);
  state : (W : List (ℤ × ℤ)) × IsLeaving g.R.Bound.Width.whole (g.R.Bound.Width.value l.end) (map g.R.Pair.pair (drop l.run-index l.more)) (Complement g.R.Bound.Width.whole (Covers (map g.R.Pair.pair l.fn.runs)))
      (g.S.Sink.holds l.fn.out l.out) W;
}

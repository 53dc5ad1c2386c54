use Rattle.std.proofs.Common.{◌-◌, ◌+◌, ◌≡◌, ◌≤◌, ℤ, ◌≤ℤ◌, List, drop, length, map}
use Rattle.ivl_laws.specs.Sets.{SymmetricDifference}
use Rattle.ivl_laws.specs.Runs.{Covers}
use Rattle.ivl_walks.proofs.OneAlone.{IsOneAlone}
use Rattle.ivl_merges.proofs.merges.symmetric_difference.Given as goal

-- what is written, and what exactly one of the two lists has from `from` on, make up the answer
abbrev pub invariant-walk : goal.invariant-walk
invariant-walk g l = record {
  first : l.i ≤ length l.fn.a;
  second : l.j ≤ length l.fn.b;
  count : l.count ≤ l.i + l.j;
  low : g.R.Bound.Width.whole.0 ≤ℤ g.R.Bound.Width.value l.start;
  room : g.S.Sink.room l.out ≡ g.S.Sink.room l.fn.out;
  state : (W : List (ℤ × ℤ)) × IsOneAlone (drop l.i (map g.R.Pair.pair l.fn.a)) (drop l.j (map g.R.Pair.pair l.fn.b)) (g.R.Bound.Width.value l.from) (g.R.Bound.Width.value l.start) l.is_joined
      (SymmetricDifference (Covers (map g.R.Pair.pair l.fn.a)) (Covers (map g.R.Pair.pair l.fn.b))) (g.S.Sink.begins l.fn.out l.out) l.count W;
}

abbrev pub decreases-walk : goal.decreases-walk
decreases-walk g l = (length l.fn.a - l.i) + (length l.fn.b - l.j)

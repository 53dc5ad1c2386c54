use Rattle.std.proofs.Common.{◌≡◌, ◌+◌, ◌≤◌, ◌++◌, ℤ, List, length, map, take}
use Rattle.ivl_merges.proofs.merges.append.Given as goal

-- the runs so far stand after those that were there
abbrev pub invariant-loop-run : goal.invariant-loop-run
invariant-loop-run g l = record {
  index : l.run-index ≤ length l.runs;
  count : g.S.Sink.count l.out ≤ g.S.Sink.count l.fn.out + l.run-index;
  room : g.S.Sink.room l.out ≡ g.S.Sink.room l.fn.out;
  held : (start : _) (L : List (ℤ × ℤ)) → g.S.Sink.holds start l.fn.out L → g.S.Sink.holds start l.out (L ++ map g.R.Pair.pair (take l.run-index l.runs));
}

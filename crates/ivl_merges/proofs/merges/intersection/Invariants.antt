use Rattle.std.proofs.Common.{◌≡◌, ◌+◌, ◌-◌, ◌≤◌, ℤ, List, length}
use Rattle.std.specs.Prelude.{slice_get}
use Rattle.std.specs.Option.{option_zip}
use Rattle.ivl_walks.proofs.Laying.{IsLaying}
use Rattle.ivl_walks.proofs.IntersectionSteps.{common_from, common_of}
use Rattle.ivl_merges.proofs.merges.intersection.Given as goal

-- what is written, and what the two lists have in common from the two places on, make up the answer
abbrev pub invariant-walk : goal.invariant-walk
invariant-walk g l = record {
  first : l.i ≤ length l.a;
  second : l.j ≤ length l.b;
  heads : l.heads ≡ option_zip (slice_get l.a l.i) (slice_get l.b l.j);
  repeats : g.S.Sink.repeats l.out;
  count : g.S.Sink.count l.out ≤ g.S.Sink.count l.fn.out + (l.i + l.j);
  room : g.S.Sink.room l.out ≡ g.S.Sink.room l.fn.out;
  state : (W : List (ℤ × ℤ)) × IsLaying (common_from g.R.Pair.pair l.a l.b l.i l.j) (common_of g.R.Pair.pair l.a l.b) (g.S.Sink.holds l.fn.out l.out) W;
}

abbrev pub decreases-walk : goal.decreases-walk
decreases-walk g l = (length l.a - l.i) + (length l.b - l.j)

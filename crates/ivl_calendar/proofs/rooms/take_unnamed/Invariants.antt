use Rattle.std.proofs.Common.{ℤ}
use Rattle.std.specs.Prelude.{MatchOption}
use Rattle.ivl_laws.specs.Runs.{Covers, IsRunsOf}
use Rattle.ivl_laws.specs.Sets.{AtLeast, HasNone}
use Rattle.ivl_calendar.specs.Rooms.{IsRunFrom}
use Rattle.ivl_calendar.proofs.Taking.{IsLeftFrom, width_left}
use Rattle.ivl_calendar.proofs.rooms.take_unnamed.Given as goal

-- no busy day before `from` is left, and the next run is the first that ends from there on
abbrev pub invariant-loop-next : goal.invariant-loop-next
invariant-loop-next l =
    (from : ℤ)
    × MatchOption l.next (HasNone (AtLeast from (Covers l.fn.busy))) (IsRunFrom from (Covers l.fn.busy))
    × IsRunsOf l.free (IsLeftFrom l.fn.free l.fn.busy from)

abbrev pub decreases-loop-next : goal.decreases-loop-next
decreases-loop-next l = width_left l.next l.fn.window

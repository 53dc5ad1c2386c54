use Rattle.std.proofs.Common.{length, map}
use Rattle.ivl_calendar.specs.Shown.{without_name}
use Rattle.ivl_calendar.proofs.Bookings.{LeavesShown}
use Rattle.ivl_calendar.proofs.Spans.{AreDays}
use Rattle.ivl_calendar.proofs.shown.list_unnamed.Given as goal

abbrev pub invariant-loop-days : goal.invariant-loop-days
invariant-loop-days g l =
    LeavesShown (map without_name l.unnamed) l.fn.is_first (g.W.Write.contents l.fn.writer) (map without_name l.left) l.is_first (g.W.Write.contents l.writer) × AreDays l.left

abbrev pub decreases-loop-days : goal.decreases-loop-days
decreases-loop-days g l = length l.left

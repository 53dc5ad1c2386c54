use Rattle.std.proofs.Common.{length, map, true}
use Rattle.std.specs.Prelude.{string_eq}
use Rattle.jiff.specs.Words.{IsEpochDay}
use Rattle.ivl_laws.specs.Sets.{IsSubset}
use Rattle.ivl_map.specs.Entries.{HasAt, HasValue, IsEntryList}
use Rattle.ivl_calendar.specs.Rooms.{named_of}
use Rattle.ivl_calendar.specs.Shown.{with_name}
use Rattle.ivl_calendar.proofs.Bookings.{LeavesShown}
use Rattle.ivl_calendar.proofs.shown.list_named.Given as goal

abbrev pub invariant-loop-booking : goal.invariant-loop-booking
invariant-loop-booking g l =
    LeavesShown (map with_name (named_of l.named)) true (g.W.Write.contents l.fn.writer) (map with_name (named_of l.left)) l.is_first (g.W.Write.contents l.writer)
    × IsEntryList string_eq l.left
    × IsSubset (HasValue (HasAt string_eq l.left)) IsEpochDay

abbrev pub decreases-loop-booking : goal.decreases-loop-booking
decreases-loop-booking g l = length l.left

use Rattle.std.proofs.Common.{length}
use Rattle.std.specs.Prelude.{string_eq}
use Rattle.jiff.specs.Words.{IsEpochDay}
use Rattle.ivl_laws.specs.Sets.{IsSubset}
use Rattle.ivl_map.specs.Entries.{HasAt, HasValue, IsEntryList}
use Rattle.ivl_calendar.specs.Rooms.{named_of}
use Rattle.ivl_calendar.proofs.Listing.{LeavesDays}
use Rattle.ivl_calendar.proofs.names.write_days_in.Given as goal

abbrev pub invariant-loop-booking : goal.invariant-loop-booking
invariant-loop-booking g l =
    LeavesDays l.who l.name (named_of l.bookings) l.fn.is_first (g.W.Write.contents l.fn.writer) (named_of l.left) l.is_first (g.W.Write.contents l.writer)
    × IsEntryList string_eq l.left
    × IsSubset (HasValue (HasAt string_eq l.left)) IsEpochDay

abbrev pub decreases-loop-booking : goal.decreases-loop-booking
decreases-loop-booking g l = length l.left

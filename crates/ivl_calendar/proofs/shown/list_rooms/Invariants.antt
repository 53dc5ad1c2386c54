use Rattle.std.proofs.Common.{map}
use Rattle.ivl_calendar.specs.Rooms.{rooms_of}
use Rattle.ivl_calendar.proofs.Bookings.{LeavesNames}
use Rattle.ivl_calendar.proofs.Listing.{seen_room}
use Rattle.ivl_calendar.proofs.shown.list_rooms.Given as goal

abbrev pub invariant-loop-name : goal.invariant-loop-name
invariant-loop-name g l = LeavesNames (rooms_of l.rooms) (g.W.Write.contents l.fn.writer) (map seen_room l.name-iterator) l.is_first (g.W.Write.contents l.writer)

use Rattle.std.proofs.Common.{◌≡◌, List, ◌++◌}
use Rattle.std.specs.BTreeMap.{values}
use Rattle.ivl_laws.specs.Runs.{IsRunsOf}
use Rattle.ivl_calendar.specs.Rooms.{Bookings}
use Rattle.ivl_calendar.proofs.Free.{IsFreeOf}
use Rattle.ivl_calendar.proofs.rooms.free_in_all.Given as goal

-- the days are those on which the rooms before are free
abbrev pub invariant-loop-room : goal.invariant-loop-room
invariant-loop-room l =
    (done : List Bookings) × (done ++ l.room-iterator ≡ values l.rooms) × IsRunsOf l.free (IsFreeOf done l.fn.window)

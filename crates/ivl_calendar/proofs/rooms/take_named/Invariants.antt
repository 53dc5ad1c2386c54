use Rattle.std.proofs.Common.{◌≡◌, ◌++◌, length}
use Rattle.std.proofs.Common.{ℤ, List}
use Rattle.std.specs.Prelude.{String}
use Rattle.std.specs.Global.{Global}
use Rattle.ivl_laws.specs.Runs.{Covers, IsRunsOf}
use Rattle.ivl_laws.specs.Sets.{Without}
use Rattle.ivl_map.specs.Entries.{intervals_of}
use Rattle.ivl_calendar.proofs.rooms.take_named.Given as goal

-- the days of the bookings before are taken out
abbrev pub invariant-loop-booking : goal.invariant-loop-booking
invariant-loop-booking l =
    (done : List ((ℤ × ℤ) × String Global)) × (done ++ l.left ≡ l.fn.bookings) × IsRunsOf l.free (Without (Covers l.fn.free) (Covers (intervals_of done)))

abbrev pub decreases-loop-booking : goal.decreases-loop-booking
decreases-loop-booking l = length l.left

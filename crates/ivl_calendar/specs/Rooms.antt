-- Rooms by name, each with its bookings: the runs of the days that are booked without a name, and the list of the
-- other bookings, each the first and the last of its days with the name.
--     Bookings, Rooms      what a contract sees of a room, and of all rooms
--     named_of bookings      the bookings with a name, of the map that the program keeps
--     rooms_of map      the rooms of the map that the program keeps
--     busy_of rooms name      what is booked in the room with this name; `None` if there is no such room
--     IsFor room z who      day z of a room with these bookings is booked for the name who
--     IsBusy room z      day z of it is booked, for a name or without one
--     IsAdded name old new      one more room, which is free on all days
--     IsBookedFor days who room more      the bookings of a room, and the same with these days booked: for the name who, or without one
--     IsBooked name room days who old new      the room with these bookings is booked on some more days
--     Books done name room days who old new      whether the room with these bookings was free on the days, and so is booked
--     IsFreed days room less      the bookings of a room, and the same without those of these days
--     Cancels done name room days old new      whether the room with these bookings was booked on one of the days, and so is freed on all of them
--     IsRunFrom days day run      these days begin with the run, as far as they are not before that day
--     IsFreeInAll rooms window z      day z lies in the window, and no room is booked on it
use Rattle.std.specs.Prelude.{◌≡◌, ◌⊎◌, ◌≤ℤ◌, ℕ, ℤ, Bool, true, false, List, [], ◌∷◌, ◌++◌, All, Option, None, Some, bytes_eq, map, string_bytes, String}
use Rattle.std.specs.BTreeMap.{BTreeMap}
use Rattle.std.specs.Global.{Global}
use Rattle.std.specs.Map.{lookup, set_value}
use Rattle.ivl_laws.specs.Sets.{AtLeast, HasNone, Intersection, IsBetween, IsSubset, Union, Without}
use Rattle.ivl_laws.specs.Runs.{Covers, IsRunsOf}
use Rattle.ivl_map.specs.Entries.{HasAt, HasValue, Outside, SameValues, Written}

abbrev pub Bookings : Type 0
Bookings = List (ℤ × ℤ) × List ((ℤ × ℤ) × List ℕ)

abbrev pub Rooms : Type 0
Rooms = List (List ℕ × Bookings)

abbrev pub named_of : List ((ℤ × ℤ) × String Global) → List ((ℤ × ℤ) × List ℕ)
named_of bookings = map (λ booking. (booking.0, string_bytes booking.1)) bookings

abbrev pub rooms_of : BTreeMap (String Global) Bookings → Rooms
rooms_of m = map (λ entry. (string_bytes entry.0, entry.1)) m.entries

abbrev pub busy_of : Rooms → List ℕ → Option Bookings
busy_of rooms name = lookup (λ known. bytes_eq name known) rooms

abbrev pub IsFor : Bookings → ℤ → List ℕ → Type 0
IsFor room z who = HasAt bytes_eq room.1 z who

abbrev pub IsBusy : Bookings → ℤ → Type 0
IsBusy room z = Covers room.0 z ⊎ HasValue (IsFor room) z

-- anywhere among the others
abbrev pub IsAdded : List ℕ → Rooms → Rooms → Type 0
IsAdded name old new = (front back : Rooms) × (old ≡ front ++ back) × (new ≡ front ++ (name, ([], [])) ∷ back)

abbrev pub IsBookedFor : ℤ × ℤ → Option (List ℕ) → Bookings → Bookings → Type 0
IsBookedFor days None room more = IsRunsOf more.0 (Union (Covers room.0) (IsBetween days)) × (more.1 ≡ room.1)
IsBookedFor days (Some who) room more = SameValues (IsFor more) (Written bytes_eq days who (IsFor room)) × (more.0 ≡ room.0)

abbrev pub IsBooked : List ℕ → Bookings → ℤ × ℤ → Option (List ℕ) → Rooms → Rooms → Type 0
IsBooked name room days who old new =
    (more : Bookings) × IsBookedFor days who room more × (new ≡ set_value (λ known. bytes_eq name known) old more)

abbrev pub Books : Bool → List ℕ → Bookings → ℤ × ℤ → Option (List ℕ) → Rooms → Rooms → Type 0
Books true name room days who old new =
    HasNone (Intersection (IsBusy room) (IsBetween days)) × IsBooked name room days who old new
Books false name room days who old new =
    (¬ (HasNone (Intersection (IsBusy room) (IsBetween days)))) × (new ≡ old)

abbrev pub IsFreed : ℤ × ℤ → Bookings → Bookings → Type 0
IsFreed days room less = IsRunsOf less.0 (Without (Covers room.0) (IsBetween days)) × SameValues (IsFor less) (Outside days (IsFor room))

abbrev pub IsCancelled : List ℕ → Bookings → ℤ × ℤ → Rooms → Rooms → Type 0
IsCancelled name room days old new =
    (less : Bookings) × IsFreed days room less × (new ≡ set_value (λ known. bytes_eq name known) old less)

abbrev pub Cancels : Bool → List ℕ → Bookings → ℤ × ℤ → Rooms → Rooms → Type 0
Cancels true name room days old new =
    (¬ (HasNone (Intersection (IsBusy room) (IsBetween days)))) × IsCancelled name room days old new
Cancels false name room days old new =
    HasNone (Intersection (IsBusy room) (IsBetween days)) × (new ≡ old)

abbrev pub IsFreeInAll : Rooms → ℤ × ℤ → ℤ → Type 0
IsFreeInAll rooms window z = IsBetween window z × All (λ room. ¬ (IsBusy room.1 z)) rooms

-- it ends on that day or after it, has such days alone, and all of these up to its end that are not before that day
abbrev pub IsRunFrom : ℤ → (ℤ → Type 0) → ℤ × ℤ → Type 0
IsRunFrom day days run =
    (day ≤ℤ run.1) × IsSubset (IsBetween run) days × ((z : ℤ) → AtLeast day days z → z ≤ℤ run.1 → IsBetween run z)

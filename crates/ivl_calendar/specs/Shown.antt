-- The texts of all rooms, and of the bookings of one.
--     names_text is_first rooms      the names of the rooms, with a comma before all but the first of an answer
--     rooms_text rooms      these, or `none`
--     has_no rooms      there is none
--     Shown      a booking: its days, and the name, if it has one
--     with_name, without_name      a booking with its name, and one that has none
--     shown_of room      the bookings of a room: those with a name, and then the days without one
--     AreBookingsText is_first bookings text      each booking as `2026-03-05 to 2026-03-06 anna`, or without a name
--     still_no is_first bookings      nothing is listed yet
--     IsShownText room text      these of a room, or `free`
use Rattle.std.specs.Prelude.{◌≡◌, ◌≢◌, ◌⊎◌, ℕ, ℤ, Bool, true, false, List, [], ◌∷◌, ◌++◌, Option, None, Some, codes, if◌then◌else◌, map}
use Rattle.ivl_lines.specs.Escapes.{escaped}
use Rattle.ivl_calendar.specs.Days.{IsSpanText}
use Rattle.ivl_calendar.specs.Rooms.{Bookings, Rooms}

abbrev pub names_text : Bool → Rooms → List ℕ
names_text is_first [] = []
names_text is_first (room ∷ rooms) = (if is_first then [] else codes ", ") ++ (escaped room.0 ++ names_text false rooms)

abbrev pub rooms_text : Rooms → List ℕ
rooms_text [] = codes "none"
rooms_text (room ∷ rooms) = names_text true (room ∷ rooms)

abbrev pub has_no : Rooms → Bool
has_no [] = true
has_no (room ∷ rooms) = false

abbrev pub Shown : Type 0
Shown = (ℤ × ℤ) × Option (List ℕ)

abbrev pub with_name : (ℤ × ℤ) × List ℕ → Shown
with_name booking = (booking.0, Some booking.1)

abbrev pub without_name : ℤ × ℤ → Shown
without_name run = (run, None)

abbrev pub shown_of : Bookings → List Shown
shown_of room = map with_name room.1 ++ map without_name room.0

abbrev pub name_after : Option (List ℕ) → List ℕ
name_after None = []
name_after (Some who) = codes " " ++ escaped who

abbrev pub AreBookingsText : Bool → List Shown → List ℕ → Type 0
AreBookingsText is_first [] text = text ≡ []
AreBookingsText is_first (booking ∷ bookings) text =
    (span rest : List ℕ) × IsSpanText booking.0 span × AreBookingsText false bookings rest
    × (text ≡ (if is_first then [] else codes ", ") ++ (span ++ (name_after booking.1 ++ rest)))

abbrev pub still_no : Bool → List Shown → Bool
still_no is_first [] = is_first
still_no is_first (booking ∷ bookings) = false

abbrev pub IsShownText : Bookings → List ℕ → Type 0
IsShownText room text =
    ((shown_of room ≡ []) × (text ≡ codes "free"))
    ⊎ ((shown_of room ≢ []) × AreBookingsText true (shown_of room) text)

-- The texts of days that are booked for names.
--     IsTakenText room days text      what is in the way of a booking of these days: `taken by anna 2026-03-02 to 2026-03-05`, of the first
--                                     booking with a name, which has all its days together; or `taken` if none of the days has a name
--     IsWhoText room day text      the name for which the room is booked on the day, `booked without a name`, or `free`
--     runs_for who bookings      the days of those of the bookings that are for who
--     AreDaysText is_first name runs text      each run of days after the name of the room, with a comma before all but the first of an answer
--     still_first is_first runs      nothing is listed yet
--     ListsDays who is_first rooms text left      the same for the runs of the days of each room that are booked for who; left says that
--                                     nothing is listed yet
--     IsOfText who rooms text      these, or `none`
use Rattle.std.specs.Prelude.{◌≡◌, ◌⊎◌, ℕ, ℤ, Bool, true, false, List, [], ◌∷◌, ◌++◌, bytes_eq, codes, if◌then◌else◌}
use Rattle.ivl_laws.specs.Sets.{HasNone, Intersection, IsBetween}
use Rattle.ivl_laws.specs.Runs.{Covers, IsRunsOf}
use Rattle.ivl_map.specs.Entries.{HasValue}
use Rattle.ivl_map.specs.Lookups.{IsFirstRunOf}
use Rattle.ivl_lines.specs.Escapes.{escaped}
use Rattle.ivl_calendar.specs.Days.{IsSpanText}
use Rattle.ivl_calendar.specs.Rooms.{Bookings, IsFor, Rooms}

-- the days that have a name, of these
abbrev pub IsNamedDay : Bookings → ℤ × ℤ → ℤ → Type 0
IsNamedDay room days = Intersection (IsBetween days) (HasValue (IsFor room))

abbrev pub IsTakenText : Bookings → ℤ × ℤ → List ℕ → Type 0
IsTakenText room days text =
    ((run : ℤ × ℤ) × (who span : List ℕ) × IsFirstRunOf bytes_eq (IsNamedDay room days) (IsFor room) (run, who)
    × IsSpanText run span × (text ≡ codes "taken by " ++ (escaped who ++ (codes " " ++ span))))
    ⊎ HasNone (IsNamedDay room days) × (text ≡ codes "taken")

abbrev pub IsWhoText : Bookings → ℤ → List ℕ → Type 0
IsWhoText room day text =
    ((who : List ℕ) × IsFor room day who × (text ≡ escaped who))
    ⊎ (((who : List ℕ) → ¬ (IsFor room day who))
    × ((Covers room.0 day × (text ≡ codes "booked without a name")) ⊎ ((¬ (Covers room.0 day)) × (text ≡ codes "free"))))

abbrev pub runs_for : List ℕ → List ((ℤ × ℤ) × List ℕ) → List (ℤ × ℤ)
runs_for who [] = []
runs_for who (booking ∷ bookings) =
    if bytes_eq booking.1 who then booking.0 ∷ runs_for who bookings else runs_for who bookings

abbrev pub AreDaysText : Bool → List ℕ → List (ℤ × ℤ) → List ℕ → Type 0
AreDaysText is_first name [] text = text ≡ []
AreDaysText is_first name (run ∷ runs) text =
    (span rest : List ℕ) × IsSpanText run span × AreDaysText false name runs rest
    × (text ≡ (if is_first then [] else codes ", ") ++ (escaped name ++ (codes " " ++ (span ++ rest))))

abbrev pub still_first : Bool → List (ℤ × ℤ) → Bool
still_first is_first [] = is_first
still_first is_first (run ∷ runs) = false

abbrev pub ListsDays : List ℕ → Bool → Rooms → List ℕ → Bool → Type 0
ListsDays who is_first [] text left = (text ≡ []) × (left ≡ is_first)
ListsDays who is_first (room ∷ rooms) text left =
    (runs : List (ℤ × ℤ)) × (first rest : List ℕ) × IsRunsOf runs (λ z. IsFor room.1 z who) × AreDaysText is_first room.0 runs first
    × ListsDays who (still_first is_first runs) rooms rest left × (text ≡ first ++ rest)

abbrev pub IsOfText : List ℕ → Rooms → List ℕ → Type 0
IsOfText who rooms text =
    (listed : List ℕ) × (left : Bool) × ListsDays who true rooms listed left × (text ≡ (if left then codes "none" else listed))

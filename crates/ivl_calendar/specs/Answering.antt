-- What is answered to a line, and the rooms that are left.
--     IsRefused told old text new      the line is answered with what is wrong, and the rooms stay
--     OfRoom name P old text new      P holds of what is booked in the room with this name; or there is no such room, which is told
--     AnswersRoom, AnswersRooms, AnswersBook, AnswersCancel, AnswersShow, AnswersGap, AnswersFree, AnswersWho, AnswersOf old words text new
--                                     the answer to a line with these words after its first
--     AddsRoom, BooksRoom, CancelsRoom, ShowsRoom, ShowsGap, ShowsFreeDays, ShowsWho      the same by what the words ask for
--     IsBookingTold, IsCancellingTold      whether it was done, as it is told
--     IsGapLine gap text      the days of a gap, or `none`
--     AnswersNamed old name words text new      the answer to a command by its name and the words after it
--     AnswersLine old line text new      the answer to a line
use Rattle.std.specs.Prelude.{◌≡◌, ◌≢◌, ◌⊎◌, ℕ, ℤ, Bool, true, false, List, [], ◌∷◌, Option, None, Some, codes, length}
use Rattle.ivl_laws.specs.Sets.{IsBetween, Without}
use Rattle.ivl_laws.specs.Runs.{IsRunsOf}
use Rattle.ivl_places.specs.FirstFit.{FitsAt, IsFirstFit}
use Rattle.ivl_lines.specs.Commands.{AnswersByCommand, no_memory}
use Rattle.ivl_lines.specs.Lines.{with_newline}
use Rattle.ivl_calendar.specs.Days.{IsSpanText, AreSpansText}
use Rattle.ivl_calendar.specs.Faults.{IsBookFault, IsCancelFault, IsFreeFault, IsGapFault, IsWhoFault, known_room, unknown_command, unknown_room, wrong_form}
use Rattle.ivl_calendar.specs.Helps.{help_line}
use Rattle.ivl_calendar.specs.Names.{IsOfText, IsTakenText, IsWhoText}
use Rattle.ivl_calendar.specs.Rooms.{Bookings, Rooms, busy_of, IsAdded, IsBusy, Books, Cancels, IsFreeInAll}
use Rattle.ivl_calendar.specs.Requests.{AsksToAdd, AsksToBook, AsksToCancel, AsksForGap, AsksForFree, AsksOf, AsksWho, Command, room, rooms, book, cancel, show, gap, free, who, of, help, comment, other, command_of}
use Rattle.ivl_calendar.specs.Shown.{IsShownText, rooms_text}

abbrev pub IsRefused : List ℕ → Rooms → List ℕ → Rooms → Type 0
IsRefused told old text new = (text ≡ told) × (new ≡ old)

abbrev pub IsOutOfMemory : Rooms → List ℕ → Rooms → Type 0
IsOutOfMemory = IsRefused no_memory

abbrev pub OfRoom : List ℕ → (Bookings → Type 0) → Rooms → List ℕ → Rooms → Type 0
OfRoom name P old text new =
    ((bookings : Bookings) × (busy_of old name ≡ Some bookings) × P bookings)
    ⊎ ((busy_of old name ≡ None) × IsRefused (unknown_room name) old text new)

abbrev pub AddsRoom : List ℕ → Rooms → List ℕ → Rooms → Type 0
AddsRoom name old text new = ((text ≡ with_newline (codes "ok")) × IsAdded name old new) ⊎ IsOutOfMemory old text new

-- a name that no room has
abbrev pub AnswersRoom : Rooms → List (List ℕ) → List ℕ → Rooms → Type 0
AnswersRoom old words text new =
    ((name : List ℕ) × AsksToAdd words name
    × (((busy_of old name ≡ None) × AddsRoom name old text new)
    ⊎ ((busy_of old name ≢ None) × IsRefused (known_room name) old text new)))
    ⊎ ((length words ≢ 1) × IsRefused (wrong_form (codes "room NAME")) old text new)

abbrev pub AnswersRooms : Rooms → List (List ℕ) → List ℕ → Rooms → Type 0
AnswersRooms old [] text new = (text ≡ with_newline (rooms_text old)) × (new ≡ old)
AnswersRooms old (word ∷ words) text new = IsRefused (wrong_form (codes "rooms")) old text new

-- booked, or what is in the way
abbrev pub AnswersBooking : List ℕ → ℤ × ℤ → Option (List ℕ) → Bookings → Rooms → List ℕ → Rooms → Type 0
AnswersBooking name days person bookings old text new =
    (Books true name bookings days person old new × (text ≡ with_newline (codes "booked")))
    ⊎ ((Books false name bookings days person old new × ((answer : List ℕ) × IsTakenText bookings days answer × (text ≡ with_newline answer)))
    ⊎ IsOutOfMemory old text new)

abbrev pub BooksRoom : List ℕ → ℤ × ℤ → Option (List ℕ) → Rooms → List ℕ → Rooms → Type 0
BooksRoom name days person old text new = OfRoom name (λ bookings. AnswersBooking name days person bookings old text new) old text new

abbrev pub IsBookingTold : Option Bool → List ℕ → ℤ × ℤ → Rooms → List ℕ → Type 0
IsBookingTold (Some true) name days all text = text ≡ with_newline (codes "booked")
IsBookingTold (Some false) name days all text = (bookings : Bookings) × (answer : List ℕ) × (busy_of all name ≡ Some bookings) × IsTakenText bookings days answer × (text ≡ with_newline answer)
IsBookingTold None name days all text = text ≡ unknown_room name

abbrev pub AnswersBook : Rooms → List (List ℕ) → List ℕ → Rooms → Type 0
AnswersBook old words text new =
    ((name : List ℕ) × (days : ℤ × ℤ) × (person : Option (List ℕ)) × AsksToBook words name days person × BooksRoom name days person old text new)
    ⊎ ((told : List ℕ) × IsBookFault words told × IsRefused told old text new)

-- freed, unless it was free on all of the days
abbrev pub AnswersCancelling : List ℕ → ℤ × ℤ → Bookings → Rooms → List ℕ → Rooms → Type 0
AnswersCancelling name days bookings old text new =
    (Cancels true name bookings days old new × (text ≡ with_newline (codes "cancelled")))
    ⊎ ((Cancels false name bookings days old new × (text ≡ with_newline (codes "not booked")))
    ⊎ IsOutOfMemory old text new)

abbrev pub CancelsRoom : List ℕ → ℤ × ℤ → Rooms → List ℕ → Rooms → Type 0
CancelsRoom name days old text new = OfRoom name (λ bookings. AnswersCancelling name days bookings old text new) old text new

abbrev pub IsCancellingTold : Option Bool → List ℕ → List ℕ → Type 0
IsCancellingTold (Some true) name text = text ≡ with_newline (codes "cancelled")
IsCancellingTold (Some false) name text = text ≡ with_newline (codes "not booked")
IsCancellingTold None name text = text ≡ unknown_room name

abbrev pub AnswersCancel : Rooms → List (List ℕ) → List ℕ → Rooms → Type 0
AnswersCancel old words text new =
    ((name : List ℕ) × (days : ℤ × ℤ) × AsksToCancel words name days × CancelsRoom name days old text new)
    ⊎ ((told : List ℕ) × IsCancelFault words told × IsRefused told old text new)

-- the bookings of a room
abbrev pub ShowsRoom : List ℕ → Rooms → List ℕ → Rooms → Type 0
ShowsRoom name old text new =
    OfRoom name (λ bookings. (((answer : List ℕ) × IsShownText bookings answer × (text ≡ with_newline answer) × (new ≡ old)) ⊎ IsOutOfMemory old text new)) old text new

abbrev pub AnswersShow : Rooms → List (List ℕ) → List ℕ → Rooms → Type 0
AnswersShow old words text new =
    ((name : List ℕ) × AsksToAdd words name × ShowsRoom name old text new)
    ⊎ ((length words ≢ 1) × IsRefused (wrong_form (codes "show ROOM")) old text new)

-- the first so many free days in a row, within the window
abbrev pub IsGapLine : Option (ℤ × ℤ) → List ℕ → Type 0
IsGapLine (Some run) text = IsSpanText run text
IsGapLine None text = text ≡ codes "none"

abbrev pub IsGapText : ℕ → (ℤ → Type 0) → List ℕ → Type 0
IsGapText count days text =
    ((run : ℤ × ℤ) × (answer : List ℕ) × IsFirstFit count days run × IsGapLine (Some run) answer × (text ≡ with_newline answer))
    ⊎ ((v : ℤ) → ¬ (FitsAt count days v)) × (text ≡ with_newline (codes "none"))

abbrev pub ShowsGap : List ℕ → ℕ → ℤ × ℤ → Rooms → List ℕ → Rooms → Type 0
ShowsGap name count window old text new =
    OfRoom name (λ bookings. ((IsGapText count (Without (IsBetween window) (IsBusy bookings)) text × (new ≡ old)) ⊎ IsOutOfMemory old text new)) old text new

abbrev pub AnswersGap : Rooms → List (List ℕ) → List ℕ → Rooms → Type 0
AnswersGap old words text new =
    ((name : List ℕ) × (count : ℕ) × (window : ℤ × ℤ) × AsksForGap words name count window × ShowsGap name count window old text new)
    ⊎ ((told : List ℕ) × IsGapFault words told × IsRefused told old text new)

-- the days of the window on which all rooms are free
abbrev pub ShowsFreeDays : ℤ × ℤ → Rooms → List ℕ → Rooms → Type 0
ShowsFreeDays window old text new =
    ((L : List (ℤ × ℤ)) × (answer : List ℕ) × IsRunsOf L (IsFreeInAll old window) × AreSpansText L answer
    × (text ≡ with_newline answer) × (new ≡ old))
    ⊎ IsOutOfMemory old text new

abbrev pub AnswersFree : Rooms → List (List ℕ) → List ℕ → Rooms → Type 0
AnswersFree old words text new =
    ((window : ℤ × ℤ) × AsksForFree words window × ShowsFreeDays window old text new)
    ⊎ ((told : List ℕ) × IsFreeFault words told × IsRefused told old text new)

-- who has booked a room on a day
abbrev pub ShowsWho : List ℕ → ℤ → Rooms → List ℕ → Rooms → Type 0
ShowsWho name day old text new =
    OfRoom name (λ bookings. (answer : List ℕ) × IsWhoText bookings day answer × (text ≡ with_newline answer) × (new ≡ old)) old text new

abbrev pub AnswersWho : Rooms → List (List ℕ) → List ℕ → Rooms → Type 0
AnswersWho old words text new =
    ((name : List ℕ) × (day : ℤ) × AsksWho words name day × ShowsWho name day old text new)
    ⊎ ((told : List ℕ) × IsWhoFault words told × IsRefused told old text new)

-- the days of a name
abbrev pub AnswersOf : Rooms → List (List ℕ) → List ℕ → Rooms → Type 0
AnswersOf old words text new =
    ((name answer : List ℕ) × AsksOf words name × IsOfText name old answer × (text ≡ with_newline answer) × (new ≡ old))
    ⊎ ((length words ≢ 1) × IsRefused (wrong_form (codes "of WHO")) old text new)

-- a comment has no answer
abbrev pub AnswersCommand : Rooms → List ℕ → Command → List (List ℕ) → List ℕ → Rooms → Type 0
AnswersCommand old name room words text new = AnswersRoom old words text new
AnswersCommand old name rooms words text new = AnswersRooms old words text new
AnswersCommand old name book words text new = AnswersBook old words text new
AnswersCommand old name cancel words text new = AnswersCancel old words text new
AnswersCommand old name show words text new = AnswersShow old words text new
AnswersCommand old name gap words text new = AnswersGap old words text new
AnswersCommand old name free words text new = AnswersFree old words text new
AnswersCommand old name who words text new = AnswersWho old words text new
AnswersCommand old name of words text new = AnswersOf old words text new
AnswersCommand old name help words text new = (text ≡ help_line words) × (new ≡ old)
AnswersCommand old name comment words text new = (text ≡ []) × (new ≡ old)
AnswersCommand old name other words text new = IsRefused (unknown_command name) old text new

abbrev pub AnswersNamed : Rooms → List ℕ → List (List ℕ) → List ℕ → Rooms → Type 0
AnswersNamed old name words text new = AnswersCommand old name (command_of name) words text new

abbrev pub AnswersLine : Rooms → List ℕ → List ℕ → Rooms → Type 0
AnswersLine old line text new = AnswersByCommand AnswersNamed old line text new

-- The text of the days of a name, booking by booking and room by room.
use Rattle.std.proofs.Common.{◌≡◌, inl, inr, ℕ, ℤ, Bool, true, false, List, [], ◌∷◌, ◌++◌, Option, map, refl, sym, ap, subst, append_assoc, append-nil, ◌∙◌}
use Rattle.std.specs.Prelude.{String, string_bytes, bytes_eq, codes, if◌then◌else◌}
use Rattle.std.specs.Global.{Global}
use Rattle.std.specs.Io.KnownBytes.{Appends}
use Rattle.std.proofs.KnownBytes.{Appends-nil, Appends-trans}
use Rattle.std.proofs.lemmas.Bool.{cases_Bool}
use Rattle.ivl_laws.specs.Sets.{HasNone}
use Rattle.ivl_laws.specs.Runs.{Covers, IsRunsOf}
use Rattle.ivl_map.specs.Lookups.{IsFirstRunOf}
use Rattle.ivl_lines.specs.Escapes.{escaped}
use Rattle.ivl_lines.specs.Lines.{with_newline}
use Rattle.ivl_calendar.specs.Days.{IsSpanText}
use Rattle.ivl_calendar.specs.Names.{AreDaysText, IsNamedDay, IsOfText, IsTakenText, IsWhoText, ListsDays, runs_for, still_first}
use Rattle.ivl_calendar.specs.Rooms.{Bookings, IsFor, Rooms, named_of}

abbrev Seen : Type 0
Seen = List ((ℤ × ℤ) × List ℕ)

never_first : (runs : List (ℤ × ℤ)) → still_first false runs ≡ false
never_first [] = refl
never_first (run ∷ runs) = refl

module _ (who name : List ℕ) where
  -- ---- one booking

  -- what stands before the days of a booking, and then the days, are the text of the booking
  pub one_for : (is_first : Bool) (booking : (ℤ × ℤ) × List ℕ) (x y z : Option (List ℕ)) → bytes_eq booking.1 who ≡ true
      → Appends x y ((if is_first then [] else codes ", ") ++ (escaped name ++ codes " ")) → ((text : List ℕ) × IsSpanText booking.0 text × Appends y z text)
      → (text : List ℕ) × AreDaysText is_first name (runs_for who (booking ∷ [])) text × Appends x z text
  one_for is_first booking x y z here before days =
      let comma = if is_first then [] else codes ", " in
      let front = comma ++ (escaped name ++ codes " ") in
      let is : front ++ days.0 ≡ comma ++ (escaped name ++ (codes " " ++ (days.0 ++ []))) =
      append_assoc comma (escaped name ++ codes " ") days.0
      ∙ ap (λ (t : List ℕ). comma ++ t) (append_assoc (escaped name) (codes " ") days.0)
      ∙ ap (λ (t : List ℕ). comma ++ (escaped name ++ (codes " " ++ t))) (sym (append-nil days.0)) in (
        front ++ days.0,
        rw (here) (days.0, [], days.1, refl, is),
        Appends-trans x y z front days.0 before days.2,
      )

  pub first_after : (is_first : Bool) (booking : (ℤ × ℤ) × List ℕ) → bytes_eq booking.1 who ≡ true → false ≡ still_first is_first (runs_for who (booking ∷ []))
  first_after is_first booking here = rw (here) refl

  pub none_for : (is_first : Bool) (booking : (ℤ × ℤ) × List ℕ) (x : Option (List ℕ)) → bytes_eq booking.1 who ≡ false
      → (text : List ℕ) × AreDaysText is_first name (runs_for who (booking ∷ [])) text × Appends x x text
  none_for is_first booking x other = ([], rw (other) refl, Appends-nil x)

  pub first_still : (is_first : Bool) (booking : (ℤ × ℤ) × List ℕ) → bytes_eq booking.1 who ≡ false → is_first ≡ still_first is_first (runs_for who (booking ∷ []))
  first_still is_first booking other = rw (other) refl

  -- ---- booking by booking

  -- the text of a booking, and then that of the later ones
  with_later : (is_first next : Bool) (booking : (ℤ × ℤ) × List ℕ) (later : Seen) (text more : List ℕ) → AreDaysText is_first name (runs_for who (booking ∷ [])) text → next ≡ still_first is_first (runs_for who (booking ∷ []))
      → AreDaysText next name (runs_for who later) more → AreDaysText is_first name (runs_for who (booking ∷ later)) (text ++ more)
  with_later is_first next booking later text more = elim (cases_Bool (bytes_eq booking.1 who)) [
    | inl here ↦ rw (here) (λ h is k.
        let comma = if is_first then [] else codes ", " in
        let span = h.0 in
        let whole : text ≡ comma ++ (escaped name ++ (codes " " ++ span)) = h.4 ∙ ap (λ (t : List ℕ). comma ++ (escaped name ++ (codes " " ++ (span ++ t)))) h.3 ∙ ap (λ (t : List ℕ). comma ++ (escaped name ++ (codes " " ++ t))) (append-nil span) in
        let joined : text ++ more ≡ comma ++ (escaped name ++ (codes " " ++ (span ++ more))) =
        ap (λ (t : List ℕ). t ++ more) whole
        ∙ append_assoc comma (escaped name ++ (codes " " ++ span)) more
        ∙ ap (λ (t : List ℕ). comma ++ t) (append_assoc (escaped name) (codes " " ++ span) more)
        ∙ ap (λ (t : List ℕ). comma ++ (escaped name ++ t)) (append_assoc (codes " ") span more) in
        (span, more, h.2, subst (λ (b : Bool). AreDaysText b name (runs_for who later) more) is k, joined))
    | inr other ↦ rw (other) (λ h is k. subst (λ (t : List ℕ). AreDaysText is_first name (runs_for who later) (t ++ more)) (sym h) (subst (λ (b : Bool). AreDaysText b name (runs_for who later) more) is k))
  ]

  still_later : (is_first next : Bool) (booking : (ℤ × ℤ) × List ℕ) (later : Seen) → next ≡ still_first is_first (runs_for who (booking ∷ [])) → still_first next (runs_for who later) ≡ still_first is_first (runs_for who (booking ∷ later))
  still_later is_first next booking later = elim (cases_Bool (bytes_eq booking.1 who)) [
    | inl here ↦ rw (here) (λ is. rw (is) (never_first (runs_for who later)))
    | inr other ↦ rw (other) (λ is. rw (is) refl)
  ]

  -- what is written, and then the text of the bookings that are left, is the text of all
  pub record LeavesDays (all : Seen) (from_first : Bool) (from : Option (List ℕ)) (left : Seen) (to_first : Bool) (to : Option (List ℕ)) : Type 0 where
    pub text : List ℕ
    pub written : Appends from to text
    pub then_all : (more : List ℕ) → AreDaysText to_first name (runs_for who left) more → AreDaysText from_first name (runs_for who all) (text ++ more)
    pub then_first : still_first to_first (runs_for who left) ≡ still_first from_first (runs_for who all)

  pub days_begun : (all : Seen) (is_first : Bool) (from : Option (List ℕ)) → LeavesDays all is_first from all is_first from
  days_begun all is_first from = record { text = []; written = Appends-nil from; then_all = λ more h. h; then_first = refl }

  pub days_more : (all : Seen) (from_first : Bool) (x : Option (List ℕ)) (left : Seen) (first : Bool) (y : Option (List ℕ)) (booking : (ℤ × ℤ) × List ℕ) (later : Seen) (next : Bool) (z : Option (List ℕ))
      → LeavesDays all from_first x left first y → left ≡ booking ∷ later
      → ((text : List ℕ) × AreDaysText first name (runs_for who (booking ∷ [])) text × Appends y z text) → next ≡ still_first first (runs_for who (booking ∷ []))
      → LeavesDays all from_first x later next z
  days_more all from_first x left first y booking later next z h is one next_is =
      record {
        text = h.text ++ one.0;
        written = Appends-trans x y z h.text one.0 h.written one.2;
        then_all = λ more k.
            let front = with_later first next booking later one.0 more one.1 next_is k in
            subst (λ (t : List ℕ). AreDaysText from_first name (runs_for who all) t) (sym (append_assoc h.text one.0 more))
            (h.then_all (one.0 ++ more) (subst (λ (L : Seen). AreDaysText first name (runs_for who L) (one.0 ++ more)) (sym is) front));
        then_first = still_later first next booking later next_is ∙ ap (λ (L : Seen). still_first first (runs_for who L)) (sym is) ∙ h.then_first;
      }

  pub days_all : (all : Seen) (from_first : Bool) (x : Option (List ℕ)) (left : Seen) (first : Bool) (y : Option (List ℕ)) → LeavesDays all from_first x left first y → left ≡ []
      → ((text : List ℕ) × AreDaysText from_first name (runs_for who all) text × Appends x y text)
  days_all all from_first x left first y h is = (
    h.text,
    subst (λ (t : List ℕ). AreDaysText from_first name (runs_for who all) t) (append-nil h.text) (h.then_all [] (subst (λ (L : Seen). AreDaysText first name (runs_for who L) []) (sym is) refl)),
    h.written,
  )

  pub first_all : (all : Seen) (from_first : Bool) (x : Option (List ℕ)) (left : Seen) (first : Bool) (y : Option (List ℕ)) → LeavesDays all from_first x left first y → left ≡ [] → first ≡ still_first from_first (runs_for who all)
  first_all all from_first x left first y h is = ap (λ (L : Seen). still_first first (runs_for who L)) (sym is) ∙ h.then_first

-- ---- room by room

module _ (who : List ℕ) where
  pub record LeavesRooms (all : Rooms) (from : Option (List ℕ)) (left : Rooms) (is_first : Bool) (to : Option (List ℕ)) : Type 0 where
    pub text : List ℕ
    pub written : Appends from to text
    pub then_all : (more : List ℕ) (none : Bool) → ListsDays who is_first left more none → ListsDays who true all (text ++ more) none

  pub rooms_begun : (all : Rooms) (from : Option (List ℕ)) → LeavesRooms all from all true from
  rooms_begun all from = record { text = []; written = Appends-nil from; then_all = λ more none h. h }

  pub rooms_more : (all : Rooms) (x : Option (List ℕ)) (left : Rooms) (first : Bool) (y : Option (List ℕ)) (room : List ℕ × Bookings) (later : Rooms) (next : Bool) (z : Option (List ℕ)) (runs : List (ℤ × ℤ))
      → LeavesRooms all x left first y → left ≡ room ∷ later → IsRunsOf runs (λ day. IsFor room.1 day who)
      → ((text : List ℕ) × AreDaysText first room.0 runs text × Appends y z text) → next ≡ still_first first runs
      → LeavesRooms all x later next z
  rooms_more all x left first y room later next z runs h is of_room one next_is =
      record {
        text = h.text ++ one.0;
        written = Appends-trans x y z h.text one.0 h.written one.2;
        then_all = λ more none k.
            let here : ListsDays who first (room ∷ later) (one.0 ++ more) none = (runs, one.0, more, of_room, one.1, subst (λ (b : Bool). ListsDays who b later more none) next_is k, refl) in
            subst (λ (t : List ℕ). ListsDays who true all t none) (sym (append_assoc h.text one.0 more))
            (h.then_all (one.0 ++ more) none (subst (λ (L : Rooms). ListsDays who first L (one.0 ++ more) none) (sym is) here));
      }

  pub rooms_all : (all : Rooms) (x : Option (List ℕ)) (left : Rooms) (first : Bool) (y : Option (List ℕ)) → LeavesRooms all x left first y → left ≡ [] → ((text : List ℕ) × ListsDays who true all text first × Appends x y text)
  rooms_all all x left first y h is = (
    h.text,
    subst (λ (t : List ℕ). ListsDays who true all t first) (append-nil h.text) (h.then_all [] first (subst (λ (L : Rooms). ListsDays who first L [] first) (sym is) (refl, refl))),
    h.written,
  )

-- ---- the line that is written

-- what has something listed does not say that nothing is
not_first : (who : List ℕ) (rooms : Rooms) (text : List ℕ) → ListsDays who false rooms text true → ⊥
not_first who [] text h = let never = h.1 in cc
not_first who (room ∷ rooms) text h = not_first who rooms h.2 (subst (λ (b : Bool). ListsDays who b rooms h.2 true) (never_first h.0) h.5)

nothing_in : (who : List ℕ) (rooms : Rooms) (is_first : Bool) (runs : List (ℤ × ℤ)) (name first rest : List ℕ) → ((text : List ℕ) → ListsDays who is_first rooms text true → text ≡ []) → AreDaysText is_first name runs first → ListsDays who (still_first is_first runs) rooms rest true → first ++ rest ≡ []
nothing_in who rooms is_first [] name first rest later h k = rw (h, later rest k) refl
nothing_in who rooms is_first (run ∷ runs) name first rest later h k = absurd (not_first who rooms rest k)

nothing_listed : (who : List ℕ) (rooms : Rooms) (is_first : Bool) (text : List ℕ) → ListsDays who is_first rooms text true → text ≡ []
nothing_listed who [] is_first text h = h.0
nothing_listed who (room ∷ rooms) is_first text h = h.6 ∙ nothing_in who rooms is_first h.0 room.0 h.1 h.2 (nothing_listed who rooms is_first) h.4 h.5

-- the days, or `none`
pub of_none : (who : List ℕ) (rooms : Rooms) (left : Bool) (x y z : Option (List ℕ)) → ((text : List ℕ) × ListsDays who true rooms text left × Appends x y text) → left ≡ true → Appends y z (with_newline (codes "none"))
    → (text : List ℕ) × IsOfText who rooms text × Appends x z (with_newline text)
of_none who rooms left x y z h is written =
    let nothing : h.0 ≡ [] = nothing_listed who rooms true h.0 (subst (λ (b : Bool). ListsDays who true rooms h.0 b) is h.1) in (
      codes "none",
      (h.0, left, h.1, rw is refl),
      subst (λ (t : List ℕ). Appends x z (t ++ with_newline (codes "none"))) nothing (Appends-trans x y z h.0 (with_newline (codes "none")) h.2 written),
    )

pub of_some : (who : List ℕ) (rooms : Rooms) (left : Bool) (x y z : Option (List ℕ)) → ((text : List ℕ) × ListsDays who true rooms text left × Appends x y text) → left ≡ false → Appends y z (10 ∷ [])
    → (text : List ℕ) × IsOfText who rooms text × Appends x z (with_newline text)
of_some who rooms left x y z h is written = (h.0, (h.0, left, h.1, rw is refl), Appends-trans x y z h.0 (10 ∷ []) h.2 written)

-- the first booking that is in the way
pub taken_line : (room : Bookings) (days run : ℤ × ℤ) (who : List ℕ) (x y z w : Option (List ℕ)) → IsFirstRunOf bytes_eq (IsNamedDay room days) (IsFor room) (run, who)
    → Appends x y (codes "taken by " ++ (escaped who ++ codes " ")) → ((text : List ℕ) × IsSpanText run text × Appends y z text) → Appends z w (10 ∷ [])
    → (text : List ℕ) × IsTakenText room days text × Appends x w (with_newline text)
taken_line room days run who x y z w first before span newline =
    let front = codes "taken by " ++ (escaped who ++ codes " ") in
    let text = codes "taken by " ++ (escaped who ++ (codes " " ++ span.0)) in
    let is : front ++ span.0 ≡ text = append_assoc (codes "taken by ") (escaped who ++ codes " ") span.0 ∙ ap (λ (t : List ℕ). codes "taken by " ++ t) (append_assoc (escaped who) (codes " ") span.0) in
    let line : Appends x z text = subst (λ (t : List ℕ). Appends x z t) is (Appends-trans x y z front span.0 before span.2) in
    (text, inl (run, who, span.0, first, span.1, refl), Appends-trans x z w text (10 ∷ []) line newline)

pub taken_alone : (room : Bookings) (days : ℤ × ℤ) (x y : Option (List ℕ)) → HasNone (IsNamedDay room days) → Appends x y (with_newline (codes "taken")) → (text : List ℕ) × IsTakenText room days text × Appends x y (with_newline text)
taken_alone room days x y none written = (codes "taken", inr (none, refl), written)

-- who has a room on a day, which two answers name otherwise
module _ (room : Bookings) (day at on : ℤ) (is_at : at ≡ day) (is_on : on ≡ day) (nobody : (who : List ℕ) → IsFor room at who → ⊥) where
  pub who_unnamed : Covers room.0 on → IsWhoText room day (codes "booked without a name")
  who_unnamed h = inr (subst (λ (z : ℤ). (who : List ℕ) → IsFor room z who → ⊥) is_at nobody, inl (subst (λ (z : ℤ). Covers room.0 z) is_on h, refl))

  pub who_free : (Covers room.0 on → ⊥) → IsWhoText room day (codes "free")
  who_free free = inr (subst (λ (z : ℤ). (who : List ℕ) → IsFor room z who → ⊥) is_at nobody, inr (subst (λ (z : ℤ). Covers room.0 z → ⊥) is_on free, refl))

abbrev pub seen_room : String Global × Bookings → List ℕ × Bookings
seen_room entry = (string_bytes entry.0, entry.1)

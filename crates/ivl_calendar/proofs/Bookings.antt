-- The texts of all rooms, and of the bookings of one, one after the other.
use Rattle.std.proofs.Common.{◌≡◌, ◌≢◌, inl, inr, ℕ, ℤ, Bool, true, false, List, [], ◌∷◌, ◌++◌, ◌∙◌, Option, None, Some, map, refl, sym, ap, subst, append_assoc, append-nil}
use Rattle.std.specs.Prelude.{codes, if◌then◌else◌}
use Rattle.std.specs.Io.KnownBytes.{Appends}
use Rattle.std.proofs.KnownBytes.{Appends-nil, Appends-trans}
use Rattle.std.proofs.lemmas.Bool.{true≢false}
use Rattle.ivl_lines.specs.Escapes.{escaped}
use Rattle.ivl_lines.specs.Lines.{with_newline}
use Rattle.ivl_calendar.specs.Days.{IsSpanText}
use Rattle.ivl_calendar.specs.Rooms.{Bookings, Rooms}
use Rattle.ivl_calendar.specs.Shown.{AreBookingsText, IsShownText, Shown, has_no, name_after, names_text, rooms_text, shown_of, still_no}

abbrev pub comma_of : Bool → List ℕ
comma_of is_first = if is_first then [] else codes ", "

-- ---- rooms

abbrev pub still_none : Bool → Rooms → Bool
still_none true rooms = has_no rooms
still_none false rooms = false

none_after : (is_first : Bool) (room : List ℕ × Bookings) (rooms : Rooms) → still_none is_first (room ∷ rooms) ≡ false
none_after true room rooms = refl
none_after false room rooms = refl

at_end : (is_first : Bool) → still_none is_first [] ≡ is_first
at_end true = refl
at_end false = refl

-- what is written, and then the names of the rooms that are left, are the names of all
pub record LeavesNames (all : Rooms) (from : Option (List ℕ)) (left : Rooms) (is_first : Bool) (to : Option (List ℕ)) : Type 0 where
  pub text : List ℕ
  pub written : Appends from to text
  pub then_all : names_text true all ≡ text ++ names_text is_first left
  pub then_none : still_none is_first left ≡ has_no all

pub names_begun : (all : Rooms) (from : Option (List ℕ)) → LeavesNames all from all true from
names_begun all from = record { text = []; written = Appends-nil from; then_all = refl; then_none = refl }

pub names_more : (all : Rooms) (x : Option (List ℕ)) (left : Rooms) (first : Bool) (y : Option (List ℕ)) (room : List ℕ × Bookings) (later : Rooms) (z : Option (List ℕ))
    → LeavesNames all x left first y → left ≡ room ∷ later → Appends y z (comma_of first ++ escaped room.0) → LeavesNames all x later false z
names_more all x left first y room later z h is one =
    let here : names_text first left ≡ comma_of first ++ (escaped room.0 ++ names_text false later) = ap (λ (L : Rooms). names_text first L) is in
    let joined : h.text ++ (comma_of first ++ (escaped room.0 ++ names_text false later)) ≡ (h.text ++ (comma_of first ++ escaped room.0)) ++ names_text false later =
    ap (λ (t : List ℕ). h.text ++ t) (sym (append_assoc (comma_of first) (escaped room.0) (names_text false later)))
    ∙ sym (append_assoc h.text (comma_of first ++ escaped room.0) (names_text false later)) in
    record {
      text = h.text ++ (comma_of first ++ escaped room.0);
      written = Appends-trans x y z h.text (comma_of first ++ escaped room.0) h.written one;
      then_all = h.then_all ∙ ap (λ (t : List ℕ). h.text ++ t) here ∙ joined;
      then_none = sym (none_after first room later) ∙ ap (λ (L : Rooms). still_none first L) (sym is) ∙ h.then_none;
    }

pub names_all : (all : Rooms) (x : Option (List ℕ)) (left : Rooms) (first : Bool) (y : Option (List ℕ)) → LeavesNames all x left first y → left ≡ [] → Appends x y (names_text true all)
names_all all x left first y h is =
    let whole : names_text true all ≡ h.text = h.then_all ∙ ap (λ (L : Rooms). h.text ++ names_text first L) is ∙ append-nil h.text in
    subst (λ (t : List ℕ). Appends x y t) (sym whole) h.written

pub none_all : (all : Rooms) (x : Option (List ℕ)) (left : Rooms) (first : Bool) (y : Option (List ℕ)) → LeavesNames all x left first y → left ≡ [] → first ≡ has_no all
none_all all x left first y h is = sym (at_end first) ∙ ap (λ (L : Rooms). still_none first L) (sym is) ∙ h.then_none

-- the line of the rooms
pub rooms_none : (rooms : Rooms) (none : Bool) (x y z : Option (List ℕ)) → none ≡ has_no rooms → none ≡ true → Appends x y (names_text true rooms) → Appends y z (with_newline (codes "none")) → Appends x z (with_newline (rooms_text rooms))
rooms_none [] none x y z is holds names line = Appends-trans x y z [] (with_newline (codes "none")) names line
rooms_none (room ∷ rooms) none x y z is holds names line = absurd (true≢false (sym holds ∙ is))

pub rooms_some : (rooms : Rooms) (none : Bool) (x y z : Option (List ℕ)) → none ≡ has_no rooms → none ≡ false → Appends x y (names_text true rooms) → Appends y z (10 ∷ []) → Appends x z (with_newline (rooms_text rooms))
rooms_some [] none x y z is fails names line = absurd (true≢false (sym is ∙ fails))
rooms_some (room ∷ rooms) none x y z is fails names line = Appends-trans x y z (names_text true (room ∷ rooms)) (10 ∷ []) names line

-- ---- one booking

pub booking_named : (is_first : Bool) (days : ℤ × ℤ) (who : List ℕ) (x y z w : Option (List ℕ)) → Appends x y (comma_of is_first) → ((text : List ℕ) × IsSpanText days text × Appends y z text) → Appends z w (codes " " ++ escaped who)
    → (text : List ℕ) × AreBookingsText is_first ((days, Some who) ∷ []) text × Appends x w text
booking_named is_first days who x y z w comma span name = (
  comma_of is_first ++ (span.0 ++ name_after (Some who)),
  (span.0, [], span.1, refl, ap (λ (t : List ℕ). comma_of is_first ++ (span.0 ++ t)) (sym (append-nil (name_after (Some who))))),
  Appends-trans x y w (comma_of is_first) (span.0 ++ name_after (Some who)) comma (Appends-trans y z w span.0 (name_after (Some who)) span.2 name),
)

pub booking_unnamed : (is_first : Bool) (days : ℤ × ℤ) (x y z : Option (List ℕ)) → Appends x y (comma_of is_first) → ((text : List ℕ) × IsSpanText days text × Appends y z text)
    → (text : List ℕ) × AreBookingsText is_first ((days, None) ∷ []) text × Appends x z text
booking_unnamed is_first days x y z comma span = (
  comma_of is_first ++ span.0,
  (span.0, [], span.1, refl, ap (λ (t : List ℕ). comma_of is_first ++ t) (sym (append-nil span.0))),
  Appends-trans x y z (comma_of is_first) span.0 comma span.2,
)

-- ---- booking by booking

never_no : (bookings : List Shown) → still_no false bookings ≡ false
never_no [] = refl
never_no (booking ∷ bookings) = refl

-- the text of a booking, and then that of the later ones
regroup : (comma span name rest more : List ℕ) → (comma ++ (span ++ (name ++ rest))) ++ more ≡ comma ++ (span ++ (name ++ (rest ++ more)))
regroup comma span name rest more =
    append_assoc comma (span ++ (name ++ rest)) more
    ∙ ap (λ (t : List ℕ). comma ++ t) (append_assoc span (name ++ rest) more)
    ∙ ap (λ (t : List ℕ). comma ++ (span ++ t)) (append_assoc name rest more)

text_append : (is_first : Bool) (N U : List Shown) (text more : List ℕ) → AreBookingsText is_first N text → AreBookingsText (still_no is_first N) U more → AreBookingsText is_first (N ++ U) (text ++ more)
text_append is_first [] U text more h k = subst (λ (t : List ℕ). AreBookingsText is_first U (t ++ more)) (sym h) k
text_append is_first (booking ∷ N) U text more h k =
    let later : AreBookingsText (still_no false N) U more = subst (λ (b : Bool). AreBookingsText b U more) (sym (never_no N)) k in (
      h.0,
      h.1 ++ more,
      h.2,
      text_append false N U h.1 more h.3 later,
      ap (λ (t : List ℕ). t ++ more) h.4 ∙ regroup (comma_of is_first) h.0 (name_after booking.1) h.1 more,
    )

-- what is written, and then the text of the bookings that are left, is the text of all
pub record LeavesShown (all : List Shown) (from_first : Bool) (from : Option (List ℕ)) (left : List Shown) (to_first : Bool) (to : Option (List ℕ)) : Type 0 where
  pub text : List ℕ
  pub written : Appends from to text
  pub then_all : (more : List ℕ) → AreBookingsText to_first left more → AreBookingsText from_first all (text ++ more)
  pub then_first : still_no to_first left ≡ still_no from_first all

pub shown_begun : (all : List Shown) (is_first : Bool) (from : Option (List ℕ)) → LeavesShown all is_first from all is_first from
shown_begun all is_first from = record { text = []; written = Appends-nil from; then_all = λ more h. h; then_first = refl }

pub shown_more : (all : List Shown) (from_first : Bool) (x : Option (List ℕ)) (left : List Shown) (first : Bool) (y : Option (List ℕ)) (booking : Shown) (later : List Shown) (z : Option (List ℕ))
    → LeavesShown all from_first x left first y → left ≡ booking ∷ later → ((text : List ℕ) × AreBookingsText first (booking ∷ []) text × Appends y z text) → LeavesShown all from_first x later false z
shown_more all from_first x left first y booking later z h is one =
    record {
      text = h.text ++ one.0;
      written = Appends-trans x y z h.text one.0 h.written one.2;
      then_all = λ more k.
          let front : AreBookingsText first (booking ∷ later) (one.0 ++ more) = text_append first (booking ∷ []) later one.0 more one.1 k in
          subst (λ (t : List ℕ). AreBookingsText from_first all t) (sym (append_assoc h.text one.0 more))
          (h.then_all (one.0 ++ more) (subst (λ (L : List Shown). AreBookingsText first L (one.0 ++ more)) (sym is) front));
      then_first = never_no later ∙ ap (λ (L : List Shown). still_no first L) (sym is) ∙ h.then_first;
    }

pub shown_all : (all : List Shown) (from_first : Bool) (x : Option (List ℕ)) (left : List Shown) (first : Bool) (y : Option (List ℕ)) → LeavesShown all from_first x left first y → left ≡ []
    → (text : List ℕ) × AreBookingsText from_first all text × Appends x y text
shown_all all from_first x left first y h is = (
  h.text,
  subst (λ (t : List ℕ). AreBookingsText from_first all t) (append-nil h.text) (h.then_all [] (subst (λ (L : List Shown). AreBookingsText first L []) (sym is) refl)),
  h.written,
)

pub first_all : (all : List Shown) (from_first : Bool) (x : Option (List ℕ)) (left : List Shown) (first : Bool) (y : Option (List ℕ)) → LeavesShown all from_first x left first y → left ≡ [] → first ≡ still_no from_first all
first_all all from_first x left first y h is = ap (λ (L : List Shown). still_no first L) (sym is) ∙ h.then_first

-- ---- the line that is written

nothing : (N U : List Shown) → still_no (still_no true N) U ≡ true → (N ≡ []) × (U ≡ [])
nothing [] [] is = (refl, refl)
nothing [] (booking ∷ U) is = absurd (true≢false (sym is))
nothing (booking ∷ N) U is = absurd (true≢false (sym is ∙ never_no U))

something : (N U : List Shown) → still_no (still_no true N) U ≡ false → N ++ U ≢ []
something [] [] is = λ e. true≢false is
something [] (booking ∷ U) is = λ e. cc
something (booking ∷ N) U is = λ e. cc

module _ (room : Bookings) (N U : List Shown) (is : shown_of room ≡ N ++ U) (first left : Bool) (x y z w : Option (List ℕ)) (is_first : first ≡ still_no true N) (is_left : left ≡ still_no first U)
    (named : (text : List ℕ) × AreBookingsText true N text × Appends x y text) (unnamed : (text : List ℕ) × AreBookingsText first U text × Appends y z text) where
  both_left : left ≡ still_no (still_no true N) U
  both_left = is_left ∙ ap (λ (b : Bool). still_no b U) is_first

  pub shown_none : left ≡ true → Appends z w (with_newline (codes "free")) → (text : List ℕ) × IsShownText room text × Appends x w (with_newline text)
  shown_none holds line =
      let empty = nothing N U (sym both_left ∙ holds) in
      let no_named : named.0 ≡ [] = subst (λ (L : List Shown). AreBookingsText true L named.0) empty.0 named.1 in
      let no_unnamed : unnamed.0 ≡ [] = subst (λ (L : List Shown). AreBookingsText first L unnamed.0) empty.1 unnamed.1 in
      let to : Appends x y [] = subst (λ (t : List ℕ). Appends x y t) no_named named.2 in
      let on : Appends y z [] = subst (λ (t : List ℕ). Appends y z t) no_unnamed unnamed.2 in
      let none : shown_of room ≡ [] = is ∙ ap (λ (L : List Shown). L ++ U) empty.0 ∙ empty.1 in
      (codes "free", inl (none, refl), Appends-trans x z w [] (with_newline (codes "free")) (Appends-trans x y z [] [] to on) line)

  pub shown_some : left ≡ false → Appends z w (10 ∷ []) → (text : List ℕ) × IsShownText room text × Appends x w (with_newline text)
  shown_some fails line =
      let text = named.0 ++ unnamed.0 in
      let whole : AreBookingsText true (N ++ U) text = text_append true N U named.0 unnamed.0 named.1 (subst (λ (b : Bool). AreBookingsText b U unnamed.0) is_first unnamed.1) in
      let some : shown_of room ≢ [] = λ e. something N U (sym both_left ∙ fails) (sym is ∙ e) in
      (text, inr (some, subst (λ (L : List Shown). AreBookingsText true L text) (sym is) whole), Appends-trans x z w text (10 ∷ []) (Appends-trans x y z named.0 unnamed.0 named.2 unnamed.2) line)

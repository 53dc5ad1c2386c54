-- The answers to a line, by what was asked and carried out.
use Rattle.std.proofs.Common.{◌≡◌, ◌⊎◌, ◌<◌, ℕ, ℤ, ◌≤ℤ◌, Bool, true, false, List, [], ◌∷◌, ◌++◌, Option, None, Some, inl, inr, ⊎_elim, refl, sym, ap, subst, ◌∙◌, append-nil, arith}
use Rattle.std.specs.Prelude.{IfNone, IfSome, IsSome, IsTrue, MatchOption, ◌==◌, bytes_eq, codes, slice_index}
use Rattle.std.proofs.lemmas.Bool.{cases_Bool, true≢false}
use Rattle.std.proofs.lemmas.Int.{ints}
use Rattle.std.proofs.lemmas.Slice.Eq.{bytes_eq-Decides}
use Rattle.jiff.specs.Words.{IsEpochDay}
use Rattle.ivl_laws.specs.Sets.{IsBetween, IsSubset, Without}
use Rattle.ivl_laws.specs.Runs.{Covers, IsRunsOf}
use Rattle.ivl_places.specs.FirstFit.{FitsAt, IsFirstFit}
use Rattle.ivl_lines.specs.Commands.{no_memory}
use Rattle.ivl_lines.specs.Lines.{with_newline}
use Rattle.ivl_calendar.specs.Answering.{AnswersBook, AnswersCancel, AnswersCommand, AnswersGap, AnswersOf, AnswersWho, BooksRoom, CancelsRoom, IsBookingTold, IsCancellingTold, IsGapLine, ShowsFreeDays, ShowsGap, ShowsRoom, ShowsWho}
use Rattle.ivl_calendar.specs.Days.{AreSpansText}
use Rattle.ivl_calendar.specs.Faults.{unknown_room}
use Rattle.ivl_calendar.specs.Names.{IsTakenText, IsWhoText}
use Rattle.ivl_calendar.specs.Requests.{command_of}
use Rattle.ivl_calendar.specs.Rooms.{Bookings, Books, Cancels, IsBusy, IsFreeInAll, Rooms, busy_of}
use Rattle.ivl_calendar.specs.Shown.{IsShownText}
use Rattle.ivl_calendar.proofs.Spans.{itself}

-- ---- bookings

some_of : {A : Type 0} (o : Option A) → IsSome o → (x : A) × (o ≡ Some x)
some_of None h = absurd cc
some_of (Some x) h = (x, refl)

module _ (old new : Rooms) (name : List ℕ) (days : ℤ × ℤ) (who : Option (List ℕ)) where
  pub booking_still_known : (done : Option Bool) → IfSome done (λ it. (room : Bookings) × (busy_of old name ≡ Some room) × Books it name room days who old new) → IfSome done (λ it. IsTrue it ⊎ IsSome (busy_of new name))
  booking_still_known None h = tt
  booking_still_known (Some true) h = inl refl
  booking_still_known (Some false) h = let there : busy_of new name ≡ Some h.0 = ap (λ (rooms : Rooms). busy_of rooms name) h.2.1 ∙ h.1 in inr (rw there refl)

  pub booking_told : (done : Option Bool) (text : List ℕ) → IfSome done (λ it. (room : Bookings) × (busy_of old name ≡ Some room) × Books it name room days who old new) → IfNone done ((busy_of old name ≡ None) × (new ≡ old))
      → IsBookingTold done name days new text → BooksRoom name days who old text new
  booking_told None text known unknown told = inr (unknown.0, (told, unknown.1))
  booking_told (Some true) text known unknown told = inl (known.0, known.1, inl (known.2, told))
  booking_told (Some false) text known unknown told =
      let there : busy_of new name ≡ Some known.0 = ap (λ (rooms : Rooms). busy_of rooms name) known.2.1 ∙ known.1 in
      let same : told.0 ≡ known.0 = let found = told.2 in cc in
      inl (known.0, known.1, inr (inl (known.2, (told.1, subst (λ (r : Bookings). IsTakenText r days told.1) same told.3, told.4))))

  pub no_memory_booked : IsSome (busy_of old name) × (new ≡ old) → BooksRoom name days who old no_memory new
  no_memory_booked h =
      let there = some_of (busy_of old name) h.0 in
      inl (there.0, there.1, inr (inr (refl, h.1)))

pub taken_known : (rooms : Rooms) (name : List ℕ) (done : Option Bool) → done ≡ Some false → IfSome done (λ it. IsTrue it ⊎ IsSome (busy_of rooms name)) → IsSome (busy_of rooms name)
taken_known rooms name done is h = ⊎_elim (λ t. absurd (true≢false (sym t))) (λ some. some) (rw is at h)

-- ---- cancellations

module _ (old new : Rooms) (name : List ℕ) (days : ℤ × ℤ) where
  pub cancelling_told : (done : Option Bool) (text : List ℕ) → IfSome done (λ it. (room : Bookings) × (busy_of old name ≡ Some room) × Cancels it name room days old new) → IfNone done ((busy_of old name ≡ None) × (new ≡ old))
      → IsCancellingTold done name text → CancelsRoom name days old text new
  cancelling_told None text known unknown told = inr (unknown.0, (told, unknown.1))
  cancelling_told (Some true) text known unknown told = inl (known.0, known.1, inl (known.2, told))
  cancelling_told (Some false) text known unknown told = inl (known.0, known.1, inr (inl (known.2, told)))

  pub no_memory_cancelled : IsSome (busy_of old name) × (new ≡ old) → CancelsRoom name days old no_memory new
  no_memory_cancelled h =
      let there = some_of (busy_of old name) h.0 in
      inl (there.0, there.1, inr (inr (refl, h.1)))

-- ---- gaps

pub gap_told : (old : Rooms) (name : List ℕ) (count : ℕ) (window : ℤ × ℤ) (busy : Bookings) (gap : Option (ℤ × ℤ)) (text : List ℕ) → busy_of old name ≡ Some busy
    → MatchOption gap ((v : ℤ) → FitsAt count (Without (IsBetween window) (IsBusy busy)) v → ⊥) (IsFirstFit count (Without (IsBetween window) (IsBusy busy))) → IsGapLine gap text → ShowsGap name count window old (with_newline text) old
gap_told old name count window busy None text known none line = inl (busy, known, inl (inr (none, ap with_newline line), refl))
gap_told old name count window busy (Some run) text known fit line = inl (busy, known, inl (inl (run, text, fit, line, refl), refl))

pub no_memory_gap : (old : Rooms) (name : List ℕ) (count : ℕ) (window : ℤ × ℤ) (busy : Bookings) → busy_of old name ≡ Some busy → ShowsGap name count window old no_memory old
no_memory_gap old name count window busy known = inl (busy, known, inr (refl, refl))

pub unknown_gap : (old : Rooms) (name : List ℕ) (count : ℕ) (window : ℤ × ℤ) → busy_of old name ≡ None → ShowsGap name count window old (unknown_room name) old
unknown_gap old name count window unknown = inr (unknown, (refl, refl))

-- the days of a gap are in order, and days of the calendar
run_order : (count : ℕ) (days : ℤ → Type 0) (run : ℤ × ℤ) → 0 < count → IsFirstFit count days run → run.0 ≤ℤ run.1
run_order count days run above fit = let last = fit.count in omega (arith, ints)

module _ (count : ℕ) (window : ℤ × ℤ) (busy : Bookings) (above : 0 < count) (ends : IsEpochDay window.0 × IsEpochDay window.1) where
  run_dates : (run : ℤ × ℤ) → IsFirstFit count (Without (IsBetween window) (IsBusy busy)) run → IsSubset (IsBetween run) IsEpochDay
  run_dates run fit z m =
      let within : IsBetween window z = (fit.members z m).0 in
      let low = ends.0.0 in
      let high = ends.1.1 in
      (omega (arith, ints), omega (arith, ints))

  pub gap_days : (gap : Option (ℤ × ℤ)) → MatchOption gap ((v : ℤ) → FitsAt count (Without (IsBetween window) (IsBusy busy)) v → ⊥) (IsFirstFit count (Without (IsBetween window) (IsBusy busy)))
      → IfSome gap (λ run. run.0 ≤ℤ run.1) × IfSome gap (λ run. IsEpochDay run.0) × IfSome gap (λ run. IsEpochDay run.1)
  gap_days None none = (tt, tt, tt)
  gap_days (Some run) fit =
      let order : run.0 ≤ℤ run.1 = run_order count (Without (IsBetween window) (IsBusy busy)) run above fit in
      (order, run_dates run fit run.0 (itself run.0, order), run_dates run fit run.1 (order, itself run.1))

-- ---- what is shown

pub free_told : (old : Rooms) (window : ℤ × ℤ) (free runs : List (ℤ × ℤ)) (text : List ℕ) → IsRunsOf free (IsFreeInAll old window) → runs ≡ free → AreSpansText runs text → ShowsFreeDays window old (with_newline text) old
free_told old window free runs text is same spans = inl (free, text, is, subst (λ (L : List (ℤ × ℤ)). AreSpansText L text) same spans, refl, refl)

pub who_told : (old : Rooms) (name : List ℕ) (day at : ℤ) → at ≡ day → (room : Bookings) (text : List ℕ) → busy_of old name ≡ Some room → IsWhoText room at text → ShowsWho name day old (with_newline text) old
who_told old name day at same room text known is = inl (room, known, (text, subst (λ (z : ℤ). IsWhoText room z text) same is, refl, refl))

pub who_unknown : (old : Rooms) (name : List ℕ) (day : ℤ) → busy_of old name ≡ None → ShowsWho name day old (unknown_room name) old
who_unknown old name day unknown = inr (unknown, (refl, refl))

pub room_shown : (old : Rooms) (name : List ℕ) (room : Bookings) (days : List (ℤ × ℤ)) (named : List ((ℤ × ℤ) × List ℕ)) (text : List ℕ) → busy_of old name ≡ Some room → days ≡ room.0 → named ≡ room.1 → IsShownText (days, named) text
    → ShowsRoom name old (with_newline text) old
room_shown old name room days named text known is_days is_named is =
    let one : IsShownText (room.0, named) text = subst (λ (d : List (ℤ × ℤ)). IsShownText (d, named) text) is_days is in
    let both : IsShownText room text = subst (λ (n : List ((ℤ × ℤ) × List ℕ)). IsShownText (room.0, n) text) is_named one in
    inl (room, known, inl (text, both, refl, refl))

pub no_memory_shown : (old : Rooms) (name : List ℕ) (room : Bookings) → busy_of old name ≡ Some room → ShowsRoom name old no_memory old
no_memory_shown old name room known = inl (room, known, inr (refl, refl))

pub unknown_shown : (old : Rooms) (name : List ℕ) → busy_of old name ≡ None → ShowsRoom name old (unknown_room name) old
unknown_shown old name unknown = inr (unknown, (refl, refl))

-- ---- which command

pub is_book : (old new : Rooms) (name : List ℕ) (words : List (List ℕ)) (text : List ℕ) → name ≡ codes "book" → AnswersBook old words text new → AnswersCommand old name (command_of name) words text new
is_book old new name words text here h = rw here h

pub is_cancel : (old new : Rooms) (name : List ℕ) (words : List (List ℕ)) (text : List ℕ) → name ≡ codes "cancel" → AnswersCancel old words text new → AnswersCommand old name (command_of name) words text new
is_cancel old new name words text here h = rw here h

pub is_gap : (old new : Rooms) (name : List ℕ) (words : List (List ℕ)) (text : List ℕ) → name ≡ codes "gap" → AnswersGap old words text new → AnswersCommand old name (command_of name) words text new
is_gap old new name words text here h = rw here h

pub is_who : (old new : Rooms) (name : List ℕ) (words : List (List ℕ)) (text : List ℕ) → name ≡ codes "who" → AnswersWho old words text new → AnswersCommand old name (command_of name) words text new
is_who old new name words text here h = rw here h

pub is_of : (old new : Rooms) (name : List ℕ) (words : List (List ℕ)) (text : List ℕ) → name ≡ codes "of" → AnswersOf old words text new → AnswersCommand old name (command_of name) words text new
is_of old new name words text here h = rw here h

other : (name word : List ℕ) → (name ≡ word → ⊥) → bytes_eq name word ≡ false
other name word differs = elim (cases_Bool (bytes_eq name word)) [
  | inl same ↦ absurd (differs ((bytes_eq-Decides name word).0 same))
  | inr fails ↦ fails
]

-- a comment
pub commented : (old : Rooms) (name : List ℕ) (words : List (List ℕ)) → (name ≡ codes "room" → ⊥) → (name ≡ codes "rooms" → ⊥) → (name ≡ codes "book" → ⊥) → (name ≡ codes "cancel" → ⊥) → (name ≡ codes "show" → ⊥) → (name ≡ codes "gap" → ⊥) → (name ≡ codes "free" → ⊥) → (name ≡ codes "who" → ⊥) → (name ≡ codes "of" → ⊥) → (name ≡ codes "help" → ⊥) → (slice_index name 0 == 35) ≡ true → AnswersCommand old name (command_of name) words [] old
commented old name words n_room n_rooms n_book n_cancel n_show n_gap n_free n_who n_of n_help begins = rw (other name (codes "room") n_room, other name (codes "rooms") n_rooms, other name (codes "book") n_book, other name (codes "cancel") n_cancel, other name (codes "show") n_show, other name (codes "gap") n_gap, other name (codes "free") n_free, other name (codes "who") n_who, other name (codes "of") n_of, other name (codes "help") n_help, begins) (refl, refl)

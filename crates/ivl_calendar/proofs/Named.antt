-- Bookings with a name: as the program keeps them, by texts, and as a contract sees them, by the bytes of the names.
use Rattle.std.proofs.Common.{◌≡◌, ⊎_elim, inl, inr, ℕ, ℤ, pos, ◌+ℤ◌, ◌-ℤ◌, ◌≤ℤ◌, ◌<ℤ◌, Bool, true, false, List, [], ◌∷◌, refl, sym, subst, ◌∙◌, arith}
use Rattle.std.specs.Prelude.{◌↔◌, String, string_bytes, string_eq, bytes_eq}
use Rattle.std.specs.Global.{Global}
use Rattle.std.specs.String.{string_eq_equiv}
use Rattle.std.proofs.lemmas.Bool.{cases_Bool}
use Rattle.std.proofs.lemmas.Int.{ints, by_lt_z}
use Rattle.std.proofs.lemmas.Slice.Eq.{bytes_eq-Decides}
use Rattle.jiff.specs.Words.{IsEpochDay}
use Rattle.ivl_laws.specs.Sets.{AtLeast, HasNone, Intersection, IsBetween, IsSubset, Union, Without}
use Rattle.ivl_laws.specs.Runs.{Covers, IsMaximal, IsRunsOf, StartsAfter}
use Rattle.ivl_map.specs.Entries.{FirstStartsAbove, HasAt, HasValue, IsEntryList, IsPast, Outside, SameValues, Written, intervals_of}
use Rattle.ivl_map.specs.Lookups.{IsFirstRunOf}
use Rattle.ivl_map.proofs.Windows.{keys_are}
use Rattle.ivl_calendar.specs.Names.{runs_for}
use Rattle.ivl_calendar.specs.Rooms.{Bookings, IsBusy, IsFor, IsFreed, named_of}
use Rattle.ivl_calendar.proofs.Spans.{itself}

abbrev pub Kept : Type 0
Kept = List ((ℤ × ℤ) × String Global)

-- ---- a name by its text and by its bytes

pub in_bytes : (E : Kept) (z : ℤ) (v : String Global) → HasAt string_eq E z v → HasAt bytes_eq (named_of E) z (string_bytes v)
in_bytes [] z v c = absurd c
in_bytes (e ∷ E) z v (inl b) = inl b
in_bytes (e ∷ E) z v (inr c) = inr (in_bytes E z v c)

pub as_text : (E : Kept) (z : ℤ) (v : String Global) → HasAt bytes_eq (named_of E) z (string_bytes v) → HasAt string_eq E z v
as_text [] z v c = absurd c
as_text (e ∷ E) z v (inl b) = inl b
as_text (e ∷ E) z v (inr c) = inr (as_text E z v c)

pub some_text : (E : Kept) (z : ℤ) (who : List ℕ) → HasAt bytes_eq (named_of E) z who → (v : String Global) × (string_bytes v ≡ who) × HasAt string_eq E z v
some_text [] z who c = absurd c
some_text (e ∷ E) z who (inl b) = (e.1, (bytes_eq-Decides (string_bytes e.1) who).0 b.1, inl (b.0, string_eq_equiv.refl e.1))
some_text (e ∷ E) z who (inr c) = let s = some_text E z who c in (s.0, s.1, inr s.2)

pub value_in_bytes : (E : Kept) (z : ℤ) → HasValue (HasAt string_eq E) z → HasValue (HasAt bytes_eq (named_of E)) z
value_in_bytes E z h = (string_bytes h.0, in_bytes E z h.0 h.1)

pub value_as_text : (E : Kept) (z : ℤ) → HasValue (HasAt bytes_eq (named_of E)) z → HasValue (HasAt string_eq E) z
value_as_text E z h = let s = some_text E z h.0 h.1 in (s.0, s.2)

-- ---- a booking more

pub written_in_bytes : (E D : Kept) (days : ℤ × ℤ) (v : String Global) → SameValues (HasAt string_eq D) (Written string_eq days v (HasAt string_eq E))
    → SameValues (HasAt bytes_eq (named_of D)) (Written bytes_eq days (string_bytes v) (HasAt bytes_eq (named_of E)))
written_in_bytes E D days v h z who = (
  (λ c.
      let s = some_text D z who c in
      subst (λ (t : List ℕ). Written bytes_eq days (string_bytes v) (HasAt bytes_eq (named_of E)) z t) s.1
      (⊎_elim (λ b. inl b) (λ k. inr (in_bytes E z s.0 k.0, k.1)) ((h z s.0).0 s.2))),
  (λ c. ⊎_elim
      (λ b. subst (λ (t : List ℕ). HasAt bytes_eq (named_of D) z t) ((bytes_eq-Decides (string_bytes v) who).0 b.1) (in_bytes D z v ((h z v).1 (inl (b.0, string_eq_equiv.refl v)))))
      (λ k.
      let s = some_text E z who k.0 in
      subst (λ (t : List ℕ). HasAt bytes_eq (named_of D) z t) s.1 (in_bytes D z s.0 ((h z s.0).1 (inr (s.2, k.1)))))
      c),
)

-- all days with a name are dates, also with this booking
pub dates_with : (E D : Kept) (days : ℤ × ℤ) (v : String Global) → SameValues (HasAt string_eq D) (Written string_eq days v (HasAt string_eq E)) → IsSubset (HasValue (HasAt bytes_eq (named_of E))) IsEpochDay → IsEpochDay days.0 → IsEpochDay days.1
    → IsSubset (HasValue (HasAt bytes_eq (named_of D))) IsEpochDay
dates_with E D days v h dates first last z c =
    let s = value_as_text D z c in
    ⊎_elim
    (λ b.
    let low = b.0.0 in
    let high = b.0.1 in
    let f = first.0 in
    let l = last.1 in
    (omega (arith, ints), omega (arith, ints)))
    (λ k. dates z (string_bytes s.0, in_bytes E z s.0 k.0))
    ((h z s.0).0 s.1)

-- ---- days that are freed

pub removed_in_bytes : (E D : Kept) (days : ℤ × ℤ) → SameValues (HasAt string_eq D) (Outside days (HasAt string_eq E)) → SameValues (HasAt bytes_eq (named_of D)) (Outside days (HasAt bytes_eq (named_of E)))
removed_in_bytes E D days h z who = (
  (λ c.
      let s = some_text D z who c in
      let k = (h z s.0).0 s.2 in
      (subst (λ (t : List ℕ). HasAt bytes_eq (named_of E) z t) s.1 (in_bytes E z s.0 k.0), k.1)),
  (λ k.
      let s = some_text E z who k.0 in
      subst (λ (t : List ℕ). HasAt bytes_eq (named_of D) z t) s.1 (in_bytes D z s.0 ((h z s.0).1 (s.2, k.1)))),
)

-- the days that are left are dates
pub dates_without : (E D : Kept) (days : ℤ × ℤ) → SameValues (HasAt string_eq D) (Outside days (HasAt string_eq E)) → IsSubset (HasValue (HasAt bytes_eq (named_of E))) IsEpochDay → IsSubset (HasValue (HasAt bytes_eq (named_of D))) IsEpochDay
dates_without E D days h dates z c =
    let s = value_as_text D z c in
    dates z (string_bytes s.0, in_bytes E z s.0 ((h z s.0).0 s.1).0)

pub dates_of_rest : (L M : List (ℤ × ℤ)) (days : ℤ × ℤ) → IsRunsOf M (Without (Covers L) (IsBetween days)) → IsSubset (Covers L) IsEpochDay → IsSubset (Covers M) IsEpochDay
dates_of_rest L M days is dates z m = dates z ((is.members z).0 m).0

pub dates_of_union : (L M : List (ℤ × ℤ)) (days : ℤ × ℤ) → IsRunsOf M (Union (Covers L) (IsBetween days)) → IsSubset (Covers L) IsEpochDay → IsEpochDay days.0 → IsEpochDay days.1 → IsSubset (Covers M) IsEpochDay
dates_of_union L M days is dates first last z m =
    ⊎_elim
    (λ c. dates z c)
    (λ b.
    let low = b.0 in
    let high = b.1 in
    let f = first.0 in
    let l = last.1 in
    (omega (arith, ints), omega (arith, ints)))
    ((is.members z).0 m)

-- none of the days has no name, or none has one
pub freed_named : (old new : Bookings) (days : ℤ × ℤ) → IsMaximal old.0 → HasNone (Intersection (Covers old.0) (IsBetween days)) → SameValues (IsFor new) (Outside days (IsFor old)) × (new.0 ≡ old.0) → IsFreed days old new
freed_named old new days maximal none h = (
  subst (λ (L : List (ℤ × ℤ)). IsRunsOf L (Without (Covers old.0) (IsBetween days))) (sym h.1) (record { maximal = maximal; members = λ z. ((λ m. (m, λ b. none z (m, b))), (λ k. k.0)) }),
  h.0,
)

pub freed_unnamed : (old new : Bookings) (days : ℤ × ℤ) → HasNone (Intersection (IsBetween days) (HasValue (IsFor old))) → IsRunsOf new.0 (Without (Covers old.0) (IsBetween days)) × (new.1 ≡ old.1) → IsFreed days old new
freed_unnamed old new days none h = (
  h.0,
  subst (λ (B : List ((ℤ × ℤ) × List ℕ)). SameValues (HasAt bytes_eq B) (Outside days (IsFor old))) (sym h.1) (λ z who. ((λ k. (k, λ b. none z (b, (who, k)))), (λ k. k.0))),
)

-- ---- the first booking that is in the way

-- the run of the first day with a name from the first of these days on
module _ (E : Kept) (days run : ℤ × ℤ) (v : String Global) (from : ℤ) (is : from ≡ days.0) (first : IsFirstRunOf string_eq (AtLeast from (HasValue (HasAt string_eq E))) (HasAt string_eq E) (run, v)) where
  pub met_first : days.0 ≤ℤ days.1 → run.0 ≤ℤ days.1 → IsFirstRunOf bytes_eq (Intersection (IsBetween days) (HasValue (HasAt bytes_eq (named_of E)))) (HasAt bytes_eq (named_of E)) (run, string_bytes v)
  met_first order low =
      let at = first.at in
      let least = first.least in
      let on = first.run.holds in
      let from_low = least.0.1 in
      let below : at ≤ℤ days.1 = by_lt_z days.1 at (λ l.
      let inside = first.run.inside days.1 (low, omega (arith, ints, l, on.1)) in
      let up = least.1 days.1 ((v, inside), omega (arith, ints, order, is)) in
      omega (arith, ints)) (λ l. l) in
      record {
        at = at;
        least = (
          ((omega (arith, ints, from_low, is), below), value_in_bytes E at least.0.0),
          λ y m. least.1 y (value_as_text E y m.1, let y_low = m.0.0 in omega (arith, ints, y_low, is)),
        );
        run = record {
          holds = first.run.holds;
          inside = λ y b. in_bytes E y v (first.run.inside y b);
          differs_below = λ c. first.run.differs_below (as_text E _ v c);
          differs_above = λ c. first.run.differs_above (as_text E _ v c);
        };
      }

  pub met_later : days.1 <ℤ run.0 → HasNone (Intersection (IsBetween days) (HasValue (HasAt bytes_eq (named_of E))))
  met_later high y m =
      let up = first.least.1 y (value_as_text E y m.1, let y_low = m.0.0 in omega (arith, ints, y_low, is)) in
      let on = first.run.holds.0 in
      let y_high = m.0.1 in
      omega (arith, ints)

pub met_none : (E : Kept) (days : ℤ × ℤ) (from : ℤ) → from ≡ days.0 → HasNone (AtLeast from (HasValue (HasAt string_eq E))) → HasNone (Intersection (IsBetween days) (HasValue (HasAt bytes_eq (named_of E))))
met_none E days from is none y m = none y (value_as_text E y m.1, let y_low = m.0.0 in omega (arith, ints, y_low, is))

-- the days of a run of a name are dates
pub run_of_dates : (E : Kept) (run : ℤ × ℤ) (v : String Global) → ((y : ℤ) → IsBetween run y → HasAt string_eq E y v) → IsSubset (HasValue (HasAt bytes_eq (named_of E))) IsEpochDay → IsSubset (IsBetween run) IsEpochDay
run_of_dates E run v inside dates y b = dates y (string_bytes v, in_bytes E y v (inside y b))

-- ---- the days of one name

pub entries_in_bytes : (E : Kept) → IsEntryList string_eq E → IsEntryList bytes_eq (named_of E)
entries_in_bytes [] m = tt
entries_in_bytes (e ∷ []) m = (m.0, tt, tt)
entries_in_bytes (e ∷ f ∷ E) m = (m.0, m.1, entries_in_bytes (f ∷ E) m.2)

abbrev Seen : Type 0
Seen = List ((ℤ × ℤ) × List ℕ)

starts_weaker : (u w : ℤ) (L : List (ℤ × ℤ)) → u ≤ℤ w → StartsAfter w L → StartsAfter u L
starts_weaker u w [] le h = tt
starts_weaker u w (p ∷ L) le h = omega (arith, ints, le, h)

above_past : (e : (ℤ × ℤ) × List ℕ) (B : Seen) → IsPast bytes_eq e B → FirstStartsAbove e.0.1 B
above_past e [] h = tt
above_past e (f ∷ B) h = h.0

above_weaker : (u w : ℤ) (B : Seen) → u ≤ℤ w → FirstStartsAbove w B → FirstStartsAbove u B
above_weaker u w [] le h = tt
above_weaker u w (e ∷ B) le h = omega (arith, ints, le, h)

module _ (who : List ℕ) where
  starts_above : (u : ℤ) (B : Seen) → IsEntryList bytes_eq B → FirstStartsAbove u B → StartsAfter (u -ℤ pos 1) (runs_for who B)
  starts_above u [] m h = tt
  starts_above u (e ∷ B) m h = elim (cases_Bool (bytes_eq e.1 who)) [
    | inl here ↦ rw (here) (omega (arith, ints, h))
    | inr other ↦ rw (other) (starts_above u B m.2 (above_weaker u e.0.1 B (omega (arith, ints, h, m.0)) (above_past e B m.1)))
  ]

  starts_apart : (e : (ℤ × ℤ) × List ℕ) (B : Seen) → IsPast bytes_eq e B → IsEntryList bytes_eq B → bytes_eq e.1 who ≡ true → StartsAfter e.0.1 (runs_for who B)
  starts_apart e [] past m is = tt
  starts_apart e (f ∷ B) past m is = elim (cases_Bool (bytes_eq f.1 who)) [
    | inl here ↦
        let same : e.1 ≡ f.1 = (bytes_eq-Decides e.1 who).0 is ∙ sym ((bytes_eq-Decides f.1 who).0 here) in
        let equal : bytes_eq e.1 f.1 ≡ true = (bytes_eq-Decides e.1 f.1).1 same in
        let apart : (e.0.1 +ℤ pos 2) ≤ℤ f.0.0 = by_lt_z (e.0.1 +ℤ pos 1) f.0.0 (λ l. omega (arith, ints, l)) (λ l.
        let differ = past.1 (omega (arith, ints, l, past.0)) in
        let never = rw equal at differ in
        absurd cc) in
        rw (here) apart
    | inr other ↦ rw (other) (starts_weaker e.0.1 (f.0.1 -ℤ pos 1) (runs_for who B) (omega (arith, ints, past.0, m.0)) (starts_above f.0.1 B m.2 (above_past f B m.1)))
  ]

  runs_maximal : (B : Seen) → IsEntryList bytes_eq B → IsMaximal (runs_for who B)
  runs_maximal [] m = tt
  runs_maximal (e ∷ B) m = elim (cases_Bool (bytes_eq e.1 who)) [
    | inl here ↦ rw (here) (m.0, starts_apart e B m.1 m.2 here, runs_maximal B m.2)
    | inr other ↦ rw (other) (runs_maximal B m.2)
  ]

  runs_cover : (B : Seen) (z : ℤ) → Covers (runs_for who B) z → HasAt bytes_eq B z who
  runs_cover [] z = λ c. absurd c
  runs_cover (e ∷ B) z = elim (cases_Bool (bytes_eq e.1 who)) [
    | inl here ↦ rw (here) (⊎_elim (λ b. inl (b, refl)) (λ c. inr (runs_cover B z c)))
    | inr other ↦ rw (other) (λ c. inr (runs_cover B z c))
  ]

  covered : (B : Seen) (z : ℤ) → HasAt bytes_eq B z who → Covers (runs_for who B) z
  covered [] z = λ c. absurd c
  covered (e ∷ B) z = elim (cases_Bool (bytes_eq e.1 who)) [
    | inl here ↦ rw (here) (⊎_elim (λ b. inl b.0) (λ c. inr (covered B z c)))
    | inr other ↦ rw (other) (⊎_elim (λ b. let never = b.1 in absurd cc) (λ c. covered B z c))
  ]

  pub runs_are : (E : Kept) → IsEntryList string_eq E → IsRunsOf (runs_for who (named_of E)) (λ z. HasAt bytes_eq (named_of E) z who)
  runs_are E m =
      let B = named_of E in
      record { maximal = runs_maximal B (entries_in_bytes E m); members = λ z. (runs_cover B z, covered B z) }

-- ---- busy days of a window

-- the days without a name are taken, and those with one that the window has
pub busy_taken : (all free new unnamed : List (ℤ × ℤ)) (E W : Kept) (window : ℤ × ℤ) → IsSubset (Covers all) (IsBetween window) → IsRunsOf free (Without (Covers all) (Covers unnamed)) → IsRunsOf new (Without (Covers free) (Covers (intervals_of W)))
    → ((z : ℤ) (v : String Global) → IsBetween window z → HasAt string_eq W z v ↔ HasAt string_eq E z v) → ((z : ℤ) (v : String Global) → HasAt string_eq W z v → HasAt string_eq E z v) → IsRunsOf new (Without (Covers all) (IsBusy (unnamed, named_of E)))
busy_taken all free new unnamed E W window within h k held part =
    record {
      maximal = k.maximal;
      members = λ z. (
        (λ m.
            let w = (k.members z).0 m in
            let a = (h.members z).0 w.0 in
            (a.0, λ busy. ⊎_elim a.1 (λ named. let t = value_as_text E z named in w.1 ((keys_are string_eq string_eq_equiv W z).1 (t.0, (held z t.0 (within z a.0)).1 t.1))) busy)),
        (λ m. (k.members z).1 (
          (h.members z).1 (m.0, λ c. m.1 (inl c)),
          λ c. let t = (keys_are string_eq string_eq_equiv W z).0 c in m.1 (inr (value_in_bytes E z (t.0, part z t.0 t.1))),
        )),
      );
    }

-- ---- the first booking of a list, and the later ones

module _ (left later : Kept) (booking : (ℤ × ℤ) × String Global) (is : left ≡ booking ∷ later) where
  pub first_dates : IsSubset (HasValue (HasAt string_eq left)) IsEpochDay → IsSubset (IsBetween booking.0) IsEpochDay
  first_dates h z b =
      let all : IsSubset (HasValue (HasAt string_eq (booking ∷ later))) IsEpochDay = subst (λ (L : Kept). IsSubset (HasValue (HasAt string_eq L)) IsEpochDay) is h in
      all z (booking.1, inl (b, string_eq_equiv.refl booking.1))

  pub first_span : IsEntryList string_eq left → IsSubset (HasValue (HasAt string_eq left)) IsEpochDay → (booking.0.0 ≤ℤ booking.0.1) × IsEpochDay booking.0.0 × IsEpochDay booking.0.1
  first_span m h =
      let all : IsEntryList string_eq (booking ∷ later) = subst (λ (L : Kept). IsEntryList string_eq L) is m in
      let order : booking.0.0 ≤ℤ booking.0.1 = all.0 in
      let dates = first_dates h in
      (order, dates booking.0.0 (itself booking.0.0, order), dates booking.0.1 (order, itself booking.0.1))

  pub later_dates : IsSubset (HasValue (HasAt string_eq left)) IsEpochDay → IsSubset (HasValue (HasAt string_eq later)) IsEpochDay
  later_dates h z v =
      let all : IsSubset (HasValue (HasAt string_eq (booking ∷ later))) IsEpochDay = subst (λ (L : Kept). IsSubset (HasValue (HasAt string_eq L)) IsEpochDay) is h in
      all z (v.0, inr v.1)

  pub later_entries : IsEntryList string_eq left → IsEntryList string_eq later
  later_entries m = let all : IsEntryList string_eq (booking ∷ later) = subst (λ (L : Kept). IsEntryList string_eq L) is m in all.2

-- ---- one day

pub for_on : (E : Kept) (at day : ℤ) (v : String Global) → at ≡ day → HasAt string_eq E at v → HasAt bytes_eq (named_of E) day (string_bytes v)
for_on E at day v is h = in_bytes E day v (subst (λ (z : ℤ). HasAt string_eq E z v) is h)

pub nobody_on : (E : Kept) (at day : ℤ) → at ≡ day → ((v : String Global) → ¬ (HasAt string_eq E at v)) → (who : List ℕ) → ¬ (HasAt bytes_eq (named_of E) day who)
nobody_on E at day is none who h = let s = some_text E day who h in none s.0 (subst (λ (z : ℤ). HasAt string_eq E z s.0) (sym is) s.2)

pub kept_dates : (E L : Kept) → L ≡ E → IsSubset (HasValue (HasAt bytes_eq (named_of E))) IsEpochDay → IsSubset (HasValue (HasAt string_eq L)) IsEpochDay
kept_dates E L is dates z h = dates z (value_in_bytes E z (subst (λ (K : Kept). HasValue (HasAt string_eq K) z) is h))

-- ---- a run that has a day

pub run_order : (run : ℤ × ℤ) (z : ℤ) → IsBetween run z → run.0 ≤ℤ run.1
run_order run z b = omega (arith, ints, b.0, b.1)

pub run_ends : (run : ℤ × ℤ) (z : ℤ) → IsBetween run z → IsSubset (IsBetween run) IsEpochDay → IsEpochDay run.0 × IsEpochDay run.1
run_ends run z b dates = (dates run.0 (itself run.0, run_order run z b), dates run.1 (run_order run z b, itself run.1))

-- The map of the rooms, and the list of the rooms that a contract sees.
use Rattle.std.proofs.Common.{◌≡◌, ℕ, ℤ, Bool, true, false, List, [], ◌∷◌, ◌++◌, Option, None, Some, map, refl, sym, ap, ◌∙◌, inl, inr, subst}
use Rattle.std.specs.Prelude.{String, string_bytes, bytes_eq, IsTrue, IsSome, ◌↔◌}
use Rattle.std.specs.BTreeMap.{BTreeMap, get_by, insert_entry, is_at}
use Rattle.std.specs.Cmp.Lexicographic.{slice_cmp}
use Rattle.std.specs.Global.{Global}
use Rattle.std.specs.Map.{lookup, set_value}
use Rattle.std.specs.Ordering.{nat_cmp}
use Rattle.std.specs.String.{string_cmp}
use Rattle.std.specs.declared.cmp.Ordering.{Ordering}
use Rattle.std.specs.declared.cmp.Ordering.TheVariants.{Less, Equal, Greater}
use Rattle.std.proofs.lemmas.Bool.{cases_Bool}
use Rattle.std.proofs.lemmas.Map.Steps.{set_value_same}
use Rattle.std.proofs.lemmas.Map.Text.{is_eq-slice_cmp}
use Rattle.ivl_laws.specs.Sets.{HasNone, Intersection, IsBetween}
use Rattle.ivl_calendar.specs.Rooms.{Bookings, Books, Cancels, IsAdded, IsBookedFor, IsBusy, IsFreed, Rooms, busy_of, rooms_of}

abbrev Entries : Type 0
Entries = List (String Global × Bookings)

abbrev entry_of : String Global × Bookings → List ℕ × Bookings
entry_of e = (string_bytes e.0, e.1)

-- how the map compares a name to a key
abbrev pub compares : List ℕ → String Global → Ordering
compares name key = slice_cmp nat_cmp name (string_bytes key)

lookup_entries : (name : List ℕ) (es : Entries) → lookup (is_at (compares name)) es ≡ lookup (λ known. bytes_eq name known) (map entry_of es)
lookup_entries name [] = refl
lookup_entries name (e ∷ es) = rw (is_eq-slice_cmp name (string_bytes e.0), lookup_entries name es) refl

pub looked_up : (m : BTreeMap (String Global) Bookings) (rooms : Rooms) (name : List ℕ) → rooms_of m ≡ rooms → get_by (compares name) m ≡ busy_of rooms name
looked_up m rooms name is = lookup_entries name m.entries ∙ ap (λ (all : Rooms). busy_of all name) is

set_entries : (name : List ℕ) (es : Entries) (w : Bookings) → map entry_of (set_value (is_at (compares name)) es w) ≡ set_value (λ known. bytes_eq name known) (map entry_of es) w
set_entries name [] w = refl
set_entries name (e ∷ es) w =
    rw (is_eq-slice_cmp name (string_bytes e.0)) (
    elim (cases_Bool (bytes_eq name (string_bytes e.0))) [
      | inl here ↦ rw (here) refl
      | inr other ↦ rw (other, set_entries name es w) refl
    ]
    )

-- what is written at a name
pub written : (m n : BTreeMap (String Global) Bookings) (rooms : Rooms) (name : List ℕ) (w : Bookings) → rooms_of m ≡ rooms → n.entries ≡ set_value (is_at (compares name)) m.entries w → rooms_of n ≡ set_value (λ known. bytes_eq name known) rooms w
written m n rooms name w is entries =
    ap (λ (es : Entries). map entry_of es) entries ∙ set_entries name m.entries w ∙ ap (λ (all : Rooms). set_value (λ known. bytes_eq name known) all w) is

-- what was there, written again
pub unwritten : (m n : BTreeMap (String Global) Bookings) (rooms : Rooms) (name : List ℕ) (w : Bookings) → rooms_of m ≡ rooms → get_by (compares name) m ≡ Some w → n.entries ≡ set_value (is_at (compares name)) m.entries w → rooms_of n ≡ rooms
unwritten m n rooms name w is found entries =
    ap (λ (es : Entries). map entry_of es) (entries ∙ set_value_same (is_at (compares name)) m.entries w found) ∙ is

-- the new entry stands among the others
abbrev IsPut : String Global → Bookings → Entries → Type 0
IsPut key v es = (front back : Rooms) × (map entry_of es ≡ front ++ back) × (map entry_of (insert_entry string_cmp es key v) ≡ front ++ (string_bytes key, v) ∷ back)

-- where the key comes before, at or after that of the first entry
inserted_by : (key : String Global) (v : Bookings) (e : String Global × Bookings) (es : Entries) → (lookup (is_at (string_cmp key)) es ≡ None → IsPut key v es) → (o : Ordering) → string_cmp key e.0 ≡ o → lookup (is_at (string_cmp key)) (e ∷ es) ≡ None → IsPut key v (e ∷ es)
inserted_by key v e es rest Less is none = ([], map entry_of (e ∷ es), refl, rw is refl)
inserted_by key v e es rest Equal is none = let never = rw is at none in cc
inserted_by key v e es rest Greater is none =
    let h = rest (rw is at none) in
    (entry_of e ∷ h.0, h.1, ap (λ (more : Rooms). entry_of e ∷ more) h.2, rw is (ap (λ (more : Rooms). entry_of e ∷ more) h.3))

inserted : (key : String Global) (v : Bookings) (es : Entries) → lookup (is_at (string_cmp key)) es ≡ None → IsPut key v es
inserted key v [] none = ([], [], refl, refl)
inserted key v (e ∷ es) none = inserted_by key v e es (inserted key v es) (string_cmp key e.0) refl none

pub added : (m n : BTreeMap (String Global) Bookings) (rooms : Rooms) (name : List ℕ) (key : String Global) (v : Bookings) → rooms_of m ≡ rooms → string_bytes key ≡ name → v ≡ ([], []) → busy_of rooms name ≡ None → n.entries ≡ insert_entry string_cmp m.entries key v → IsAdded name rooms (rooms_of n)
added m n rooms name key v is is_name is_free none entries =
    let absent : lookup (is_at (string_cmp key)) m.entries ≡ None = lookup_entries (string_bytes key) m.entries ∙ ap (λ (all : Rooms). busy_of all (string_bytes key)) is ∙ ap (λ (t : List ℕ). busy_of rooms t) is_name ∙ none in
    let h = inserted key v m.entries absent in
    let parts : (string_bytes key, v) ≡ (name, ([], [])) = rw (is_name, is_free) refl in
    (h.0, h.1, sym is ∙ h.2, ap (λ (es : Entries). map entry_of es) entries ∙ h.3 ∙ ap (λ (room : List ℕ × Bookings). h.0 ++ room ∷ h.1) parts)

-- what a booking of the room leaves
pub booked : (done : Bool) (m n : BTreeMap (String Global) Bookings) (rooms : Rooms) (name : List ℕ) (days : ℤ × ℤ) (who : Option (List ℕ)) (busy w : Bookings) → rooms_of m ≡ rooms → get_by (compares name) m ≡ Some busy
    → n.entries ≡ set_value (is_at (compares name)) m.entries w
    → (IsTrue done → IsBookedFor days who busy w)
    → (IsTrue done ↔ HasNone (Intersection (IsBusy busy) (IsBetween days)))
    → (¬ (IsTrue done) → w ≡ busy)
    → (old : Bookings) × (busy_of rooms name ≡ Some old) × Books done name old days who rooms (rooms_of n)
booked true m n rooms name days who busy w is found entries runs unless kept =
    (busy, sym (looked_up m rooms name is) ∙ found, (unless.0 refl, (w, runs refl, written m n rooms name w is entries)))
booked false m n rooms name days who busy w is found entries runs unless kept =
    let same : w ≡ busy = kept (λ e. cc) in
    let put : n.entries ≡ set_value (is_at (compares name)) m.entries busy = subst (λ (v : Bookings). n.entries ≡ set_value (is_at (compares name)) m.entries v) same entries in
    (busy, sym (looked_up m rooms name is) ∙ found, ((λ none. let e = unless.1 none in cc), unwritten m n rooms name busy is found put))

-- what a cancellation leaves of the room
pub cancelled : (done : Bool) (m n : BTreeMap (String Global) Bookings) (rooms : Rooms) (name : List ℕ) (days : ℤ × ℤ) (busy w : Bookings) → rooms_of m ≡ rooms → get_by (compares name) m ≡ Some busy
    → n.entries ≡ set_value (is_at (compares name)) m.entries w
    → (IsTrue done → IsFreed days busy w)
    → ((¬ (IsTrue done)) ↔ HasNone (Intersection (IsBusy busy) (IsBetween days)))
    → (¬ (IsTrue done) → w ≡ busy)
    → (old : Bookings) × (busy_of rooms name ≡ Some old) × Cancels done name old days rooms (rooms_of n)
cancelled true m n rooms name days busy w is found entries freed free kept =
    (busy, sym (looked_up m rooms name is) ∙ found, ((λ none. free.1 none refl), (w, freed refl, written m n rooms name w is entries)))
cancelled false m n rooms name days busy w is found entries freed free kept =
    let same : w ≡ busy = kept (λ e. cc) in
    let put : n.entries ≡ set_value (is_at (compares name)) m.entries busy = subst (λ (v : Bookings). n.entries ≡ set_value (is_at (compares name)) m.entries v) same entries in
    (busy, sym (looked_up m rooms name is) ∙ found, (free.0 (λ e. cc), unwritten m n rooms name busy is found put))

-- what is left where memory ran out
pub unbooked : (m n : BTreeMap (String Global) Bookings) (rooms : Rooms) (name : List ℕ) (busy w : Bookings) → rooms_of m ≡ rooms → get_by (compares name) m ≡ Some busy
    → n.entries ≡ set_value (is_at (compares name)) m.entries w → w ≡ busy → IsSome (busy_of rooms name) × (rooms_of n ≡ rooms)
unbooked m n rooms name busy w is found entries same =
    let put : n.entries ≡ set_value (is_at (compares name)) m.entries busy = subst (λ (v : Bookings). n.entries ≡ set_value (is_at (compares name)) m.entries v) same entries in
    let there : busy_of rooms name ≡ Some busy = sym (looked_up m rooms name is) ∙ found in
    (rw there refl, unwritten m n rooms name busy is found put)

-- where no room has the name
pub none_there : (m n : BTreeMap (String Global) Bookings) (rooms : Rooms) (name : List ℕ) → rooms_of m ≡ rooms → get_by (compares name) m ≡ None → n ≡ m → (busy_of rooms name ≡ None) × (rooms_of n ≡ rooms)
none_there m n rooms name is found same = (sym (looked_up m rooms name is) ∙ found, ap (λ (all : BTreeMap (String Global) Bookings). rooms_of all) same ∙ is)

-- The days on which some rooms are free, one room after the other.
use Rattle.std.proofs.Common.{ℕ, ℤ, List, [], ◌∷◌, ◌++◌, map}
use Rattle.std.specs.Prelude.{All, String, string_bytes}
use Rattle.std.specs.BTreeMap.{BTreeMap, values}
use Rattle.std.specs.Global.{Global}
use Rattle.std.proofs.lemmas.List.Elements.{All-nil, All-cons, All-head, All-tail, All-map, All-push}
use Rattle.ivl_laws.specs.Sets.{IsBetween, Without}
use Rattle.ivl_laws.specs.Runs.{Covers, IsRunsOf}
use Rattle.ivl_calendar.specs.Rooms.{Bookings, IsBusy, IsFreeInAll, rooms_of}

-- no room is busy, of rooms with these busy days
abbrev pub IsFreeOf : List Bookings → ℤ × ℤ → ℤ → Type 0
IsFreeOf rooms window z = IsBetween window z × All (λ busy. ¬ (IsBusy busy z)) rooms

all_of_first : {X : Type 0} (P : X → Type 0) (xs : List X) (x : X) → All P (xs ++ x ∷ []) → All P xs
all_of_first P [] x h = All-nil P
all_of_first P (y ∷ xs) x h = All-cons P y xs (All-head P y (xs ++ x ∷ []) h) (all_of_first P xs x (All-tail P y (xs ++ x ∷ []) h))

of_last : {X : Type 0} (P : X → Type 0) (xs : List X) (x : X) → All P (xs ++ x ∷ []) → P x
of_last P [] x h = All-head P x [] h
of_last P (y ∷ xs) x h = of_last P xs x (All-tail P y (xs ++ x ∷ []) h)

-- no room yet
pub free_first : (free : List (ℤ × ℤ)) (window : ℤ × ℤ) → IsRunsOf free (IsBetween window) → IsRunsOf free (IsFreeOf [] window)
free_first free window h =
    record {
      maximal = h.maximal;
      members = λ z. ((λ m. ((h.members z).0 m, All-nil (λ busy. ¬ (IsBusy busy z)))), (λ m. (h.members z).1 m.0));
    }

-- one room more
pub free_more : (done : List Bookings) (busy : Bookings) (free new : List (ℤ × ℤ)) (window : ℤ × ℤ) → IsRunsOf free (IsFreeOf done window) → IsRunsOf new (Without (Covers free) (IsBusy busy)) → IsRunsOf new (IsFreeOf (done ++ busy ∷ []) window)
free_more done busy free new window h k =
    record {
      maximal = k.maximal;
      members = λ z.
          let P : Bookings → Type 0 = λ room. ¬ (IsBusy room z) in (
            (λ m. let left = (k.members z).0 m in let all = (h.members z).0 left.0 in (all.0, All-push P done busy all.1 left.1)),
            (λ m. (k.members z).1 ((h.members z).1 (m.0, all_of_first P done busy m.1), of_last P done busy m.1)),
          );
    }

unmap : {X Y : Type 0} (P : X → Type 0) (f : Y → X) (ys : List Y) → All P (map f ys) → All (λ y. P (f y)) ys
unmap P f [] h = All-nil (λ x. P (f x))
unmap P f (y ∷ ys) h = All-cons (λ x. P (f x)) y ys (All-head P (f y) (map f ys) h) (unmap P f ys (All-tail P (f y) (map f ys) h))

abbrev entry_of : String Global × Bookings → List ℕ × Bookings
entry_of e = (string_bytes e.0, e.1)

-- the busy days alone, and beside the names
pub free_of_map : (m : BTreeMap (String Global) Bookings) (free : List (ℤ × ℤ)) (window : ℤ × ℤ) → IsRunsOf free (IsFreeOf (values m) window) → IsRunsOf free (IsFreeInAll (rooms_of m) window)
free_of_map m free window h =
    record {
      maximal = h.maximal;
      members = λ z.
          let P : Bookings → Type 0 = λ room. ¬ (IsBusy room z) in (
            (λ c. let all = (h.members z).0 c in (all.0, All-map (λ (room : List ℕ × Bookings). P room.1) entry_of m.entries (unmap P (λ (e : String Global × Bookings). e.1) m.entries all.1))),
            (λ c. (h.members z).1 (c.0, All-map P (λ (e : String Global × Bookings). e.1) m.entries (unmap (λ (room : List ℕ × Bookings). P room.1) entry_of m.entries c.1))),
          );
    }

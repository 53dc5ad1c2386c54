use Rattle.std.proofs.Common.{◌≡◌, ℤ, List, [], ◌∷◌, ◌++◌, ◌∙◌, sym, ap, append_assoc, subst, append-nil}
use Rattle.std.specs.BTreeMap.{values}
use Rattle.std.proofs.lemmas.Result.{IfOk-weaker}
use Rattle.ivl_laws.specs.Runs.{IsRunsOf}
use Rattle.ivl_calendar.specs.Rooms.{Bookings, IsFreeInAll, rooms_of}
use Rattle.ivl_calendar.proofs.Free.{IsFreeOf, free_first, free_more, free_of_map}
use Rattle.ivl_calendar.proofs.rooms.free_in_all.Goals as goal

-- the room at hand is the first of those that are left
next_room : (done left rest all : List Bookings) (busy : Bookings) → left ≡ busy ∷ rest → done ++ left ≡ all → (done ++ busy ∷ []) ++ rest ≡ all
next_room done left rest all busy is h = append_assoc done (busy ∷ []) rest ∙ ap (λ (more : List Bookings). done ++ more) (sym is) ∙ h

no_room : (done left all : List Bookings) → left ≡ [] → done ++ left ≡ all → done ≡ all
no_room done left all is h = sym (append-nil done) ∙ ap (λ (more : List Bookings). done ++ more) (sym is) ∙ h

pub loop-room-init : goal.loop-room-init
loop-room-init c = ([], c.into_iter-room-iterator.ensures.into_iter_gives ∙ c.values-room-items.ensures.rest, free_first c.in_ok-free.free c.args.window c.in_ok-free.ensures)

pub take_busy-requires : goal.take_busy-requires
take_busy-requires c = λ z m. ((c.loop-room.invariant.2.members z).0 m).0

pub loop-room-preserved : goal.loop-room-preserved
loop-room-preserved c =
    let h = c.loop-room.invariant in
    (h.0 ++ c.in-Some.room.now ∷ [], next_room h.0 c.loop-room.room-iterator c.next.new.self (values c.args.rooms.now) c.in-Some.room.now c.in-Some.ensures.steps h.1, free_more h.0 c.in-Some.room.now c.loop-room.free c.take_busy.new.free c.args.window h.2 c.in_ok-take_busy.ensures)

pub returns : goal.returns
returns c =
    let h = c.loop-room.invariant in
    let all : h.0 ≡ values c.args.rooms.now = no_room h.0 c.loop-room.room-iterator (values c.args.rooms.now) c.in-None.ensures.steps.0 h.1 in
    let free = free_of_map c.args.rooms.now c.loop-room.free c.args.window (subst (λ (done : List Bookings). IsRunsOf c.loop-room.free (IsFreeOf done c.args.window)) all h.2) in
    IfOk-weaker c.to_set.result _ _ (λ L is. subst (λ (runs : List (ℤ × ℤ)). IsRunsOf runs (IsFreeInAll (rooms_of c.args.rooms.now) c.args.window)) (sym is) free) c.to_set.ensures

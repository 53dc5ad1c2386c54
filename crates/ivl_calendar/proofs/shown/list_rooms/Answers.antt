use Rattle.std.proofs.Common.{◌≡◌, ◌∙◌, ◌++◌, ap, map, sym, subst, true, ℕ, List}
use Rattle.std.specs.Prelude.{String}
use Rattle.std.specs.Global.{Global}
use Rattle.std.specs.Io.KnownBytes.{Appends}
use Rattle.ivl_lines.specs.Escapes.{escaped}
use Rattle.ivl_calendar.specs.Rooms.{Bookings, Rooms, rooms_of}
use Rattle.ivl_calendar.proofs.Bookings.{LeavesNames, comma_of, names_all, names_begun, names_more, none_all}
use Rattle.ivl_calendar.proofs.Listing.{seen_room}
use Rattle.ivl_calendar.proofs.shown.list_rooms.Goals as goal

pub loop-name-init : goal.loop-name-init
loop-name-init g c =
    let out = g.W.Write.contents c.args.writer.now in
    let all = rooms_of c.args.rooms.now in
    let is : map seen_room c.into_iter-name-iterator.result ≡ all = ap (λ (left : List (String Global × Bookings)). map seen_room left) (c.into_iter-name-iterator.ensures.into_iter_gives ∙ c.iter-name-items.ensures.rest) in
    subst (λ (left : Rooms). LeavesNames all out left true out) (sym is) (names_begun all out)

pub loop-name-preserved : goal.loop-name-preserved
loop-name-preserved g c =
    let one = subst (λ (name : List ℕ). Appends (g.W.Write.contents c.loop-name.writer) (g.W.Write.contents c.write_name.new.writer) (comma_of c.loop-name.is_first ++ escaped name)) c.deref.ensures c.in_ok-write_name.ensures in
    names_more (rooms_of c.args.rooms.now) _ (map seen_room c.loop-name.name-iterator) c.loop-name.is_first _ _ (map seen_room c.next.new.self) _
    c.loop-name.invariant (ap (λ (left : List (String Global × Bookings)). map seen_room left) c.in-Some.ensures.steps) one

pub returns-clause-text : goal.returns-clause-text
returns-clause-text g c = names_all (rooms_of c.args.rooms.now) _ (map seen_room c.loop-name.name-iterator) c.loop-name.is_first _ c.loop-name.invariant
    (ap (λ (left : List (String Global × Bookings)). map seen_room left) c.in-None.ensures.steps.0)

pub returns-clause-none : goal.returns-clause-none
returns-clause-none g c = none_all (rooms_of c.args.rooms.now) _ (map seen_room c.loop-name.name-iterator) c.loop-name.is_first _ c.loop-name.invariant
    (ap (λ (left : List (String Global × Bookings)). map seen_room left) c.in-None.ensures.steps.0)

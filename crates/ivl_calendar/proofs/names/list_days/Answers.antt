use Rattle.std.proofs.Common.{◌≡◌, ◌∙◌, ap, map, sym, subst, true, ℕ, ℤ, List}
use Rattle.std.specs.Prelude.{String, bytes_eq, string_bytes}
use Rattle.std.specs.Global.{Global}
use Rattle.std.specs.Io.KnownBytes.{Appends}
use Rattle.ivl_laws.specs.Runs.{IsRunsOf}
use Rattle.ivl_map.specs.Entries.{HasAt}
use Rattle.ivl_calendar.specs.Names.{AreDaysText, runs_for}
use Rattle.ivl_calendar.specs.Rooms.{Bookings, Rooms, named_of, rooms_of}
use Rattle.ivl_calendar.proofs.Listing.{LeavesRooms, rooms_all, rooms_begun, rooms_more, seen_room}
use Rattle.ivl_calendar.proofs.Named.{runs_are}
use Rattle.ivl_calendar.proofs.names.list_days.Goals as goal

pub loop-name-init : goal.loop-name-init
loop-name-init g c =
    let out = g.W.Write.contents c.args.writer.now in
    let all = rooms_of c.args.rooms.now in
    let is : map seen_room c.into_iter-name-iterator.result ≡ all = ap (λ (left : List (String Global × Bookings)). map seen_room left) (c.into_iter-name-iterator.ensures.into_iter_gives ∙ c.iter-name-items.ensures.rest) in
    subst (λ (left : Rooms). LeavesRooms c.args.who.now all out left true out) (sym is) (rooms_begun c.args.who.now all out)

pub loop-name-preserved : goal.loop-name-preserved
loop-name-preserved g c =
    let runs = runs_for c.args.who.now (named_of c.named.result.now) in
    let of_room = subst (λ (bookings : List ((ℤ × ℤ) × List ℕ)). IsRunsOf runs (λ z. HasAt bytes_eq bookings z c.args.who.now)) c.named.ensures.same (runs_are c.args.who.now c.named.result.now c.named.ensures.entries) in
    let text = subst (λ (name : List ℕ). (text : List ℕ) × AreDaysText c.loop-name.is_first name runs text × Appends (g.W.Write.contents c.loop-name.writer) (g.W.Write.contents c.write_days_in.new.writer) text) c.deref.ensures c.in_ok-is_first.ensures.text in
    rooms_more c.args.who.now (rooms_of c.args.rooms.now) _ (map seen_room c.loop-name.name-iterator) c.loop-name.is_first _ (string_bytes c.in-Some.name.now, c.in-Some.room.now) (map seen_room c.next.new.self) c.in_ok-is_first.is_first _ runs
    c.loop-name.invariant (ap (λ (left : List (String Global × Bookings)). map seen_room left) c.in-Some.ensures.steps) of_room text c.in_ok-is_first.ensures.first

pub returns : goal.returns
returns g c =
    rooms_all c.args.who.now (rooms_of c.args.rooms.now) _ (map seen_room c.loop-name.name-iterator) c.loop-name.is_first _ c.loop-name.invariant
    (ap (λ (left : List (String Global × Bookings)). map seen_room left) c.in-None.ensures.steps.0)

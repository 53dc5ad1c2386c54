use Rattle.std.proofs.Common.{List, ap, subst, sym}
use Rattle.std.specs.Prelude.{bytes_eq}
use Rattle.std.proofs.lemmas.Result.{on_ok_weaker}
use Rattle.jiff.specs.Words.{IsEpochDay}
use Rattle.ivl_laws.specs.Sets.{IsSubset}
use Rattle.ivl_map.specs.Entries.{HasAt, HasValue, Outside, SameValues}
use Rattle.ivl_map.proofs.Kept.{either_way}
use Rattle.ivl_calendar.specs.Rooms.{Bookings, IsFor, named_of}
use Rattle.ivl_calendar.proofs.Named.{Kept, dates_without, removed_in_bytes}
use Rattle.ivl_calendar.proofs.rooms.Room.remove_named.Goals as goal

pub invariant_of-self : goal.invariant_of-self
invariant_of-self c = either_way c.remove.result c.remove.ensures.ok c.remove.ensures.err
    (λ h. (dates_without c.self.inside.named c.remove.new.self c.args.days h.values c.self.invariant.0, c.self.invariant.1))
    (λ e. (subst (λ (L : Kept). IsSubset (HasValue (HasAt bytes_eq (named_of L))) IsEpochDay) (sym e) c.self.invariant.0, c.self.invariant.1))

pub returns-clause-ok : goal.returns-clause-ok
returns-clause-ok c = on_ok_weaker c.remove.result
    (λ h. (
      subst (λ (room : Bookings). SameValues (HasAt bytes_eq (named_of c.remove.new.self)) (Outside c.args.days (IsFor room))) c.self.view_is
          (removed_in_bytes c.self.inside.named c.remove.new.self c.args.days h.values),
      ap (λ (room : Bookings). room.0) c.self.view_is,
    ))
    c.remove.ensures.ok

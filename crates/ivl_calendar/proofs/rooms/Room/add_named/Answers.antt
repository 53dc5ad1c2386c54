use Rattle.std.proofs.Common.{◌≡◌, ℕ, List, ap, subst, sym}
use Rattle.std.specs.Prelude.{bytes_eq}
use Rattle.std.proofs.lemmas.Result.{on_ok_weaker}
use Rattle.jiff.specs.Words.{IsEpochDay}
use Rattle.ivl_laws.specs.Sets.{IsSubset}
use Rattle.ivl_map.specs.Entries.{HasAt, HasValue, SameValues, Written}
use Rattle.ivl_map.proofs.Kept.{either_way}
use Rattle.ivl_calendar.specs.Rooms.{Bookings, IsFor, named_of}
use Rattle.ivl_calendar.proofs.Named.{Kept, dates_with, written_in_bytes}
use Rattle.ivl_calendar.proofs.rooms.Room.add_named.Goals as goal

pub invariant_of-self : goal.invariant_of-self
invariant_of-self c = either_way c.insert.result c.insert.ensures.ok c.insert.ensures.err
    (λ h. (dates_with c.self.inside.named c.insert.new.self c.args.days c.in_ok-name.name h.values c.self.invariant.0 c.requires.first c.requires.last, c.self.invariant.1))
    (λ e. (subst (λ (L : Kept). IsSubset (HasValue (HasAt bytes_eq (named_of L))) IsEpochDay) (sym e) c.self.invariant.0, c.self.invariant.1))

pub returns-clause-ok : goal.returns-clause-ok
returns-clause-ok c = on_ok_weaker c.insert.result
    (λ h. (
      subst (λ (room : Bookings). SameValues (HasAt bytes_eq (named_of c.insert.new.self)) (Written bytes_eq c.args.days c.args.name.now (IsFor room))) c.self.view_is
          (subst (λ (name : List ℕ). SameValues (HasAt bytes_eq (named_of c.insert.new.self)) (Written bytes_eq c.args.days name (HasAt bytes_eq (named_of c.self.inside.named)))) c.in_ok-name.ensures.ok
          (written_in_bytes c.self.inside.named c.insert.new.self c.args.days c.in_ok-name.name h.values)),
      ap (λ (room : Bookings). room.0) c.self.view_is,
    ))
    c.insert.ensures.ok

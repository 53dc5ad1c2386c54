use Rattle.std.proofs.Common.{ℤ, List, ap, subst, sym}
use Rattle.std.proofs.lemmas.Result.{on_ok_weaker}
use Rattle.jiff.specs.Words.{IsEpochDay}
use Rattle.ivl_laws.specs.Runs.{Covers, IsRunsOf}
use Rattle.ivl_laws.specs.Sets.{IsBetween, IsSubset, Union}
use Rattle.ivl_map.proofs.Kept.{either_way}
use Rattle.ivl_calendar.specs.Rooms.{Bookings}
use Rattle.ivl_calendar.proofs.Named.{dates_of_union}
use Rattle.ivl_calendar.proofs.rooms.Room.add_unnamed.Goals as goal

pub invariant_of-self : goal.invariant_of-self
invariant_of-self c = either_way c.insert_interval.result c.insert_interval.ensures.ok c.insert_interval.ensures.err
    (λ h. (c.self.invariant.0, dates_of_union c.self.inside.unnamed c.insert_interval.new.self c.args.days h c.self.invariant.1 c.requires.first c.requires.last))
    (λ e. (c.self.invariant.0, subst (λ (L : List (ℤ × ℤ)). IsSubset (Covers L) IsEpochDay) (sym e) c.self.invariant.1))

pub returns-clause-ok : goal.returns-clause-ok
returns-clause-ok c = on_ok_weaker c.insert_interval.result
    (λ h. (
      subst (λ (room : Bookings). IsRunsOf c.insert_interval.new.self (Union (Covers room.0) (IsBetween c.args.days))) c.self.view_is h,
      ap (λ (room : Bookings). room.1) c.self.view_is,
    ))
    c.insert_interval.ensures.ok

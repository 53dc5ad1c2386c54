use Rattle.std.proofs.Common.{ℤ, List, ap, subst, sym}
use Rattle.std.proofs.lemmas.Result.{on_ok_weaker}
use Rattle.jiff.specs.Words.{IsEpochDay}
use Rattle.ivl_laws.specs.Runs.{Covers, IsRunsOf}
use Rattle.ivl_laws.specs.Sets.{IsBetween, IsSubset, Without}
use Rattle.ivl_map.proofs.Kept.{either_way}
use Rattle.ivl_calendar.specs.Rooms.{Bookings}
use Rattle.ivl_calendar.proofs.Named.{dates_of_rest}
use Rattle.ivl_calendar.proofs.rooms.Room.remove_unnamed.Goals as goal

pub invariant_of-self : goal.invariant_of-self
invariant_of-self c = either_way c.remove_interval.result c.remove_interval.ensures.ok c.remove_interval.ensures.err
    (λ h. (c.self.invariant.0, dates_of_rest c.self.inside.unnamed c.remove_interval.new.self c.args.days h c.self.invariant.1))
    (λ e. (c.self.invariant.0, subst (λ (L : List (ℤ × ℤ)). IsSubset (Covers L) IsEpochDay) (sym e) c.self.invariant.1))

pub returns-clause-ok : goal.returns-clause-ok
returns-clause-ok c = on_ok_weaker c.remove_interval.result
    (λ h. (
      subst (λ (room : Bookings). IsRunsOf c.remove_interval.new.self (Without (Covers room.0) (IsBetween c.args.days))) c.self.view_is h,
      ap (λ (room : Bookings). room.1) c.self.view_is,
    ))
    c.remove_interval.ensures.ok

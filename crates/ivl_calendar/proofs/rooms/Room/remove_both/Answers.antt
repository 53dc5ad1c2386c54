use Rattle.std.proofs.Common.{◌≡◌, ◌∙◌, ℤ, List, ap, subst, sym}
use Rattle.std.specs.Prelude.{bytes_eq}
use Rattle.jiff.specs.Words.{IsEpochDay}
use Rattle.ivl_laws.specs.Runs.{Covers, IsRunsOf}
use Rattle.ivl_laws.specs.Sets.{IsBetween, IsSubset, Without}
use Rattle.ivl_map.specs.Entries.{HasAt, HasValue, Outside, SameValues}
use Rattle.ivl_calendar.specs.Rooms.{Bookings, IsFor, named_of}
use Rattle.ivl_calendar.proofs.Named.{Kept, dates_of_rest, dates_without, removed_in_bytes}
use Rattle.ivl_calendar.proofs.rooms.Room.remove_both.Goals as goal

pub invariant_of-self : goal.invariant_of-self
invariant_of-self c = (subst (λ (L : Kept). IsSubset (HasValue (HasAt bytes_eq (named_of L))) IsEpochDay) (sym c.in_err-remove.ensures.err) c.self.invariant.0, c.self.invariant.1)

pub invariant_of-self-2 : goal.invariant_of-self-2
invariant_of-self-2 c = (
  dates_without c.self.inside.named c.remove.new.self c.args.days c.in_ok-remove.ensures.ok.values c.self.invariant.0,
  dates_of_rest c.self.inside.unnamed c.remove_interval.new.self c.args.days (subst (λ (L : List (ℤ × ℤ)). IsRunsOf c.remove_interval.new.self (Without (Covers L) (IsBetween c.args.days))) c.in_ok-unnamed.ensures c.in_ok-remove_interval.ensures.ok) c.self.invariant.1,
)

pub returns-clause-ok : goal.returns-clause-ok
returns-clause-ok c =
    let is : c.in_ok-unnamed.unnamed ≡ c.args.self.now.0 = c.in_ok-unnamed.ensures ∙ ap (λ (room : Bookings). room.0) c.self.view_is in (
      subst (λ (L : List (ℤ × ℤ)). IsRunsOf c.remove_interval.new.self (Without (Covers L) (IsBetween c.args.days))) is c.in_ok-remove_interval.ensures.ok,
      subst (λ (room : Bookings). SameValues (HasAt bytes_eq (named_of c.remove.new.self)) (Outside c.args.days (IsFor room))) c.self.view_is
          (removed_in_bytes c.self.inside.named c.remove.new.self c.args.days c.in_ok-remove.ensures.ok.values),
    )

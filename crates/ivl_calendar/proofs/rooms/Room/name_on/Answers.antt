use Rattle.std.proofs.Common.{ℕ, ℤ, List, arith, subst, sym}
use Rattle.std.specs.Prelude.{string_bytes}
use Rattle.std.proofs.lemmas.Int.{ints}
use Rattle.ivl_calendar.specs.Rooms.{Bookings, IsFor}
use Rattle.ivl_calendar.proofs.Named.{for_on, nobody_on}
use Rattle.ivl_calendar.proofs.rooms.Room.name_on.Goals as goal

pub returns-in-Some : goal.returns-in-Some
returns-in-Some c =
    subst (λ (who : List ℕ). IsFor c.args.self.now c.args.day who) (sym c.as_str.ensures.value)
    (subst (λ (room : Bookings). IsFor room c.args.day (string_bytes c.in-Some.name.now)) c.self.view_is (for_on c.self.inside.named _ c.args.day c.in-Some.name.now (omega (arith, ints)) c.in-Some.ensures.value))

pub returns-in-None : goal.returns-in-None
returns-in-None c = subst (λ (room : Bookings). (who : List ℕ) → ¬ (IsFor room c.args.day who)) c.self.view_is (nobody_on c.self.inside.named _ c.args.day (omega (arith, ints)) c.in-None.ensures.value)

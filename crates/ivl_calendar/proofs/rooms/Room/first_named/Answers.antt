use Rattle.std.proofs.Common.{◌≡◌, ◌≤ℤ◌, ◌<ℤ◌, List, ℕ, arith, subst, sym}
use Rattle.std.specs.Prelude.{bytes_eq, string_bytes}
use Rattle.std.proofs.lemmas.Int.{ints}
use Rattle.ivl_laws.specs.Sets.{HasNone, Intersection, IsBetween}
use Rattle.ivl_map.specs.Entries.{HasValue}
use Rattle.ivl_map.specs.Lookups.{IsFirstRunOf}
use Rattle.ivl_calendar.specs.Rooms.{Bookings, IsFor}
use Rattle.ivl_calendar.proofs.Named.{met_first, met_later, met_none, run_of_dates}
use Rattle.ivl_calendar.proofs.rooms.Room.first_named.Goals as goal

pub returns-in_default-clause-first : goal.returns-in_default-clause-first
returns-in_default-clause-first c =
    subst (λ (room : Bookings). HasNone (Intersection (IsBetween c.args.days.now) (HasValue (IsFor room)))) c.self.view_is
    (met_none c.self.inside.named c.args.days.now _ (omega (arith, ints, c.lower.ensures.value)) c.in_default.ensures.least)

pub returns-then-lower-upper-clause-first : goal.returns-then-lower-upper-clause-first
returns-then-lower-upper-clause-first c =
    let low : c.in-Some.met.0.0 ≤ℤ c.args.days.now.1 = omega (arith, ints, c.lower-2.ensures.value, c.upper.ensures.value, c.if-lower-upper.true, c.lower-2.type_inv, c.upper.type_inv) in
    subst (λ (who : List ℕ). IsFirstRunOf bytes_eq (Intersection (IsBetween c.args.days.now) (HasValue (IsFor c.args.self.now))) (IsFor c.args.self.now) (c.in-Some.met.0, who)) (sym c.as_str.ensures.value)
    (subst (λ (room : Bookings). IsFirstRunOf bytes_eq (Intersection (IsBetween c.args.days.now) (HasValue (IsFor room))) (IsFor room) (c.in-Some.met.0, string_bytes c.in-Some.met.1.now)) c.self.view_is
    (met_first c.self.inside.named c.args.days.now c.in-Some.met.0 c.in-Some.met.1.now _ (omega (arith, ints, c.lower.ensures.value)) c.in-Some.ensures.least c.requires low))

pub returns-then-lower-upper-clause-dates : goal.returns-then-lower-upper-clause-dates
returns-then-lower-upper-clause-dates c = run_of_dates c.self.inside.named c.in-Some.met.0 c.in-Some.met.1.now c.in-Some.ensures.least.run.inside c.self.invariant.0

pub returns-else-lower-upper-clause-first : goal.returns-else-lower-upper-clause-first
returns-else-lower-upper-clause-first c =
    let high : c.args.days.now.1 <ℤ c.in-Some.met.0.0 = omega (arith, ints, c.lower-2.ensures.value, c.upper.ensures.value, c.if-lower-upper.false, c.lower-2.type_inv, c.upper.type_inv) in
    subst (λ (room : Bookings). HasNone (Intersection (IsBetween c.args.days.now) (HasValue (IsFor room)))) c.self.view_is
    (met_later c.self.inside.named c.args.days.now c.in-Some.met.0 c.in-Some.met.1.now _ (omega (arith, ints, c.lower.ensures.value)) c.in-Some.ensures.least high)

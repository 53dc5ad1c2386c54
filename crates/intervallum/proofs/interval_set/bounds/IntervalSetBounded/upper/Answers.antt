use Rattle.std.proofs.Common.{◌-◌, ℤ, ◌≤ℤ◌, sym, subst, arith}
use Rattle.ivl_laws.proofs.Places.{open_at}
use Rattle.ivl_laws.proofs.Intervals.{some_is_not_crossed}
use Rattle.ivl_places.proofs.Finding.{greatest_of_last, some_has_length}
use Rattle.intervallum.proofs.interval_set.bounds.IntervalSetBounded.upper.Goals as goal

pub upper-requires : goal.upper-requires
upper-requires g c =
    let v = c.self.inside.intervals in
    let some = some_has_length v.items c.args.self.now c.self.view_is c.requires in
    let P : ℤ × ℤ → Type 0 = λ r. r.0 ≤ℤ r.1 in
    (some_is_not_crossed c.index.result.now).1
    (subst P (sym c.index.ensures) (open_at v.items (c.len.result - 1) c.index.result.now c.self.invariant.0.maximal (omega (arith, v.ok.0, c.len.ensures, some))))

pub returns-clause-member : goal.returns-clause-member
returns-clause-member g c =
    let v = c.self.inside.intervals in
    let some = some_has_length v.items c.args.self.now c.self.view_is c.requires in
    (greatest_of_last v.items c.args.self.now (c.len.result - 1) c.index.result.now _ c.self.view_is c.self.invariant.0.maximal
    (omega (arith, v.ok.0, c.len.ensures, some)) c.index.ensures c.upper.ensures.value).0

pub returns-clause-greatest : goal.returns-clause-greatest
returns-clause-greatest g c =
    let v = c.self.inside.intervals in
    let some = some_has_length v.items c.args.self.now c.self.view_is c.requires in
    (greatest_of_last v.items c.args.self.now (c.len.result - 1) c.index.result.now _ c.self.view_is c.self.invariant.0.maximal
    (omega (arith, v.ok.0, c.len.ensures, some)) c.index.ensures c.upper.ensures.value).1

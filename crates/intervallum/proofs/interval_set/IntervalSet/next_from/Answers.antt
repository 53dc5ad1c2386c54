use Rattle.std.proofs.Common.{ℤ, List, length, ap, subst, arith}
use Rattle.ivl_laws.specs.Runs.{Covers}
use Rattle.ivl_places.proofs.Finding.{covered_at_place}
use Rattle.ivl_places.proofs.Neighbours.{next_at, no_next}
use Rattle.intervallum.proofs.interval_set.IntervalSet.next_from.Goals as goal
use lib.Signed.{≤ℤ_refl}

pub returns-in-In : goal.returns-in-In
returns-in-In g c =
    let v = g.B.Width.value c.args.v in
    let in_set = subst (λ (L : List (ℤ × ℤ)). Covers L v) c.new-runs.ensures.runs (covered_at_place c.new-runs.result.runs c.in-In.field-0 v c.in-In.ensures.place) in
    ((in_set, ≤ℤ_refl v), λ z s. s.1)

pub returns-then-i-len : goal.returns-then-i-len
returns-then-i-len g c =
    next_at c.new-runs.result.runs c.args.self.now c.find.new.probes.runs c.in-Gap.i (g.B.Width.value c.args.v) _ c.look.result c.new-runs.ensures.runs c.find.ensures.same c.in-Gap.ensures.beside c.look.ensures.run c.lower.ensures.value

pub returns-else-i-len : goal.returns-else-i-len
returns-else-i-len g c =
    let same = ap (λ (L : List (ℤ × ℤ)). length L) c.find.ensures.same in
    no_next c.new-runs.result.runs c.args.self.now c.in-Gap.i (g.B.Width.value c.args.v) c.new-runs.ensures.runs c.in-Gap.ensures.beside (omega (arith, same, c.len.ensures.value, c.if-i-len.false))

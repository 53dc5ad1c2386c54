use Rattle.std.proofs.Common.{ℤ, arith, refl}
use Rattle.std.proofs.lemmas.Int.{ints, by_lt_z}
use Rattle.std.specs.Prelude.{◌<ℤ◌, ◌≤ℤ◌}
use Rattle.ivl_laws.proofs.Orders.{lt_number}
use Rattle.ivl_paged.proofs.Counting.{inside_by_upper, outside_by_lower}
use Rattle.ivl_paged.proofs.paged_set.PagedSet.has_inside.Goals as goal

pub returns-then-lt : goal.returns-then-lt
returns-then-lt g c =
    let run : ℤ × ℤ = c.in-Some.run' in
    let p : ℤ × ℤ = c.args.interval.now in
    let lt = (lt_number g.met.B.Width.ordered _ _ _ c.lt.ensures).0 c.if-lt.true in
    let a = c.lower-in-Some.ensures.value in
    let b = c.lower-in-Some-2.ensures.value in
    let low : run.0 <ℤ p.0 = omega (arith, ints, lt, a, b) in
    let test = lt_number g.met.B.Width.ordered _ _ _ c.lt-then-lt.ensures in
    let x = c.upper.ensures.value in
    let y = c.upper-then-lt.ensures.value in
    inside_by_upper c.args.self.now c.args.self.now run p (g.B.Width.value c.lower.result) c.lt-then-lt.result refl c.lower.ensures.value c.requires c.in-Some.ensures low
    ((λ u. let h = test.0 u in omega (arith, ints, h, x, y)), (λ h. test.1 (omega (arith, ints, h, x, y))))

pub returns-else-lt : goal.returns-else-lt
returns-else-lt g c =
    let run : ℤ × ℤ = c.in-Some.run' in
    let p : ℤ × ℤ = c.args.interval.now in
    let a = c.lower-in-Some.ensures.value in
    let b = c.lower-in-Some-2.ensures.value in
    let low : p.0 ≤ℤ run.0 = by_lt_z run.0 p.0
    (λ h. absurd (let u = (lt_number g.met.B.Width.ordered _ _ _ c.lt.ensures).1 (omega (arith, ints, h, a, b)) in let f = c.if-lt.false in cc))
    (λ le. le) in
    outside_by_lower c.args.self.now c.args.self.now run p (g.B.Width.value c.lower.result) c.lt.result refl c.lower.ensures.value c.requires c.in-Some.ensures low c.if-lt.false

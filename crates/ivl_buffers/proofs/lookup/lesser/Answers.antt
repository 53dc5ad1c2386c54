use Rattle.std.proofs.Common.{ℤ, ◌≤ℤ◌, ap, arith, option_map, subst}
use Rattle.std.proofs.lemmas.Int.{ints}
use Rattle.std.specs.Prelude.{Option}
use Rattle.ivl_laws.specs.Sets.{IsBetween}
use Rattle.ivl_laws.specs.Runs.{Covers}
use Rattle.ivl_laws.proofs.Orders.{le_number, not_le_number}
use Rattle.ivl_buffers.specs.Lookup.{IsNextIn}
use Rattle.ivl_buffers.proofs.LeastMember.{first_is_less, second_is_less}
use Rattle.ivl_buffers.proofs.lookup.lesser.Goals as goal

pub returns-then-le : goal.returns-then-le
returns-then-le g c = λ v L p s t.
    let value = g.B.Width.value in
    let P : Option ℤ → Type 0 = λ o. IsNextIn v (Covers L) o in
    let Q : Option ℤ → Type 0 = λ o. IsNextIn v (IsBetween p) o in
    first_is_less (value c.in-Some-Some.x) (value c.in-Some-Some.y) v (Covers L) (IsBetween p)
    ((le_number g.met.B.Width.ordered _ _ _ c.le.ensures).0 c.if-le.true)
    (subst P (ap (option_map value) c.in-Some-Some.is-0) s) (subst Q (ap (option_map value) c.in-Some-Some.is-1) t)

pub returns-else-le : goal.returns-else-le
returns-else-le g c = λ v L p s t.
    let value = g.B.Width.value in
    let P : Option ℤ → Type 0 = λ o. IsNextIn v (Covers L) o in
    let Q : Option ℤ → Type 0 = λ o. IsNextIn v (IsBetween p) o in
    let test = not_le_number g.met.B.Width.ordered _ _ _ c.le.ensures c.if-le.false in
    let less : value c.in-Some-Some.y ≤ℤ value c.in-Some-Some.x = omega (arith, ints, test) in
    second_is_less (value c.in-Some-Some.x) (value c.in-Some-Some.y) v (Covers L) (IsBetween p) less
    (subst P (ap (option_map value) c.in-Some-Some.is-0) s) (subst Q (ap (option_map value) c.in-Some-Some.is-1) t)

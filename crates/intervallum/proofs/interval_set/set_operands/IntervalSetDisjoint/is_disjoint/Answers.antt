use Rattle.ivl_laws.specs.Sets.{Intersection, HasSome}
use Rattle.std.proofs.Common.{◌↔◌, IsTrue, ℤ, List, subst}
use Rattle.ivl_laws.specs.Runs.{Covers}
use Rattle.ivl_places.proofs.Singles.{not_some}
use Rattle.intervallum.proofs.interval_set.set_operands.IntervalSetDisjoint.is_disjoint.Goals as goal

pub returns : goal.returns
returns g c =
    let P : List (ℤ × ℤ) → Type 0 = λ L. IsTrue c.have_common.result ↔ HasSome (Intersection (Covers L) (Covers c.new-2.result.left)) in
    let Q : List (ℤ × ℤ) → Type 0 = λ L. IsTrue c.have_common.result ↔ HasSome (Intersection (Covers c.args.self.now) (Covers L)) in
    not_some c.have_common.result _ (subst Q c.new-2.ensures.left (subst P c.new.ensures.left c.have_common.ensures))

use Rattle.std.proofs.Common.{◌≡◌, ◌↔◌, IsTrue}
use Rattle.ivl_laws.proofs.Orders.{eq_number}
use Rattle.ivl_interval.proofs.Pairs.{not_that, without_lower, without_upper, without_inner}
use Rattle.ivl_interval.proofs.interval.values.IntervalDifference.difference.Goals as goal

pub returns-then-eq : goal.returns-then-eq
returns-then-eq g c =
    let e : g.B.Width.value c.args.other.now ≡ c.args.self.now.0 = rw (← c.self.view_is) ((eq_number g.met.B.Width.ordered _ _ _ c.eq.ensures).0 c.if-eq.true) in
    without_lower c.args.self.now c.strict_shrink_left.result _ e c.strict_shrink_left.ensures

pub returns-then-eq-2 : goal.returns-then-eq-2
returns-then-eq-2 g c =
    let e : g.B.Width.value c.args.other.now ≡ c.args.self.now.1 = rw (← c.self.view_is) ((eq_number g.met.B.Width.ordered _ _ _ c.eq-else-eq.ensures).0 c.if-eq-2.true) in
    without_upper c.args.self.now c.strict_shrink_right.result _ e c.strict_shrink_right.ensures

pub returns-else-eq-2 : goal.returns-else-eq-2
returns-else-eq-2 g c =
    let lower : IsTrue c.eq.result ↔ (g.B.Width.value c.args.other.now ≡ c.args.self.now.0) = rw (← c.self.view_is) (eq_number g.met.B.Width.ordered _ _ _ c.eq.ensures) in
    let upper : IsTrue c.eq-else-eq.result ↔ (g.B.Width.value c.args.other.now ≡ c.args.self.now.1) = rw (← c.self.view_is) (eq_number g.met.B.Width.ordered _ _ _ c.eq-else-eq.ensures) in
    rw c.self.view_is (without_inner c.args.self.now _ (not_that _ lower c.if-eq.false) (not_that _ upper c.if-eq-2.false))

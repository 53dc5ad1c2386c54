use Rattle.std.proofs.Common.{rules}
use Rattle.ivl_laws.proofs.Orders.{eq_number}
use Rattle.ivl_interval.proofs.Pairs.{same_by_bounds, same_by_crossed, same_by_lower}
use Rattle.ivl_interval.proofs.interval.has_same_members.Goals as goal

pub returns-then-is_empty : goal.returns-then-is_empty
returns-then-is_empty g c =
    same_by_crossed _ _ _ (c.is_empty.ensures.crossed.0 c.if-is_empty.true) c.is_empty-then-is_empty.ensures.crossed

pub returns-then-eq : goal.returns-then-eq
returns-then-eq g c =
    same_by_bounds _ _ _ _ _ _ _ c.a.view_is c.b.view_is (search rules)
    ((eq_number g.met.B.Width.ordered _ _ _ c.eq.ensures).0 c.if-eq.true)
    (eq_number g.met.B.Width.ordered _ _ _ c.eq-then-eq.ensures)

pub returns-else-eq : goal.returns-else-eq
returns-else-eq g c =
    same_by_lower _ _ _ _ _ _ _ c.a.view_is c.b.view_is (search rules)
    c.if-eq.false (eq_number g.met.B.Width.ordered _ _ _ c.eq.ensures)

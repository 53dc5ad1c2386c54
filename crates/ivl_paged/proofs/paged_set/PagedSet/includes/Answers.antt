use Rattle.ivl_laws.proofs.Adding.{untrue}
use Rattle.ivl_laws.proofs.Intervals.{not_crossed}
use Rattle.ivl_laws.proofs.Orders.{le_number}
use Rattle.ivl_laws.specs.Runs.{Covers}
use Rattle.ivl_places.proofs.IntervalOperands.{included_in_run}
use Rattle.ivl_paged.proofs.paged_set.PagedSet.includes.Goals as goal

pub returns-in-Some : goal.returns-in-Some
returns-in-Some g c =
    included_in_run (Covers c.args.self.now) c.args.interval.now c.in-Some.run' _ _ _ c.le.result (not_crossed c.args.interval.now (untrue _ c.if-is_empty.false c.is_empty.ensures.crossed))
    c.in-Some.ensures c.lower.ensures.value c.upper.ensures.value c.upper-in-Some.ensures.value (le_number g.met.B.Width.ordered _ _ _ c.le.ensures)

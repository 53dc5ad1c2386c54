use Rattle.ivl_laws.proofs.Orders.{le_number}
use Rattle.ivl_laws.specs.Runs.{Covers}
use Rattle.ivl_paged.proofs.Touching.{touched_by_next}
use Rattle.ivl_paged.proofs.paged_set.PagedSet.touches.Goals as goal

pub returns-in-Some : goal.returns-in-Some
returns-in-Some g c =
    touched_by_next g.B.Width.whole (Covers c.args.self.now) c.args.interval.now _ _ _ _ _ c.le.result c.in_whole.ensures.within
    c.lower.ensures.value c.upper.ensures.value c.one_below.ensures c.one_above-upper.ensures c.in-Some.ensures
    (le_number g.met.B.Width.ordered _ _ _ c.le.ensures)

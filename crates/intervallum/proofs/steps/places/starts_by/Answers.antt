use Rattle.std.proofs.Common.{◌-◌, arith}
use Rattle.ivl_laws.proofs.Intervals.{some_is_not_crossed}
use Rattle.ivl_laws.proofs.Orders.{le_number}
use Rattle.ivl_places.proofs.Edges.{starts_of_last}
use Rattle.intervallum.proofs.steps.places.starts_by.Goals as goal

pub lower-requires : goal.lower-requires
lower-requires g c = (some_is_not_crossed c.look.result).1 c.look.ensures.has_member

pub returns-else-count-eq0-clause-starts : goal.returns-else-count-eq0-clause-starts
returns-else-count-eq0-clause-starts g c = λ t.
    starts_of_last c.args.probes.now.runs (c.len-count.result - 1) c.look.result (g.B.Width.value c.args.value) (g.B.Width.value c.lower.result) c.len-count.ensures.runs.maximal
    (let some = c.if-count-eq0.false in let count = c.len-count.ensures.value in omega (arith, some, count)) c.look.ensures.run c.lower.ensures.value
    ((le_number g.met.B.Width.ordered _ _ _ c.le.ensures).0 t)

use Rattle.ivl_walks.proofs.Intersections.{none_first, none_second}
use Rattle.intervallum.proofs.steps.intersection.heads.Goals as goal

pub returns-in_err-a-clause-heads : goal.returns-in_err-a-clause-heads
returns-in_err-a-clause-heads g c = rw c.from_residual.ensures (none_first c.args.first.now.left c.args.second.now.left c.in_err-a.ensures.first)

pub returns-in_err-b-clause-heads : goal.returns-in_err-b-clause-heads
returns-in_err-b-clause-heads g c = rw c.from_residual-in_err-b.ensures (none_second c.args.first.now.left c.args.second.now.left c.in_err-b.ensures.first)

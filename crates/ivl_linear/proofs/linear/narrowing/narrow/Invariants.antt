use Rattle.std.proofs.Common.{length}
use Rattle.ivl_linear.proofs.Collecting.{PutSoFar}
use Rattle.ivl_linear.proofs.linear.narrowing.narrow.Given as goal

abbrev pub invariant-rests : goal.invariant-rests
invariant-rests g l = PutSoFar l.terms l.fn.relation l.fn.domains l.rests.items l.domains

abbrev pub decreases-rests : goal.decreases-rests
decreases-rests g l = length l.rests.items

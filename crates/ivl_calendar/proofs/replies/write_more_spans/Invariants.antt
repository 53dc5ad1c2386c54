use Rattle.std.proofs.Common.{length}
use Rattle.ivl_calendar.proofs.Spans.{AreDays, Leaves}
use Rattle.ivl_calendar.proofs.replies.write_more_spans.Given as goal

abbrev pub invariant-loop-first : goal.invariant-loop-first
invariant-loop-first g l = Leaves l.fn.runs (g.W.Write.contents l.fn.writer) l.runs (g.W.Write.contents l.writer) × AreDays l.runs

abbrev pub decreases-loop-first : goal.decreases-loop-first
decreases-loop-first g l = length l.runs

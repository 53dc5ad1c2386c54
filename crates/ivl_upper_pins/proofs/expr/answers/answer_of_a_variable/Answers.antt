use Rattle.std.proofs.Common.{length}
use Rattle.ivl_upper_pins.proofs.Small.{missing_alone}
use Rattle.ivl_upper_pins.proofs.expr.answers.answer_of_a_variable.Goals as goal

pub returns-clause-missing : goal.returns-clause-missing
returns-clause-missing g c = λ h. (c.eval.ensures.missing c.args.i).1 (missing_alone g.row.B.Denot (length c.args.sets.now) c.args.i h)

use Rattle.ivl_calculator.proofs.Determined.{steps_agree}
use Rattle.ivl_calculator.proofs.laws.steps_are_determined.Goals as goal

pub returns : goal.returns
returns c = steps_agree

use Rattle.ivl_calculator.proofs.Determined.{runs_agree}
use Rattle.ivl_calculator.proofs.laws.runs_are_determined.Goals as goal

pub returns : goal.returns
returns c = runs_agree

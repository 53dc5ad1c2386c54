use Rattle.ivl_laws.proofs.Runs.{runs_are_unique}
use Rattle.ivl_set_laws.proofs.run_lists.runs_are_unique.Goals as goal

pub returns : goal.returns
returns c = runs_are_unique

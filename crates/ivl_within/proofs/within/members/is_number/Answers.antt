use Rattle.ivl_within.proofs.Moved.{one_run_of_number}
use Rattle.ivl_within.proofs.within.members.is_number.Goals as goal

pub returns : goal.returns
returns g c = λ t. one_run_of_number c.args.a.now c.in_whole.ensures.maximal (c.is_singleton.ensures.0 t)

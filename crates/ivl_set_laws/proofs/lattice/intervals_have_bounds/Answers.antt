use Rattle.ivl_laws.proofs.Spans.{join_of_two, hull_of_two}
use Rattle.ivl_set_laws.proofs.lattice.intervals_have_bounds.Goals as goal

pub returns-clause-join : goal.returns-clause-join
returns-clause-join c = join_of_two

pub returns-clause-meet : goal.returns-clause-meet
returns-clause-meet c = hull_of_two

use Rattle.ivl_laws.proofs.Lengths.{length_of_union, length_of_intersection, length_of_complement}
use Rattle.ivl_set_laws.proofs.run_lists.run_counts.Goals as goal

pub returns-clause-union : goal.returns-clause-union
returns-clause-union c = length_of_union

pub returns-clause-intersection : goal.returns-clause-intersection
returns-clause-intersection c = length_of_intersection

pub returns-clause-complement : goal.returns-clause-complement
returns-clause-complement c = length_of_complement

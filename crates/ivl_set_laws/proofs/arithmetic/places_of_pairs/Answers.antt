use Rattle.ivl_laws.proofs.Lengths.{length-pairwise}
use Rattle.ivl_laws.proofs.Places.{get_or-pairwise}
use Rattle.ivl_set_laws.proofs.arithmetic.places_of_pairs.Goals as goal

pub returns-clause-length : goal.returns-clause-length
returns-clause-length c = length-pairwise

pub returns-clause-place : goal.returns-clause-place
returns-clause-place c = get_or-pairwise

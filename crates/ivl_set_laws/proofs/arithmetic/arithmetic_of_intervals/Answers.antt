use Rattle.ivl_laws.proofs.Products.{sums_of_intervals, differences_of_intervals}
use Rattle.ivl_set_laws.proofs.arithmetic.arithmetic_of_intervals.Goals as goal

pub returns-clause-sums : goal.returns-clause-sums
returns-clause-sums c = sums_of_intervals

pub returns-clause-differences : goal.returns-clause-differences
returns-clause-differences c = differences_of_intervals

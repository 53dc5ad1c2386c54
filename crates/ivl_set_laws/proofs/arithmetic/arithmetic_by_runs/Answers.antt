use Rattle.ivl_laws.proofs.Products.{sums_of_runs, differences_of_runs, products_of_runs}
use Rattle.ivl_set_laws.proofs.arithmetic.arithmetic_by_runs.Goals as goal

pub returns-clause-sums : goal.returns-clause-sums
returns-clause-sums c = λ L M l m z. sums_of_runs L M z l m

pub returns-clause-differences : goal.returns-clause-differences
returns-clause-differences c = λ L M l m z. differences_of_runs L M z l m

pub returns-clause-products : goal.returns-clause-products
returns-clause-products c = λ L M l m z. products_of_runs L M z l m

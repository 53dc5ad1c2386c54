use Rattle.ivl_laws.proofs.SetLaws.{products_fit}
use Rattle.ivl_set_laws.proofs.arithmetic.products_fit.Goals as goal

pub returns-clause-fit : goal.returns-clause-fit
returns-clause-fit g c = products_fit g.S.NumberSet.members g.T.NumberSet.members

use Rattle.std.proofs.lemmas.Bool.{iff_false}
use Rattle.ivl_expr.proofs.Outside.{some_sum_outside}
use Rattle.ivl_expr.proofs.nodes.sum.Goals as goal

pub returns-then-not-fits_add-clause-range : goal.returns-then-not-fits_add-clause-range
returns-then-not-fits_add-clause-range g c = λ _. some_sum_outside g.B.Width.whole c.args.a.now c.args.b.now (iff_false c.fits_add.ensures c.if-not-fits_add.true)

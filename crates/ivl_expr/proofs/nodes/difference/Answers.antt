use Rattle.std.proofs.lemmas.Bool.{iff_false}
use Rattle.ivl_expr.proofs.Outside.{some_difference_outside}
use Rattle.ivl_expr.proofs.nodes.difference.Goals as goal

pub returns-then-not-fits_sub-clause-range : goal.returns-then-not-fits_sub-clause-range
returns-then-not-fits_sub-clause-range g c = λ _. some_difference_outside g.B.Width.whole c.args.a.now c.args.b.now (iff_false c.fits_sub.ensures c.if-not-fits_sub.true)

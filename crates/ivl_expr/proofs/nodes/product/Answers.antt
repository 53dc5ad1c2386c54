use Rattle.std.proofs.lemmas.Bool.{iff_false}
use Rattle.ivl_laws.specs.Runs.{Covers}
use Rattle.ivl_laws.proofs.SetLaws.{products_fit}
use Rattle.ivl_expr.proofs.Outside.{some_product_outside}
use Rattle.ivl_expr.proofs.nodes.product.Goals as goal

pub returns-then-not-fits_mul-clause-range : goal.returns-then-not-fits_mul-clause-range
returns-then-not-fits_mul-clause-range g c = λ _. some_product_outside g.B.Width.whole c.args.a.now c.args.b.now (iff_false c.fits_mul.ensures c.if-not-fits_mul.true)

pub returns-clause-within : goal.returns-clause-within
returns-clause-within g c = (products_fit (Covers c.args.a.now) (Covers c.args.b.now) g.B.Width.whole).0 (c.fits_mul.ensures.0 c.if-not-fits_mul.false)

use Rattle.std.proofs.Common.{rules}
use Rattle.ivl_interval.proofs.Arithmetic.{fits_then, fits_else, products_fit}
use Rattle.ivl_interval.proofs.interval.fits.IntervalAnyFits.fits_mul.Goals as goal

pub returns-then-has_products : goal.returns-then-has_products
returns-then-has_products g c =
    fits_then _ (c.has_products.ensures.0 c.if-has_products.true) c.has_products-then-has_products.ensures
    (products_fit _ _ _ _ _ c.self.view_is (search rules) (search rules))

pub returns-else-has_products : goal.returns-else-has_products
returns-else-has_products g c =
    fits_else _ c.if-has_products.false c.has_products.ensures
    (products_fit _ _ _ _ _ c.self.view_is (search rules) (search rules))

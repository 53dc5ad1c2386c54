use Rattle.std.proofs.Common.{rules}
use Rattle.ivl_interval.proofs.Arithmetic.{fits_then, fits_else, products_with_fit}
use Rattle.ivl_interval.proofs.interval.fits.IntervalAnyFitsAny.fits_mul.Goals as goal

pub returns-then-has_product : goal.returns-then-has_product
returns-then-has_product g c =
    fits_then _ (c.has_product.ensures.0 c.if-has_product.true) c.has_product-then-has_product.ensures
    (products_with_fit _ _ _ _ _ c.self.view_is (search rules))

pub returns-else-has_product : goal.returns-else-has_product
returns-else-has_product g c =
    fits_else _ c.if-has_product.false c.has_product.ensures
    (products_with_fit _ _ _ _ _ c.self.view_is (search rules))

use Rattle.std.proofs.Common.{◌*ℤ◌}
use Rattle.ivl_laws.specs.Sets.{IsBetween}
use Rattle.ivl_interval.proofs.Ends.{ends_by_first, ends_by_second}
use Rattle.ivl_interval.proofs.interval.fits.has_products.Goals as goal

pub returns-then-has_product : goal.returns-then-has_product
returns-then-has_product g c =
    ends_by_second (λ y. IsBetween g.B.Width.whole (g.B.Width.value c.args.x *ℤ y)) _ _ _ _ _ c.b.view_is c.if-has_product.true c.has_product.ensures c.has_product-then-has_product.ensures

pub returns-else-has_product : goal.returns-else-has_product
returns-else-has_product g c =
    ends_by_first (λ y. IsBetween g.B.Width.whole (g.B.Width.value c.args.x *ℤ y)) _ _ _ _ c.b.view_is c.if-has_product.false c.has_product.ensures

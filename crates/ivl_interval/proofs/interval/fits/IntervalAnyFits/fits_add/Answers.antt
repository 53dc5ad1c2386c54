use Rattle.std.proofs.Common.{rules}
use Rattle.ivl_interval.proofs.Arithmetic.{fits_then, fits_else, sums_fit}
use Rattle.ivl_interval.proofs.interval.fits.IntervalAnyFits.fits_add.Goals as goal

pub returns-then-has_sum : goal.returns-then-has_sum
returns-then-has_sum g c =
    fits_then _ (c.has_sum.ensures.0 c.if-has_sum.true) c.has_sum-then-has_sum.ensures
    (sums_fit _ _ _ _ _ _ _ c.self.view_is c.other.view_is (search rules) (search rules))

pub returns-else-has_sum : goal.returns-else-has_sum
returns-else-has_sum g c =
    fits_else _ c.if-has_sum.false c.has_sum.ensures
    (sums_fit _ _ _ _ _ _ _ c.self.view_is c.other.view_is (search rules) (search rules))

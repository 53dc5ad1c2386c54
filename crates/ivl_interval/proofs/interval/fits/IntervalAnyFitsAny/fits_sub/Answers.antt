use Rattle.std.proofs.Common.{rules}
use Rattle.ivl_interval.proofs.Arithmetic.{fits_then, fits_else, differences_with_fit}
use Rattle.ivl_interval.proofs.interval.fits.IntervalAnyFitsAny.fits_sub.Goals as goal

pub returns-then-has_difference : goal.returns-then-has_difference
returns-then-has_difference g c =
    fits_then _ (c.has_difference.ensures.0 c.if-has_difference.true) c.has_difference-then-has_difference.ensures
    (differences_with_fit _ _ _ _ _ c.self.view_is (search rules))

pub returns-else-has_difference : goal.returns-else-has_difference
returns-else-has_difference g c =
    fits_else _ c.if-has_difference.false c.has_difference.ensures
    (differences_with_fit _ _ _ _ _ c.self.view_is (search rules))

use Rattle.ivl_laws.specs.Sets.{Only}
use Rattle.ivl_laws.specs.Runs.{Covers}
use Rattle.ivl_images.proofs.Fitting.{told, sums_by_hull}
use Rattle.intervallum.proofs.interval_set.fits.IntervalSetAnyFitsAny.fits_add.Goals as goal

pub returns : goal.returns
returns g c =
    told c.fits_add.ensures
    (sums_by_hull (Covers c.args.self.now) (Only (g.B.Width.value c.args.other.now)) c.hull.result g.B.Width.whole c.hull.ensures)

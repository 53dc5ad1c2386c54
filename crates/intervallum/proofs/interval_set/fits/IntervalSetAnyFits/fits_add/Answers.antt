use Rattle.ivl_laws.specs.Runs.{Covers}
use Rattle.ivl_images.proofs.Fitting.{told, sums_by_hulls}
use Rattle.intervallum.proofs.interval_set.fits.IntervalSetAnyFits.fits_add.Goals as goal

pub returns : goal.returns
returns g c =
    told c.fits_add.ensures
    (sums_by_hulls (Covers c.args.self.now) (Covers c.args.other.now) c.hull.result c.hull-2.result g.B.Width.whole c.hull.ensures c.hull-2.ensures)

use Rattle.ivl_laws.specs.Runs.{Covers}
use Rattle.ivl_images.proofs.Fitting.{told, differences_by_hulls}
use Rattle.intervallum.proofs.interval_set.fits.IntervalSetAnyFits.fits_sub.Goals as goal

pub returns : goal.returns
returns g c =
    told c.fits_sub.ensures
    (differences_by_hulls (Covers c.args.self.now) (Covers c.args.other.now) c.hull.result c.hull-2.result g.B.Width.whole c.hull.ensures c.hull-2.ensures)

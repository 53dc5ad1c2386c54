use Rattle.ivl_within.proofs.Clipping.{tells_cut}
use Rattle.ivl_within.specs.declared.within.Combined.TheVariants.{Difference}
use Rattle.ivl_within.proofs.within.sub_within.Goals as goal

pub returns-clause-cut : goal.returns-clause-cut
returns-clause-cut g c = tells_cut g.B.Width.whole Difference c.args.a.now c.args.b.now c.fits_sub-is_cut.result c.in_ok-combine_all.ensures.left c.in_ok-combine_all.ensures.right c.fits_sub-is_cut.ensures

use Rattle.ivl_within.proofs.Clipping.{tells_cut}
use Rattle.ivl_within.specs.declared.within.Combined.TheVariants.{Sum}
use Rattle.ivl_within.proofs.within.add_within.Goals as goal

pub returns-clause-cut : goal.returns-clause-cut
returns-clause-cut g c = tells_cut g.B.Width.whole Sum c.args.a.now c.args.b.now c.fits_add-is_cut.result c.in_ok-combine_all.ensures.left c.in_ok-combine_all.ensures.right c.fits_add-is_cut.ensures

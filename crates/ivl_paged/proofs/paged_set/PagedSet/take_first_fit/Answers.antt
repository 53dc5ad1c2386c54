use Rattle.ivl_laws.specs.Runs.{Covers}
use Rattle.ivl_places.proofs.Fits.{fit_splits_none}
use Rattle.ivl_paged.proofs.paged_set.PagedSet.take_first_fit.Goals as goal

pub unwrap-requires : goal.unwrap-requires
unwrap-requires g c = c.remove_interval.ensures.in_place (fit_splits_none (g.B.Output.SizeNumber.size c.args.count) (Covers c.args.self.now) c.in_ok-run.run' c.in_ok-run.ensures)

use Rattle.std.proofs.Common.{◌∙◌}
use Rattle.ivl_images.proofs.Images.{open_here_seen}
use Rattle.ivl_laws.proofs.Adding.{untrue}
use Rattle.ivl_laws.proofs.Intervals.{not_crossed}
use Rattle.ivl_within.proofs.within.by_runs.pairs_in_window.Goals as goal

pub reach-requires : goal.reach-requires
reach-requires g c = record {
  filled = open_here_seen c.as_slice-run-items.result.now c.args.a.now c.loop-run.run-index c.run-item.result (c.as_slice-run-items.ensures.value ∙ c.iter.ensures.rest) c.iter.ensures.runs.maximal c.loop-run-test.true c.run-item.is;
  window = not_crossed _ (untrue _ c.if-is_empty.false c.is_empty.ensures.crossed);
}

use Rattle.ivl_laws.proofs.Intervals.{IsCountOf-width_of}
use Rattle.ivl_laws.proofs.Widths.{IsCountOf-total_width}
use Rattle.ivl_set_laws.proofs.sizes.counts_are_widths.Goals as goal

pub returns-clause-interval : goal.returns-clause-interval
returns-clause-interval c = IsCountOf-width_of

pub returns-clause-runs : goal.returns-clause-runs
returns-clause-runs c = IsCountOf-total_width

use Rattle.ivl_laws.specs.Bounds.{width_of}
use Rattle.ivl_laws.specs.Sets.{Below, IsBetween}
use Rattle.ivl_laws.specs.Runs.{Covers, IsRunsOf}
use Rattle.ivl_paged.specs.Operations.{KeptBy}
use Rattle.ivl_paged.specs.Pages.{flattened}
use Rattle.ivl_paged.proofs.combine.combined.Given as goal

-- the members below the next window
abbrev pub invariant-windows : goal.invariant-windows
invariant-windows g l = record {
  in_range : IsBetween g.B.Width.whole (g.B.Width.value l.lower);
  made : IsRunsOf (flattened l.pages) (Below (g.B.Width.value l.lower) (KeptBy l.op (Covers (g.S.Parts.runs l.first)) (Covers (g.T.Parts.runs l.second))));
}

abbrev pub decreases-windows : goal.decreases-windows
decreases-windows g l = width_of (g.B.Width.value l.lower, g.B.Width.whole.1)

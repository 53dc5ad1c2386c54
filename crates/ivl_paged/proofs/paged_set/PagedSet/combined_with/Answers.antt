use Rattle.ivl_laws.specs.Runs.{Covers}
use Rattle.ivl_laws.specs.Sets.{IsBetween}
use Rattle.ivl_laws.proofs.Ranges.{IsRunListIn-runs}
use Rattle.ivl_paged.specs.Operations.{KeptBy}
use Rattle.ivl_paged.specs.Pages.{flattened}
use Rattle.ivl_paged.proofs.Combining.{kept_within}
use Rattle.ivl_paged.proofs.paged_set.PagedSet.combined_with.Goals as goal

pub invariant_of-result : goal.invariant_of-result
invariant_of-result g c =
    IsRunListIn-runs g.B.Width.whole (flattened c.in_ok-pages.pages) (KeptBy c.args.op (Covers c.args.self.now) (Covers (g.T.Parts.runs c.args.other.now))) c.in_ok-pages.ensures
    (kept_within c.args.op (Covers c.args.self.now) (Covers (g.T.Parts.runs c.args.other.now)) (IsBetween g.B.Width.whole) c.in_whole.ensures.within c.requires.within)

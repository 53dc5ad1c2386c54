use Rattle.ivl_paged.specs.Pages.{flattened}
use Rattle.ivl_paged.proofs.Retaining.{IsRunListIn-filtered}
use Rattle.ivl_paged.proofs.paged_set.PagedSet.retain.Goals as goal

pub invariant_of-self : goal.invariant_of-self
invariant_of-self g c = IsRunListIn-filtered _ g.B.Width.whole c.args.keeps c.args.self.now (flattened c.in_ok-pages.pages) c.in_whole.ensures c.in_ok-pages.ensures

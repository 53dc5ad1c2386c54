use Rattle.ivl_paged.proofs.PageSearch.{found}
use Rattle.ivl_paged.proofs.page_search.find_run.Goals as goal

pub returns-clause-run : goal.returns-clause-run
returns-clause-run g c =
    let at = c.starts_up_to-place.ensures in
    found (g.B.Width.value c.args.value) c.args.runs.now c.run_before.result c.run_before.ensures.held (λ e. c.run_before.ensures.none e at.at_most at.starts at.above)

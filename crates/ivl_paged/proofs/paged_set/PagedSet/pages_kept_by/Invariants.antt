use Rattle.std.proofs.Common.{◌++◌}
use Rattle.ivl_paged.specs.Pages.{flattened}
use Rattle.ivl_paged.proofs.Retaining.{IsKeptSoFar}
use Rattle.ivl_paged.proofs.paged_set.PagedSet.pages_kept_by.Given as goal

-- the runs that are kept so far stand in the pages and behind them
abbrev pub invariant-runs : goal.invariant-runs
invariant-runs g l =
    goal.F-IsAlwaysCallable g l.keeps
    × IsKeptSoFar (λ f run b u. goal.F-step g f (g.B.Width.at run.0) (g.B.Width.at run.1) b u) l.fn.keeps l.keeps l.fn.self l.left (flattened l.pages ++ l.kept.items)

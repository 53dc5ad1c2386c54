use Rattle.std.proofs.Common.{ℤ, List, subst}
use Rattle.ivl_laws.specs.Runs.{Covers}
use Rattle.ivl_places.specs.FirstFit.{FitsAt}
use Rattle.ivl_paged.specs.Parts.{IsShortestRun}
use Rattle.ivl_paged.proofs.Shortest.{fit_of_shortest}
use Rattle.ivl_paged.proofs.paged_set.PagedSet.best_fit.Goals as goal

pub returns-in_err-run : goal.returns-in_err-run
returns-in_err-run g c = rw c.from_residual.ensures (subst (λ (L : List (ℤ × ℤ)). (v : ℤ) → ¬ (FitsAt (g.B.Output.SizeNumber.size c.args.count) (Covers L) v)) c.self.view_is c.in_err-run.ensures)

pub returns : goal.returns
returns g c =
    fit_of_shortest (g.B.Output.SizeNumber.size c.args.count) (Covers c.args.self.now) c.in_ok-run.run' (g.B.Width.value c.lower_bound.result) c.first_fit_from.result c.requires
    (subst (λ (L : List (ℤ × ℤ)). IsShortestRun (g.B.Output.SizeNumber.size c.args.count) (Covers L) c.in_ok-run.run') c.self.view_is c.in_ok-run.ensures) c.lower_bound.ensures c.first_fit_from.ensures

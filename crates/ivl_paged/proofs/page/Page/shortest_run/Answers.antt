use Rattle.std.proofs.Common.{ℤ, List, subst}
use Rattle.ivl_laws.specs.Runs.{Covers}
use Rattle.ivl_paged.proofs.Shortest.{IsBestSoFar, shortest_by_fit}
use Rattle.ivl_places.specs.FirstFit.{FitsAt}
use Rattle.ivl_paged.proofs.page.Page.shortest_run.Goals as goal

pub returns-in_err-fit : goal.returns-in_err-fit
returns-in_err-fit g c =
    rw c.from_residual.ensures (subst (λ (L : List (ℤ × ℤ)). (v : ℤ) → ¬ (FitsAt (g.B.Output.SizeNumber.size c.args.count) (Covers L) v)) c.self.view_is c.in_err-fit.ensures)

pub returns : goal.returns
returns g c =
    subst (λ (L : List (ℤ × ℤ)). IsBestSoFar (g.B.Output.SizeNumber.size c.args.count) (Covers L) c.run_at.result) c.self.view_is
    (shortest_by_fit (g.B.Output.SizeNumber.size c.args.count) (Covers c.self.inside.set) c.in_ok-fit.fit (g.B.Width.value c.lower_bound.result) c.run_at.result c.in_ok-fit.ensures c.lower_bound.ensures c.run_at.ensures)

use Rattle.std.proofs.Common.{ℤ, List, subst}
use Rattle.ivl_laws.specs.Runs.{Covers}
use Rattle.ivl_places.proofs.FirstFit.{IsFitOf}
use Rattle.ivl_paged.proofs.paged_set.PagedSet.first_fit.Goals as goal

pub returns : goal.returns
returns g c = subst (λ (L : List (ℤ × ℤ)). IsFitOf (g.B.Output.SizeNumber.size c.args.count) (Covers L) c.fit_from.result) c.self.view_is c.fit_from.ensures

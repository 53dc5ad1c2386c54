use Rattle.std.proofs.Common.{List, ℤ, subst}
use Rattle.ivl_laws.specs.Sets.{Complement}
use Rattle.ivl_laws.specs.Runs.{Covers, IsRunsOf}
use Rattle.ivl_laws.proofs.Ranges.{IsRunListIn-runs}
use Rattle.ivl_paged.specs.Pages.{flattened}
use Rattle.ivl_laws.proofs.Lengths.{length_of_complement}
use Rattle.ivl_paged.proofs.paged_set.set_operands.PagedSetComplement.complement.Goals as goal

pub returns-clause-members : goal.returns-clause-members
returns-clause-members g c = subst (λ (L : List (ℤ × ℤ)). IsRunsOf (flattened c.in_ok-pages.pages) (Complement g.B.Width.whole (Covers L))) c.self.view_is c.in_ok-pages.ensures

pub returns-clause-runs_at_most : goal.returns-clause-runs_at_most
returns-clause-runs_at_most g c = length_of_complement g.B.Width.whole c.args.self.now (flattened c.in_ok-pages.pages)
    (subst (λ (L : List (ℤ × ℤ)). IsRunsOf (flattened c.in_ok-pages.pages) (Complement g.B.Width.whole (Covers L))) c.self.view_is c.in_ok-pages.ensures)

pub invariant_of-result : goal.invariant_of-result
invariant_of-result g c = IsRunListIn-runs g.B.Width.whole (flattened c.in_ok-pages.pages) (Complement g.B.Width.whole (Covers (flattened c.self.inside.pages))) c.in_ok-pages.ensures (λ z s. s.0)

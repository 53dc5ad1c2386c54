use Rattle.std.proofs.Common.{ℤ, List, subst}
use Rattle.ivl_laws.specs.Sets.{IsBetween}
use Rattle.ivl_laws.specs.Runs.{Covers, IsRunsOf}
use Rattle.ivl_laws.proofs.SetLaws.{IsRunsOf-same}
use Rattle.ivl_places.specs.Windows.{OfRunsThatMeet}
use Rattle.ivl_paged.proofs.Meeting.{inside_of_met, met_is_maximal, runs_in_whole, same_runs_met}
use Rattle.ivl_paged.proofs.paged_set.PagedSet.runs_within.Goals as goal

pub runs_of_parts-requires-clause-maximal : goal.runs_of_parts-requires-clause-maximal
runs_of_parts-requires-clause-maximal g c = met_is_maximal c.self.inside.pages c.met_by.result.now c.args.window.now c.self.invariant.maximal c.met_by.ensures

pub runs_of_parts-requires-clause-inside : goal.runs_of_parts-requires-clause-inside
runs_of_parts-requires-clause-inside g c = inside_of_met c.self.inside.pages c.met_by.result.now c.args.window.now c.self.invariant.maximal c.met_by.ensures

pub returns-clause-members : goal.returns-clause-members
returns-clause-members g c =
    subst (λ (L : List (ℤ × ℤ)). IsRunsOf c.runs_of_parts.result (OfRunsThatMeet (IsBetween c.args.window.now) (Covers L))) c.self.view_is
    (IsRunsOf-same _ _ c.runs_of_parts.result (same_runs_met c.self.inside.pages c.met_by.result.now c.args.window.now c.self.invariant.maximal c.met_by.ensures) c.runs_of_parts.ensures.members)

pub returns-clause-within : goal.returns-clause-within
returns-clause-within g c = runs_in_whole g.B.Width.whole c.self.inside.pages c.runs_of_parts.result c.args.self.now c.args.window.now c.self.invariant c.self.view_is (returns-clause-members g c)

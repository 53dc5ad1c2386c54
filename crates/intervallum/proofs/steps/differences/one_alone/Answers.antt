use Rattle.std.proofs.Common.{⊎_elim}
use Rattle.ivl_laws.specs.Sets.{SymmetricDifference}
use Rattle.ivl_walks.proofs.RunBounds.{length_of_one_alone}
use Rattle.ivl_places.proofs.Merged.{list_of_pairs, merged_list, merged_runs}
use Rattle.intervallum.proofs.steps.differences.one_alone.Goals as goal

pub symmetric_difference-requires-clause-first : goal.symmetric_difference-requires-clause-first
symmetric_difference-requires-clause-first g c = list_of_pairs g.B.Width.whole c.args.first.now c.as_runs-a.result.now c.as_runs-a.ensures.same c.as_runs-a.ensures.runs

pub symmetric_difference-requires-clause-second : goal.symmetric_difference-requires-clause-second
symmetric_difference-requires-clause-second g c = list_of_pairs g.B.Width.whole c.args.second.now c.as_runs-b.result.now c.as_runs-b.ensures.same c.as_runs-b.ensures.runs

pub set_of-requires : goal.set_of-requires
set_of-requires g c =
    let r = merged_runs SymmetricDifference c.args.first.now c.args.second.now c.as_runs-a.result.now c.as_runs-b.result.now c.symmetric_difference.new.out.items _ c.as_runs-a.ensures.same c.as_runs-b.ensures.same c.symmetric_difference.ensures in
    merged_list g.B.Width.whole _ c.symmetric_difference.new.out.items r (λ z s. ⊎_elim (λ w. c.as_runs-a.ensures.runs.within z w.0) (λ w. c.as_runs-b.ensures.runs.within z w.0) s)

pub returns-clause-members : goal.returns-clause-members
returns-clause-members g c =
    rw c.set_of.ensures
    (merged_runs SymmetricDifference c.args.first.now c.args.second.now c.as_runs-a.result.now c.as_runs-b.result.now c.symmetric_difference.new.out.items _ c.as_runs-a.ensures.same c.as_runs-b.ensures.same c.symmetric_difference.ensures)

pub returns-clause-runs_at_most : goal.returns-clause-runs_at_most
returns-clause-runs_at_most g c = length_of_one_alone c.args.first.now c.args.second.now c.set_of.result (returns-clause-members g c)

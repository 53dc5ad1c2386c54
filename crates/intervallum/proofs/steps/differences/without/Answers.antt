use Rattle.ivl_laws.specs.Sets.{Without}
use Rattle.ivl_walks.proofs.RunBounds.{length_of_without}
use Rattle.ivl_places.proofs.Merged.{list_of_pairs, merged_list, merged_runs, no_pairs}
use Rattle.intervallum.proofs.steps.differences.without.Goals as goal

pub difference-requires-clause-first : goal.difference-requires-clause-first
difference-requires-clause-first g c = list_of_pairs g.B.Width.whole c.args.first.left c.rest.result.now c.rest.ensures.left c.rest.ensures.runs

pub difference-requires-clause-second : goal.difference-requires-clause-second
difference-requires-clause-second g c = list_of_pairs g.B.Width.whole c.args.second.left c.rest-2.result.now c.rest-2.ensures.left c.rest-2.ensures.runs

pub difference-requires-clause-empty : goal.difference-requires-clause-empty
difference-requires-clause-empty g c = no_pairs c.in_ok-runs.runs.items c.in_ok-runs.ensures.items

pub set_of-requires : goal.set_of-requires
set_of-requires g c =
    let A = c.args.first.left in
    let B = c.args.second.left in
    let r = merged_runs Without A B c.rest.result.now c.rest-2.result.now c.difference.new.out.items _ c.rest.ensures.left c.rest-2.ensures.left c.difference.ensures in
    merged_list g.B.Width.whole _ c.difference.new.out.items r (λ z s. c.rest.ensures.runs.within z s.0)

pub returns-clause-members : goal.returns-clause-members
returns-clause-members g c =
    rw c.set_of.ensures
    (merged_runs Without c.args.first.left c.args.second.left c.rest.result.now c.rest-2.result.now c.difference.new.out.items _ c.rest.ensures.left c.rest-2.ensures.left c.difference.ensures)

pub returns-clause-runs_at_most : goal.returns-clause-runs_at_most
returns-clause-runs_at_most g c = length_of_without c.args.first.left c.args.second.left c.set_of.result (returns-clause-members g c)

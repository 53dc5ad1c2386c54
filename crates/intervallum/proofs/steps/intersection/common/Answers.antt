use Rattle.ivl_laws.specs.Sets.{Intersection}
use Rattle.ivl_laws.proofs.Lengths.{length_of_intersection}
use Rattle.ivl_places.proofs.Merged.{list_of_pairs, merged_list, merged_runs, no_pairs}
use Rattle.intervallum.proofs.steps.intersection.common.Goals as goal

pub intersection-requires-clause-first : goal.intersection-requires-clause-first
intersection-requires-clause-first g c = list_of_pairs g.B.Width.whole c.args.first.left c.rest.result.now c.rest.ensures.left c.rest.ensures.runs

pub intersection-requires-clause-second : goal.intersection-requires-clause-second
intersection-requires-clause-second g c = list_of_pairs g.B.Width.whole c.args.second.left c.rest-2.result.now c.rest-2.ensures.left c.rest-2.ensures.runs

pub intersection-requires-clause-empty : goal.intersection-requires-clause-empty
intersection-requires-clause-empty g c = no_pairs c.in_ok-runs.runs.items c.in_ok-runs.ensures.items

pub set_of-requires : goal.set_of-requires
set_of-requires g c =
    let A = c.args.first.left in
    let B = c.args.second.left in
    let r = merged_runs Intersection A B c.rest.result.now c.rest-2.result.now c.intersection.new.out.items _ c.rest.ensures.left c.rest-2.ensures.left c.intersection.ensures in
    merged_list g.B.Width.whole _ c.intersection.new.out.items r (λ z s. c.rest.ensures.runs.within z s.0)

pub returns-clause-members : goal.returns-clause-members
returns-clause-members g c =
    rw c.set_of.ensures
    (merged_runs Intersection c.args.first.left c.args.second.left c.rest.result.now c.rest-2.result.now c.intersection.new.out.items _ c.rest.ensures.left c.rest-2.ensures.left c.intersection.ensures)

pub returns-clause-runs_at_most : goal.returns-clause-runs_at_most
returns-clause-runs_at_most g c = length_of_intersection c.args.first.left c.args.second.left c.set_of.result (returns-clause-members g c)

use Rattle.std.proofs.Common.{⊎_elim}
use Rattle.ivl_laws.specs.Sets.{Union}
use Rattle.ivl_laws.proofs.Lengths.{length_of_union}
use Rattle.ivl_places.proofs.Merged.{list_of_pairs, merged_list, merged_runs, no_pairs}
use Rattle.intervallum.proofs.steps.union.unite.Goals as goal

pub union-requires-clause-first : goal.union-requires-clause-first
union-requires-clause-first g c = list_of_pairs g.B.Width.whole c.args.first.left c.rest.result.now c.rest.ensures.left c.rest.ensures.runs

pub union-requires-clause-second : goal.union-requires-clause-second
union-requires-clause-second g c = list_of_pairs g.B.Width.whole c.args.second.left c.rest-2.result.now c.rest-2.ensures.left c.rest-2.ensures.runs

pub union-requires-clause-empty : goal.union-requires-clause-empty
union-requires-clause-empty g c = no_pairs c.in_ok-runs.runs.items c.in_ok-runs.ensures.items

pub set_of-requires : goal.set_of-requires
set_of-requires g c =
    let A = c.args.first.left in
    let B = c.args.second.left in
    let r = merged_runs Union A B c.rest.result.now c.rest-2.result.now c.union.new.out.items _ c.rest.ensures.left c.rest-2.ensures.left c.union.ensures in
    merged_list g.B.Width.whole _ c.union.new.out.items r (λ z s. ⊎_elim (λ a. c.rest.ensures.runs.within z a) (λ b. c.rest-2.ensures.runs.within z b) s)

pub returns-clause-members : goal.returns-clause-members
returns-clause-members g c =
    rw c.set_of.ensures
    (merged_runs Union c.args.first.left c.args.second.left c.rest.result.now c.rest-2.result.now c.union.new.out.items _ c.rest.ensures.left c.rest-2.ensures.left c.union.ensures)

pub returns-clause-runs_at_most : goal.returns-clause-runs_at_most
returns-clause-runs_at_most g c = length_of_union c.args.first.left c.args.second.left c.set_of.result (returns-clause-members g c)

use Rattle.ivl_laws.specs.Runs.{Covers}
use Rattle.ivl_places.proofs.MembersWithin.{of_many, open_between}
use Rattle.ivl_paged.proofs.MembersInPages.{none_came, none_came_back, of_no_run, of_one_run}
use Rattle.ivl_paged.proofs.paged_set.PagedSet.members_within.Goals as goal

pub returns-in_default-clause-members : goal.returns-in_default-clause-members
returns-in_default-clause-members g c =
    let none = none_came c.runs_within-between.result c.next.new.self c.next.result c.next.ensures.steps c.in_default.not-Some in
    (of_no_run (Covers c.args.self.now) c.args.window.now c.empty-none.result c.empty-none.result c.runs_within-between.result c.next.new.self c.runs_within-between.ensures.members none.0 none.1 c.empty-none.ensures.crossed c.empty-none.ensures.crossed).members

pub returns-in_default-next_back-clause-members : goal.returns-in_default-next_back-clause-members
returns-in_default-next_back-clause-members g c =
    let none = none_came_back c.next.new.self c.next_back.new.self c.next_back.result c.next_back.ensures.steps c.in_default-next_back.not-Some in
    (of_one_run (Covers c.args.self.now) c.args.window.now c.in-Some.run' c.intersection-first.result c.empty-none.result c.runs_within-between.result c.next.new.self c.next_back.new.self
    c.runs_within-between.ensures.members c.runs_within-between.ensures.overlap c.in-Some.ensures.steps none.0 none.1 c.intersection-first.ensures c.empty-none.ensures.crossed).members

pub returns-in_default-next_back-clause-ascending : goal.returns-in_default-next_back-clause-ascending
returns-in_default-next_back-clause-ascending g c =
    let none = none_came_back c.next.new.self c.next_back.new.self c.next_back.result c.next_back.ensures.steps c.in_default-next_back.not-Some in
    (of_one_run (Covers c.args.self.now) c.args.window.now c.in-Some.run' c.intersection-first.result c.empty-none.result c.runs_within-between.result c.next.new.self c.next_back.new.self
    c.runs_within-between.ensures.members c.runs_within-between.ensures.overlap c.in-Some.ensures.steps none.0 none.1 c.intersection-first.ensures c.empty-none.ensures.crossed).ascending

pub invariant_of-result-2 : goal.invariant_of-result-2
invariant_of-result-2 g c =
    open_between c.in-Some.run' c.in-Some-next_back.run' c.runs_within-between.result c.next.new.self c.next_back.new.self
    c.runs_within-between.ensures.members.maximal c.in-Some.ensures.steps c.in-Some-next_back.ensures.steps

pub returns-clause-members : goal.returns-clause-members
returns-clause-members g c =
    (of_many (Covers c.args.self.now) c.args.window.now c.in-Some.run' c.in-Some-next_back.run' c.intersection-first.result c.intersection.result c.runs_within-between.result c.next.new.self c.next_back.new.self
    c.runs_within-between.ensures.members c.runs_within-between.ensures.overlap c.in-Some.ensures.steps c.in-Some-next_back.ensures.steps c.intersection-first.ensures c.intersection.ensures).members

pub returns-clause-ascending : goal.returns-clause-ascending
returns-clause-ascending g c =
    (of_many (Covers c.args.self.now) c.args.window.now c.in-Some.run' c.in-Some-next_back.run' c.intersection-first.result c.intersection.result c.runs_within-between.result c.next.new.self c.next_back.new.self
    c.runs_within-between.ensures.members c.runs_within-between.ensures.overlap c.in-Some.ensures.steps c.in-Some-next_back.ensures.steps c.intersection-first.ensures c.intersection.ensures).ascending

use Rattle.std.proofs.Common.{◌++◌, refl}
use Rattle.ivl_places.specs.Members.{members_of, numbers_of}
use Rattle.ivl_places.proofs.Members.{IsReady, ready_as_is, ready_by_run, first_of_part, goes_by_first}
use Rattle.ivl_paged.proofs.MembersInPages.{ready_at_end}
use Rattle.ivl_paged.proofs.paged_set.members.MembersIterator.next.Goals.{then-is_empty, in-Some, in-None, else-is_empty}
use Rattle.ivl_paged.proofs.paged_set.members.MembersIterator.next.Goals as goal

pub returns-clause-steps : goal.returns-clause-steps
returns-clause-steps g c =
    let all = c.args.self.now in
    let old = c.self.inside in
    let now = c.if-is_empty.self-inside in
    let ready : IsReady all (numbers_of now.first) (members_of now.between ++ numbers_of now.last) = elim c.if-is_empty.branch [
      | then-is_empty w ↦ elim w.match-next.branch [
        | in-Some v ↦ rw (w.self-inside-is, v.self-is, v.self-inside-is) (ready_by_run all old.first old.last v.in-Some.run' old.between _ c.self.view_is c.self.invariant (w.if-is_empty.ensures.crossed.0 refl) v.in-Some.ensures.steps)
        | in-None v ↦ rw (w.self-inside-is, v.self-is, v.self-inside-is, v.replace-self-inside.ensures.value, v.replace-self-inside.ensures.after) (ready_at_end all old.first old.last v.empty.result old.between _ c.self.view_is (w.if-is_empty.ensures.crossed.0 refl) v.empty.ensures.crossed v.in-None.ensures.steps.0 v.in-None.ensures.steps.1)
      ]
      | else-is_empty w ↦ rw w.self-inside-is (ready_as_is all old.first old.last old.between c.self.view_is (w.if-is_empty.ensures.filled (λ e. cc)))
    ] in
    first_of_part g.B.Width.value all (numbers_of now.first) (numbers_of c.take_least.new.part) (members_of now.between) (numbers_of now.last) c.take_least.result ready c.take_least.ensures

pub returns-clause-goes : goal.returns-clause-goes
returns-clause-goes g c = goes_by_first g.B.Width.value c.args.self.now _ c.take_least.result (returns-clause-steps g c)

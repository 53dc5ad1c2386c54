use Rattle.std.proofs.Common.{◌++◌, ◌≤◌, ◌≤ℤ◌, ℤ, List, length, refl, subst}
use Rattle.std.specs.List.{AllByRecursion}
use Rattle.ivl_laws.specs.Bounds.{width_of}
use Rattle.ivl_places.specs.Members.{members_of, numbers_of}
use Rattle.ivl_places.proofs.Members.{IsReady, ready_as_is, ready_by_run, ready_by_last, first_of_part, filled_after, goes_by_first}
use Rattle.ivl_places.proofs.MemberCounts.{fewer_by_first}
use Rattle.intervallum.proofs.interval_set.members.MembersIterator.next.Goals.{then-is_empty, in-Some, in-None, else-is_empty}
use Rattle.intervallum.proofs.interval_set.members.MembersIterator.next.Goals as goal

pub returns-clause-steps : goal.returns-clause-steps
returns-clause-steps g c =
    let all = c.args.self.now in
    let old = c.self.inside in
    let now = c.if-is_empty.self-inside in
    let ready : IsReady all (numbers_of now.first) (members_of now.between.now ++ numbers_of now.last) = elim c.if-is_empty.branch [
      | then-is_empty w ↦ elim w.match-split_first.branch [
        | in-Some v ↦ rw (w.self-inside-is, v.self-is, v.self-inside-is) (ready_by_run all old.first old.last v.in-Some.run'.now old.between.now v.in-Some.rest.now c.self.view_is c.self.invariant.0 (w.if-is_empty.ensures.crossed.0 refl) v.in-Some.ensures.cases.0)
        | in-None v ↦ rw (w.self-inside-is, v.self-is, v.self-inside-is, v.replace-self-inside.ensures.value, v.replace-self-inside.ensures.after) (ready_by_last all old.first old.last v.empty.result old.between.now c.self.view_is (w.if-is_empty.ensures.crossed.0 refl) v.empty.ensures.crossed v.in-None.ensures.cases)
      ]
      | else-is_empty w ↦ rw w.self-inside-is (ready_as_is all old.first old.last old.between.now c.self.view_is (w.if-is_empty.ensures.filled (λ e. cc)))
    ] in
    first_of_part g.B.Width.value all (numbers_of now.first) (numbers_of c.take_least.new.part) (members_of now.between.now) (numbers_of now.last) c.take_least.result ready c.take_least.ensures

pub returns-clause-goes : goal.returns-clause-goes
returns-clause-goes g c = goes_by_first g.B.Width.value c.args.self.now _ c.take_least.result (returns-clause-steps g c)

pub invariant_of-self : goal.invariant_of-self
invariant_of-self g c =
    let old = c.self.inside in
    let now = c.if-is_empty.self-inside in
    let filled : AllByRecursion (λ run. run.0 ≤ℤ run.1) now.between.now = elim c.if-is_empty.branch [
      | then-is_empty w ↦ elim w.match-split_first.branch [
        | in-Some v ↦ rw (w.self-inside-is, v.self-inside-is) (filled_after v.in-Some.run'.now old.between.now v.in-Some.rest.now c.self.invariant.0 v.in-Some.ensures.cases.0)
        | in-None v ↦ rw (w.self-inside-is, v.self-inside-is) c.self.invariant.0
      ]
      | else-is_empty w ↦ rw w.self-inside-is c.self.invariant.0
    ] in
    (filled, fewer_by_first g.B.Width.value c.args.self.now _ c.take_least.result (width_of g.B.Width.whole) (returns-clause-steps g c) (subst (λ (M : List ℤ). length M ≤ width_of g.B.Width.whole) c.self.view_is c.self.invariant.1))

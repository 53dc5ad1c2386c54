use Rattle.std.proofs.Common.{◌≤◌, length, sym, subst, ℤ, List}
use Rattle.ivl_laws.specs.Bounds.{width_of}
use Rattle.ivl_laws.specs.Sets.{SameMembers}
use Rattle.ivl_laws.specs.Runs.{Covers}
use Rattle.ivl_laws.specs.Counts.{IsIn}
use Rattle.ivl_places.specs.Members.{IsAscending}
use Rattle.ivl_places.proofs.Members.{all_left, ascending_members, each_is_open, in_members}
use Rattle.ivl_places.proofs.MemberCounts.{members_counted}
use Rattle.intervallum.proofs.interval_set.IntervalSet.members.Goals as goal

pub invariant_of-result : goal.invariant_of-result
invariant_of-result g c = (
  each_is_open c.args.self.now c.as_runs.result.now c.as_runs.ensures.same c.as_runs.ensures.runs.maximal,
  subst (λ (M : List ℤ). length M ≤ width_of g.B.Width.whole)
      (sym (all_left c.args.self.now c.empty.result c.empty-2.result c.as_runs.result.now c.empty.ensures.crossed c.empty-2.ensures.crossed c.as_runs.ensures.same))
      (members_counted c.args.self.now g.B.Width.whole c.as_runs.ensures.runs),
)

pub returns-clause-left : goal.returns-clause-left
returns-clause-left g c = all_left c.args.self.now c.empty.result c.empty-2.result c.as_runs.result.now c.empty.ensures.crossed c.empty-2.ensures.crossed c.as_runs.ensures.same

pub returns-clause-members : goal.returns-clause-members
returns-clause-members g c = subst (λ (M : List ℤ). SameMembers (Covers c.args.self.now) (IsIn M)) (sym (returns-clause-left g c)) (in_members c.args.self.now)

pub returns-clause-ascending : goal.returns-clause-ascending
returns-clause-ascending g c = subst IsAscending (sym (returns-clause-left g c)) (ascending_members c.args.self.now c.as_runs.ensures.runs.maximal)

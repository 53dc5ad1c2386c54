use Rattle.std.proofs.Common.{◌≡◌, ℤ, ◌≤ℤ◌, [], subst, sym}
use Rattle.std.specs.List.{AllByRecursion}
use Rattle.ivl_laws.specs.Runs.{Covers}
use Rattle.ivl_places.proofs.MembersWithin.{IsListWithin, no_item, of_many, of_none, of_one, open_between, within_counted}
use Rattle.intervallum.proofs.interval_set.IntervalSet.members_within.Goals.{in-None-split_last, in-Some-split_last}
use Rattle.intervallum.proofs.interval_set.IntervalSet.members_within.Given as given
use Rattle.intervallum.proofs.interval_set.IntervalSet.members_within.Goals as goal

pub invariant_of-t-16 : goal.invariant_of-t-16
invariant_of-t-16 g c =
    let none : c.in-Some.rest.now ≡ [] = no_item c.in-Some.rest.now c.in-None-split_last.ensures.cases in
    let filled : AllByRecursion (λ (run : ℤ × ℤ). run.0 ≤ℤ run.1) c.in-Some.rest.now = subst (AllByRecursion (λ (run : ℤ × ℤ). run.0 ≤ℤ run.1)) (sym none) tt in (
      filled,
      within_counted c.args.self.now g.B.Width.whole c.args.window.now _ c.in_whole.ensures
          (of_one (Covers c.args.self.now) c.args.window.now c.in-Some.run'.now c.intersection-first.result c.empty-none.result c.runs_within-runs.result.now c.in-Some.rest.now
          c.runs_within-runs.ensures.members c.runs_within-runs.ensures.overlap c.in-Some.ensures.cases.0 c.in-None-split_last.ensures.cases c.intersection-first.ensures c.empty-none.ensures.crossed),
    )

pub invariant_of-result : goal.invariant_of-result
invariant_of-result g c =
    let filled = open_between c.in-Some.run'.now c.in-Some-split_last.run'.now c.runs_within-runs.result.now c.in-Some.rest.now c.in-Some-split_last.between.now
    c.runs_within-runs.ensures.members.maximal c.in-Some.ensures.cases.0 c.in-Some-split_last.ensures.cases.0 in (
      filled,
      within_counted c.args.self.now g.B.Width.whole c.args.window.now _ c.in_whole.ensures
          (of_many (Covers c.args.self.now) c.args.window.now c.in-Some.run'.now c.in-Some-split_last.run'.now c.intersection-first.result c.intersection.result
          c.runs_within-runs.result.now c.in-Some.rest.now c.in-Some-split_last.between.now c.runs_within-runs.ensures.members c.runs_within-runs.ensures.overlap
          c.in-Some.ensures.cases.0 c.in-Some-split_last.ensures.cases.0 c.intersection-first.ensures c.intersection.ensures),
    )

pub returns-in-None-clause-members : goal.returns-in-None-clause-members
returns-in-None-clause-members g c =
    (of_none (Covers c.args.self.now) c.args.window.now c.empty-none.result c.empty-none.result c.runs_within-runs.result.now c.runs_within-runs.ensures.members c.in-None.ensures.cases c.empty-none.ensures.crossed c.empty-none.ensures.crossed).members

pub returns-in-None-clause-ascending : goal.returns-in-None-clause-ascending
returns-in-None-clause-ascending g c =
    (of_none (Covers c.args.self.now) c.args.window.now c.empty-none.result c.empty-none.result c.runs_within-runs.result.now c.runs_within-runs.ensures.members c.in-None.ensures.cases c.empty-none.ensures.crossed c.empty-none.ensures.crossed).ascending

within : (g : given.Over) (c : goal.After-result g) → IsListWithin (Covers c.args.self.now) c.args.window.now c.match-split_last.result
within g c = elim c.match-split_last.branch [
  | in-None-split_last w ↦ rw w.result-is (of_one (Covers c.args.self.now) c.args.window.now c.in-Some.run'.now c.intersection-first.result c.empty-none.result c.runs_within-runs.result.now c.in-Some.rest.now
      c.runs_within-runs.ensures.members c.runs_within-runs.ensures.overlap c.in-Some.ensures.cases.0 w.in-None-split_last.ensures.cases c.intersection-first.ensures c.empty-none.ensures.crossed)
  | in-Some-split_last w ↦ rw w.result-is (of_many (Covers c.args.self.now) c.args.window.now c.in-Some.run'.now w.in-Some-split_last.run'.now c.intersection-first.result w.intersection.result
      c.runs_within-runs.result.now c.in-Some.rest.now w.in-Some-split_last.between.now c.runs_within-runs.ensures.members c.runs_within-runs.ensures.overlap
      c.in-Some.ensures.cases.0 w.in-Some-split_last.ensures.cases.0 c.intersection-first.ensures w.intersection.ensures)
]

pub returns-after-split_last-clause-members : goal.returns-after-split_last-clause-members
returns-after-split_last-clause-members g c = rw c.result.view_is (within g c).members

pub returns-after-split_last-clause-ascending : goal.returns-after-split_last-clause-ascending
returns-after-split_last-clause-ascending g c = rw c.result.view_is (within g c).ascending

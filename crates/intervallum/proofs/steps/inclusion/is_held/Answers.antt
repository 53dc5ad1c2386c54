use Rattle.std.proofs.Common.{◌≤ℤ◌, sym, subst, true≢false}
use Rattle.ivl_laws.proofs.Intervals.{some_is_not_crossed}
use Rattle.ivl_laws.proofs.Orders.{le_number}
use Rattle.ivl_places.proofs.Inclusions.{IsPassed, held_by_first, held_by_no_more, passed_open, passed_same}
use Rattle.ivl_walks.proofs.Walking.{test_of_bounds}
use Rattle.intervallum.proofs.steps.inclusion.is_held.Goals as goal

pub upper-requires : goal.upper-requires
upper-requires g c = (some_is_not_crossed c.args.run).1 c.requires

pub lower-requires : goal.lower-requires
lower-requires g c = (some_is_not_crossed c.in-Some.other).1 (passed_open _ c.args.walk.now.left c.skip_below.new.walk.left c.in-Some.other c.skip_below.ensures.within.maximal c.skip_below.ensures.taken c.in-Some.ensures.first.0)

pub returns-in-Some-clause-held : goal.returns-in-Some-clause-held
returns-in-Some-clause-held g c =
    let passed = subst (λ v. IsPassed v c.args.walk.now.left c.skip_below.new.walk.left) c.upper.ensures.value c.skip_below.ensures.taken in
    let reaches = subst (λ v. v ≤ℤ c.in-Some.other.1) c.upper.ensures.value c.in-Some.ensures.first.1 in
    let test = test_of_bounds c.le.result _ _ c.in-Some.other.0 c.args.run.0 c.lower.ensures.value c.lower-in-Some.ensures.value (le_number g.met.B.Width.ordered _ _ _ c.le.ensures) in
    let held = held_by_first c.args.walk.now.left c.skip_below.new.walk.left c.args.run c.in-Some.other c.skip_below.ensures.within.maximal c.requires passed c.in-Some.ensures.first.0 reaches in
    ((λ t. held.0 (test.0 t)), (λ s. test.1 (held.1 s)))

pub returns-in-Some-clause-left : goal.returns-in-Some-clause-left
returns-in-Some-clause-left g c =
    passed_same c.args.run.1 c.args.walk.now.left c.skip_below.new.walk.left (subst (λ v. IsPassed v c.args.walk.now.left c.skip_below.new.walk.left) c.upper.ensures.value c.skip_below.ensures.taken)

pub returns-in-None-clause-left : goal.returns-in-None-clause-left
returns-in-None-clause-left g c =
    passed_same c.args.run.1 c.args.walk.now.left c.skip_below.new.walk.left (subst (λ v. IsPassed v c.args.walk.now.left c.skip_below.new.walk.left) c.upper.ensures.value c.skip_below.ensures.taken)

pub returns-in-None-clause-held : goal.returns-in-None-clause-held
returns-in-None-clause-held g c = (
  λ t. absurd (true≢false (sym t)),
  λ s. absurd (held_by_no_more c.args.walk.now.left c.skip_below.new.walk.left c.args.run c.requires
      (subst (λ v. IsPassed v c.args.walk.now.left c.skip_below.new.walk.left) c.upper.ensures.value c.skip_below.ensures.taken) c.in-None.ensures.first s),
)

use Rattle.std.proofs.Common.{refl, sym, true≢false}
use Rattle.ivl_laws.specs.Sets.{Intersection}
use Rattle.ivl_laws.specs.Runs.{Covers}
use Rattle.ivl_laws.proofs.Intervals.{some_is_not_crossed}
use Rattle.ivl_laws.proofs.Orders.{lt_number}
use Rattle.ivl_laws.proofs.SetLaws.{same_members_trans}
use Rattle.ivl_interval.proofs.Pairs.{not_below}
use Rattle.ivl_walks.proofs.Intersections.{drops_first, drops_second, ends_before, ends_by, has_none_same, has_some_same, meet_here}
use Rattle.ivl_walks.proofs.Walking.{first_is_open}
use Rattle.intervallum.proofs.steps.intersection.have_common.Goals as goal

pub upper-requires : goal.upper-requires
upper-requires g c = (some_is_not_crossed c.in-Some.runs.0).1 (first_is_open c.walk.first.left _ c.in-Some.ensures.heads.0 c.in-Some.ensures.within.0.maximal)

pub lower-requires : goal.lower-requires
lower-requires g c = (some_is_not_crossed c.in-Some.runs.1).1 (first_is_open c.walk.second.left _ c.in-Some.ensures.heads.1 c.in-Some.ensures.within.1.maximal)

pub walk-preserved-then-lt : goal.walk-preserved-then-lt
walk-preserved-then-lt g c =
    let S = Intersection (Covers c.args.first.left) (Covers c.args.second.left) in
    let test = (lt_number g.met.B.Width.ordered _ _ _ c.lt.ensures).0 c.if-lt.true in
    same_members_trans _ _ S
    (drops_first c.walk.first.left c.advance.new.self.left c.walk.second.left c.in-Some.runs.0 c.in-Some.runs.1 c.in-Some.ensures.within.1.maximal
    c.in-Some.ensures.heads.0 c.in-Some.ensures.heads.1 c.advance.ensures.left
    (ends_before (g.B.Width.value c.upper.result) (g.B.Width.value c.lower.result) c.in-Some.runs.0.1 c.in-Some.runs.1.0 c.upper.ensures.value c.lower.ensures.value test))
    c.walk.invariant

pub walk-preserved : goal.walk-preserved
walk-preserved g c =
    let S = Intersection (Covers c.args.first.left) (Covers c.args.second.left) in
    let test = (lt_number g.met.B.Width.ordered _ _ _ c.lt-else-lt.ensures).0 c.if-lt-2.true in
    same_members_trans _ _ S
    (drops_second c.walk.first.left c.walk.second.left c.advance-then-lt-2.new.self.left c.in-Some.runs.0 c.in-Some.runs.1 c.in-Some.ensures.within.0.maximal
    c.in-Some.ensures.heads.0 c.in-Some.ensures.heads.1 c.advance-then-lt-2.ensures.left
    (ends_before (g.B.Width.value c.upper-else-lt.result) (g.B.Width.value c.lower-else-lt.result) c.in-Some.runs.1.1 c.in-Some.runs.0.0 c.upper-else-lt.ensures.value c.lower-else-lt.ensures.value test))
    c.walk.invariant

pub returns-else-lt-2 : goal.returns-else-lt-2
returns-else-lt-2 g c =
    let S = Intersection (Covers c.args.first.left) (Covers c.args.second.left) in
    let a = c.in-Some.runs.0 in
    let b = c.in-Some.runs.1 in
    let first = not_below _ _ _ (lt_number g.met.B.Width.ordered _ _ _ c.lt.ensures) c.if-lt.false in
    let second = not_below _ _ _ (lt_number g.met.B.Width.ordered _ _ _ c.lt-else-lt.ensures) c.if-lt-2.false in (
      (λ t. has_some_same _ S c.walk.invariant
          (meet_here c.walk.first.left c.walk.second.left a b c.in-Some.ensures.heads.0 c.in-Some.ensures.heads.1
          (first_is_open c.walk.first.left _ c.in-Some.ensures.heads.0 c.in-Some.ensures.within.0.maximal)
          (first_is_open c.walk.second.left _ c.in-Some.ensures.heads.1 c.in-Some.ensures.within.1.maximal)
          (ends_by (g.B.Width.value c.lower.result) (g.B.Width.value c.upper.result) b.0 a.1 c.lower.ensures.value c.upper.ensures.value first)
          (ends_by (g.B.Width.value c.lower-else-lt.result) (g.B.Width.value c.upper-else-lt.result) a.0 b.1 c.lower-else-lt.ensures.value c.upper-else-lt.ensures.value second))),
      (λ h. refl),
    )

pub returns : goal.returns
returns g c = (
  λ t. absurd (true≢false (sym t)),
  λ h. absurd (has_none_same _ (Intersection (Covers c.args.first.left) (Covers c.args.second.left)) c.walk.invariant c.in_default.ensures.heads h),
)

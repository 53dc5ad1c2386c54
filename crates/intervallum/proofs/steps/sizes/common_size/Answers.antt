use Rattle.std.proofs.Common.{ℕ, subst, sym, arith}
use Rattle.ivl_laws.specs.Sets.{Intersection}
use Rattle.ivl_laws.specs.Runs.{Covers}
use Rattle.ivl_laws.proofs.Intervals.{some_is_not_crossed}
use Rattle.ivl_laws.proofs.Orders.{le_number}
use Rattle.ivl_places.proofs.SetSizes.{IsCounted, counted_ends, counted_fits, counted_next, counted_starts}
use Rattle.ivl_walks.proofs.Walking.{first_is_open, one_is_taken, test_of_bounds}
use Rattle.intervallum.proofs.steps.sizes.common_size.Goals as goal

pub walk-init : goal.walk-init
walk-init g c = counted_starts _ (Intersection (Covers c.args.first.left) (Covers c.args.second.left)) c.zero-size.ensures

pub grown-size-requires : goal.grown-size-requires
grown-size-requires g c =
    counted_fits c.walk.first.left c.walk.second.left c.in-Some.heads.0 c.in-Some.heads.1 c.intersection.result (Intersection (Covers c.args.first.left) (Covers c.args.second.left))
    (g.B.Output.SizeNumber.size c.walk.size) (g.B.Output.SizeNumber.size c.size.result) c.in-Some.ensures.heads.0 c.in-Some.ensures.heads.1 c.walk.invariant c.intersection.ensures c.size.ensures.members
    g.B.Width.whole g.B.Output.SizeNumber.greatest (λ z s. c.in_whole.ensures.within z s.0) g.met.B.Width.countable

pub upper-requires : goal.upper-requires
upper-requires g c = (some_is_not_crossed c.in-Some.heads.0).1 (first_is_open c.walk.first.left _ c.in-Some.ensures.heads.0 c.in-Some.ensures.within.0.maximal)

pub upper-requires-in-Some : goal.upper-requires-in-Some
upper-requires-in-Some g c = (some_is_not_crossed c.in-Some.heads.1).1 (first_is_open c.walk.second.left _ c.in-Some.ensures.heads.1 c.in-Some.ensures.within.1.maximal)

pub walk-preserved : goal.walk-preserved
walk-preserved g c =
    let p = c.in-Some.heads.0 in
    let q = c.in-Some.heads.1 in
    let test = test_of_bounds c.le-ends_first.result _ _ p.1 q.1 c.upper.ensures.value c.upper-in-Some.ensures.value (le_number g.met.B.Width.ordered _ _ _ c.le-ends_first.ensures) in
    let S = Intersection (Covers c.args.first.left) (Covers c.args.second.left) in
    subst (λ (k : ℕ). IsCounted k (Intersection (Covers c.advance_if.new.self.left) (Covers c.advance_if-in-Some.new.self.left)) S) (sym c.grown-size.ensures)
    (counted_next c.walk.first.left c.walk.second.left p q c.intersection.result S (g.B.Output.SizeNumber.size c.walk.size) (g.B.Output.SizeNumber.size c.size.result)
    c.in-Some.ensures.heads.0 c.in-Some.ensures.heads.1 c.walk.invariant c.intersection.ensures c.size.ensures.members
    c.le-ends_first.result c.advance_if.new.self.left c.advance_if-in-Some.new.self.left c.in-Some.ensures.within.0.maximal c.in-Some.ensures.within.1.maximal
    test c.advance_if.ensures.taken c.advance_if-in-Some.ensures.taken)

pub walk-smaller : goal.walk-smaller
walk-smaller g c =
    let one = one_is_taken c.le-ends_first.result c.walk.first.left c.walk.second.left c.advance_if.new.self.left c.advance_if-in-Some.new.self.left
    c.advance_if.ensures.taken c.advance_if-in-Some.ensures.taken in
    omega (arith, one)

pub returns : goal.returns
returns g c = counted_ends _ _ _ c.walk.invariant c.in_default.ensures.heads

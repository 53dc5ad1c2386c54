use Rattle.std.proofs.Common.{◌∙◌, arith, sym}
use Rattle.std.proofs.Math.Bool.{true≢false}
use Rattle.std.proofs.lemmas.Int.{ints, by_lt_z}
use Rattle.ivl_laws.specs.Runs.{Covers}
use Rattle.ivl_laws.proofs.Adding.{untrue}
use Rattle.ivl_laws.proofs.Orders.{lt_number}
use Rattle.ivl_within.specs.Within.{SumsBy}
use Rattle.ivl_within.proofs.Stretches.{carried, goes_on, nearer, next_in_range, none_met, to_end, to_gap}
use Rattle.ivl_within.proofs.within.fronts.stretch.Goals as goal
use Rattle.ivl_within.proofs.within.fronts.stretch.Goals.{then-fronts-test+else-lt, else-fronts-test}

pub add_in_range-requires : goal.add_in_range-requires
add_in_range-requires g c =
    let v = g.B.Width.value in
    next_in_range g.B.Width.whole (v c.args.from) (v c.args.to) (v c.fronts.front.reach) (v c.one.result) c.requires.in_range.0 c.requires.in_range.1 (c.fronts.invariant.met c.fronts-test.true).0
    ((lt_number g.met.B.Width.ordered _ _ _ c.lt.ensures).0 c.if-lt.true) c.one.ensures

pub returns-then-not-further : goal.returns-then-not-further
returns-then-not-further g c =
    let v = g.B.Width.value in
    to_gap (SumsBy c.args.op (Covers c.args.a.now) (Covers c.args.b.now)) (v c.args.from) (v c.args.to) c.fronts.front.is_met (v c.fronts.front.reach) (v c.fronts.front.next) c.fronts.invariant c.fronts-test.true
    (v c.add_in_range.result) (v c.one.result) c.add_in_range.ensures c.one.ensures c.front_at-further.result.is_met (v c.front_at-further.result.reach) (v c.front_at-further.result.next) c.front_at-further.ensures
    c.if-not-further.true

pub fronts-smaller : goal.fronts-smaller
fronts-smaller g c =
    let v = g.B.Width.value in
    let less = (lt_number g.met.B.Width.ordered _ _ _ c.lt.ensures).0 c.if-lt.true in
    nearer (v c.fronts.front.reach) (v c.front_at-further.result.reach) (v c.args.to)
    (goes_on (SumsBy c.args.op (Covers c.args.a.now) (Covers c.args.b.now)) (v c.args.from) (v c.args.to) c.fronts.front.is_met (v c.fronts.front.reach) (v c.fronts.front.next) c.fronts.invariant c.fronts-test.true
    (v c.add_in_range.result) (v c.one.result) c.add_in_range.ensures c.one.ensures c.front_at-further.result.is_met (v c.front_at-further.result.reach) (v c.front_at-further.result.next) c.front_at-further.ensures
    c.if-not-further.false) (omega (arith, ints, less))

pub fronts-preserved : goal.fronts-preserved
fronts-preserved g c =
    let v = g.B.Width.value in
    carried (SumsBy c.args.op (Covers c.args.a.now) (Covers c.args.b.now)) (v c.args.from) (v c.args.to) c.fronts.front.is_met (v c.fronts.front.reach) (v c.fronts.front.next) c.fronts.invariant c.fronts-test.true
    (v c.add_in_range.result) (v c.one.result) c.add_in_range.ensures c.one.ensures c.front_at-further.result.is_met (v c.front_at-further.result.reach) (v c.front_at-further.result.next) c.front_at-further.ensures
    c.if-not-further.false

pub returns-then-front : goal.returns-then-front
returns-then-front g c =
    let v = g.B.Width.value in
    to_end (SumsBy c.args.op (Covers c.args.a.now) (Covers c.args.b.now)) (v c.args.from) (v c.args.to) c.fronts.front.is_met (v c.fronts.front.reach) (v c.fronts.front.next) c.fronts.invariant c.if-front.true (v c.args.from)
    (elim c.fronts-test.branch [
      | then-fronts-test+else-lt s ↦ by_lt_z (v c.fronts.front.reach) (v c.args.to) (λ h. absurd (untrue _ s.if-lt.false (lt_number g.met.B.Width.ordered _ _ _ s.lt.ensures) h)) (λ h. h)
      | else-fronts-test s ↦ absurd (true≢false (sym c.if-front.true ∙ s.fronts-test.false))
    ])

pub returns-else-front : goal.returns-else-front
returns-else-front g c =
    let v = g.B.Width.value in
    none_met (SumsBy c.args.op (Covers c.args.a.now) (Covers c.args.b.now)) (v c.args.from) (v c.args.to) c.fronts.front.is_met (v c.fronts.front.reach) (v c.fronts.front.next) c.fronts.invariant c.if-front.false

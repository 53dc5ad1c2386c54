use Rattle.std.proofs.Common.{◌<◌, ◌<ℤ◌, ◌≤ℤ◌, ℤ, Option, arith, subst, sym}
use Rattle.std.specs.Prelude.{MatchOption}
use Rattle.std.proofs.lemmas.Int.{ints}
use Rattle.ivl_laws.specs.Runs.{Covers}
use Rattle.ivl_laws.specs.Sets.{AtLeast, HasNone}
use Rattle.ivl_calendar.specs.Rooms.{IsRunFrom}
use Rattle.ivl_calendar.proofs.Taking.{left_first, left_last, left_next, left_none, width_left, width_smaller}
use Rattle.ivl_calendar.proofs.rooms.take_unnamed.Goals as goal

pub loop-next-init : goal.loop-next-init
loop-next-init c =
    (_, c.run_from-next.ensures, left_first c.args.free.now c.args.busy.now _ c.args.window (omega (arith, ints, c.lower_bound.ensures)) c.in_whole.ensures.maximal c.requires)

pub loop-next-preserved : goal.loop-next-preserved
loop-next-preserved c =
    let h = c.loop-next.invariant in
    let ends = subst (λ (o : Option (ℤ × ℤ)). MatchOption o (HasNone (AtLeast h.0 (Covers c.args.busy.now))) (IsRunFrom h.0 (Covers c.args.busy.now))) c.in-Some.is h.1 in (
      _,
      c.run_from-next-in-Some.ensures,
      left_next c.args.free.now c.args.busy.now c.loop-next.free c.remove_interval.new.self h.0 c.in-Some.run' h.2 ends c.in_ok-remove_interval.ensures.ok _
          (omega (arith, ints, c.upper_bound-in-Some-2.ensures, c.upper_bound-in-Some.ensures, c.upper_bound.ensures, c.if-upper_bound.false)),
    )

pub loop-next-smaller : goal.loop-next-smaller
loop-next-smaller c =
    let below : c.in-Some.run'.1 <ℤ c.args.window.1 = omega (arith, ints, c.upper_bound-in-Some.ensures, c.upper_bound.ensures, c.if-upper_bound.false) in
    subst (λ (o : Option (ℤ × ℤ)). width_left c.run_from-next-in-Some.result c.args.window < width_left o c.args.window) (sym c.in-Some.is)
    (width_smaller c.in-Some.run' c.run_from-next-in-Some.result _ c.args.busy.now c.args.window below
    (omega (arith, ints, c.upper_bound-in-Some-2.ensures, c.upper_bound-in-Some.ensures, c.upper_bound.ensures, c.if-upper_bound.false)) c.run_from-next-in-Some.ensures)

pub returns-then-upper_bound : goal.returns-then-upper_bound
returns-then-upper_bound c =
    let h = c.loop-next.invariant in
    let ends = subst (λ (o : Option (ℤ × ℤ)). MatchOption o (HasNone (AtLeast h.0 (Covers c.args.busy.now))) (IsRunFrom h.0 (Covers c.args.busy.now))) c.in-Some.is h.1 in
    let top : c.args.window.1 ≤ℤ c.in-Some.run'.1 = omega (arith, ints, c.upper_bound-in-Some.ensures, c.upper_bound.ensures, c.if-upper_bound.true) in
    left_last c.args.free.now c.args.busy.now c.loop-next.free c.remove_interval.new.self h.0 c.in-Some.run' h.2 ends c.in_ok-remove_interval.ensures.ok c.args.window c.requires top

pub returns : goal.returns
returns c =
    let h = c.loop-next.invariant in
    left_none c.args.free.now c.args.busy.now c.loop-next.free h.0 h.2
    (subst (λ (o : Option (ℤ × ℤ)). MatchOption o (HasNone (AtLeast h.0 (Covers c.args.busy.now))) (IsRunFrom h.0 (Covers c.args.busy.now))) c.in_default.is h.1)

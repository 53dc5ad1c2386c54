use Rattle.std.proofs.Common.{◌-◌, ℕ, suc, ◌≡◌, ℤ, ◌<ℤ◌, get_or, take, subst, sym, arith}
use Rattle.std.proofs.lemmas.Int.{ints}
use Rattle.std.proofs.lemmas.Option.{get_or_from_slice_get}
use Rattle.ivl_laws.proofs.Orders.{lt_number}
use Rattle.ivl_places.specs.Places.{EndBelow}
use Rattle.ivl_places.proofs.Searching.{below_to}
use Rattle.intervallum.proofs.interval_set.edits.spans.ends_before.Goals as goal

pub returns-then-place-count-clause-below : goal.returns-then-place-count-clause-below
returns-then-place-count-clause-below g c = λ t.
    let v = g.B.Width.value c.args.value in
    let L = c.args.probes.now.runs in
    let place = c.args.place in
    let run = c.look.result in
    let some = c.if-place-eq0.false in
    let most = c.if-place-count.true in
    let all = c.len-count.ensures.value in
    let is = c.upper.ensures.value in
    let low = (lt_number g.met.B.Width.ordered _ _ _ c.lt.ensures).0 t in
    let below : run.1 <ℤ v = omega (arith, ints, low, is) in
    let here : (get_or L (place - 1) run).1 <ℤ v = subst (λ (p : ℤ × ℤ). p.1 <ℤ v) (sym (get_or_from_slice_get L (place - 1) run run c.look.ensures.run)) below in
    let e : suc (place - 1) ≡ place = omega (arith, some) in
    subst (λ (n : ℕ). EndBelow v (take n L)) e (below_to v L (place - 1) run (omega (arith, some, most, all)) here c.len-count.ensures.runs.maximal)

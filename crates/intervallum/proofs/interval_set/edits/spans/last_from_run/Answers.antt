use Rattle.std.proofs.Common.{ℤ, List, length, ap, arith}
use Rattle.std.proofs.lemmas.Int.{ints}
use Rattle.ivl_laws.proofs.Orders.{le_number}
use Rattle.ivl_places.proofs.SpanEnds.{held_up_to, some_is_less}
use Rattle.ivl_places.proofs.Windows.{split_by_run}
use Rattle.intervallum.proofs.interval_set.edits.spans.last_from_run.Goals as goal

pub overflow_add-result : goal.overflow_add-result
overflow_add-result g c =
    let less = some_is_less c.args.probes.now.runs c.args.i _ c.requires.run in
    omega (arith, less)

pub last_up_to-requires-clause-at_most : goal.last_up_to-requires-clause-at_most
last_up_to-requires-clause-at_most g c =
    let less = some_is_less c.args.probes.now.runs c.args.i _ c.requires.run in
    let same = ap (λ (L : List (ℤ × ℤ)). length L) c.look-run.ensures.same in
    omega (arith, less, same)

pub returns-then-le-clause-starts : goal.returns-then-le-clause-starts
returns-then-le-clause-starts g c =
    let v : ℤ = g.B.Width.value c.args.value in
    let le = (le_number g.met.B.Width.ordered _ _ _ c.le.ensures).0 c.if-le.true in
    let up = c.upper.ensures.value in
    (split_by_run c.args.probes.now.runs c.args.i v c.in_whole.ensures.runs.maximal (held_up_to _ c.look-run.result v c.look-run.ensures.run c.requires.run (omega (arith, ints, le, up)))).starts

pub returns-then-le-clause-above : goal.returns-then-le-clause-above
returns-then-le-clause-above g c =
    let v : ℤ = g.B.Width.value c.args.value in
    let le = (le_number g.met.B.Width.ordered _ _ _ c.le.ensures).0 c.if-le.true in
    let up = c.upper.ensures.value in
    (split_by_run c.args.probes.now.runs c.args.i v c.in_whole.ensures.runs.maximal (held_up_to _ c.look-run.result v c.look-run.ensures.run c.requires.run (omega (arith, ints, le, up)))).above

pub returns-then-le-clause-at_most : goal.returns-then-le-clause-at_most
returns-then-le-clause-at_most g c =
    let less = some_is_less c.args.probes.now.runs c.args.i _ c.requires.run in
    omega (arith, less)

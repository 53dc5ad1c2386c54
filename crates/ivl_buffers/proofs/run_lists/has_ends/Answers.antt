use Rattle.std.proofs.Common.{◌-◌, ◌<◌, ◌≤ℤ◌, length, arith}
use Rattle.std.proofs.lemmas.Int.{ints}
use Rattle.ivl_laws.proofs.Orders.{le_number}
use Rattle.ivl_buffers.proofs.Links.{ends_at, some_from, starts_at}
use Rattle.ivl_buffers.proofs.run_lists.has_ends.Goals as goal

pub returns-then-le : goal.returns-then-le
returns-then-le g c =
    let pair = g.R.Pair.pair in
    let whole = g.R.Bound.Width.whole in
    let L = c.args.runs.now in
    let some : 0 < length L = some_from (length L) c.is_empty.result c.is_empty.ensures c.if-is_empty.false in
    let low = (le_number g.met.R.Bound.Width.ordered _ _ _ c.le.ensures).0 c.if-le.true in
    let least = c.min_value.ensures in
    let first = c.lower.ensures in
    let inside : whole.0 ≤ℤ (pair c.index-runs-0.result).0 = omega (arith, ints, low, least, first) in
    let starts = starts_at pair whole L c.index-runs-0.result some c.index-runs-0.is in
    let ends = ends_at pair whole L (length L - 1) c.index-runs-runs.result (omega (arith, some)) c.index-runs-runs.is in
    ((λ t. (starts.1 inside, ends.1 (c.is_run.ensures.0 t))), (λ (s, e). c.is_run.ensures.1 (ends.0 e)))

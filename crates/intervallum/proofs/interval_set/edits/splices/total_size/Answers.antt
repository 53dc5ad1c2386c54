use Rattle.std.proofs.Common.{arith, ap}
use Rattle.std.proofs.lemmas.List.Sums.{sum_by_more_le}
use Rattle.ivl_laws.specs.Bounds.{width_of}
use Rattle.intervallum.proofs.interval_set.edits.splices.total_size.Goals as goal

pub unwrap-total-requires : goal.unwrap-total-requires
unwrap-total-requires g c =
    let sum = sum_by_more_le width_of c.args.runs.now c.loop-run.run-index c.run-item.result c.loop-run-test.true in
    let same = ap width_of c.run-item.is in
    let so_far = c.loop-run.invariant in
    let width = c.size.ensures.width in
    let most = c.requires in
    c.checked_add.ensures.known.1 (omega (arith, sum, same, so_far, width, most))

use Rattle.std.proofs.Common.{◌+◌, take}
use Rattle.ivl_images.proofs.Images.{open_here}
use Rattle.ivl_laws.specs.Arithmetic.{pairwise}
use Rattle.ivl_laws.specs.Runs.{Covers}
use Rattle.ivl_within.specs.Within.{SumsBy, pair_by}
use Rattle.ivl_within.proofs.Clipping.{clipped_sums, rows_grow, some_sums, whole_window}
use Rattle.ivl_within.proofs.within.rows.push_rows.Goals as goal

pub push_row-requires-clause-filled : goal.push_row-requires-clause-filled
push_row-requires-clause-filled g c = open_here c.args.left.now c.loop-run.run-index c.run-item.result c.requires.left c.loop-run-test.true c.run-item.is

pub loop-run-preserved : goal.loop-run-preserved
loop-run-preserved g c =
    rows_grow c.args.window (pair_by c.args.op) c.args.entries.now.items c.loop-run.entries.items c.push_row.new.entries.items c.args.left.now c.args.right.now c.loop-run.run-index c.run-item.result
    c.loop-run-test.true c.run-item.is c.in_ok-push_row.ensures.added c.loop-run.invariant

pub returns-then-branch : goal.returns-then-branch
returns-then-branch g c =
    let left = c.args.left.now in
    let right = c.args.right.now in
    let n = c.loop-run.run-index + 1 in
    whole_window c.args.window c.args.entries.now.items c.push_row.new.entries.items (Covers (pairwise (pair_by c.args.op) (take n left) right)) (SumsBy c.args.op (Covers left) (Covers right))
    (rows_grow c.args.window (pair_by c.args.op) c.args.entries.now.items c.loop-run.entries.items c.push_row.new.entries.items left right c.loop-run.run-index c.run-item.result
    c.loop-run-test.true c.run-item.is c.in_ok-push_row.ensures.added c.loop-run.invariant)
    (some_sums c.args.op left right n c.requires.left c.requires.right.maximal)
    (c.in_ok-push_row.ensures.whole c.if-branch.true)

pub returns : goal.returns
returns g c =
    clipped_sums c.args.window c.args.op c.args.left.now c.args.right.now c.args.entries.now.items c.loop-run.entries.items c.loop-run.run-index c.requires.left c.requires.right.maximal
    c.loop-run-test.false c.loop-run.invariant

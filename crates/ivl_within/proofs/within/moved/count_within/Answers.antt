use Rattle.std.proofs.Common.{arith}
use Rattle.ivl_laws.specs.Runs.{Covers}
use Rattle.ivl_within.specs.Moved.{image_by, image_count}
use Rattle.ivl_within.specs.Within.{SumsBy}
use Rattle.ivl_within.proofs.Moved.{images_ascend, in_result}
use Rattle.ivl_within.proofs.Stretches.{run_kept}
use Rattle.ivl_within.proofs.within.moved.count_within.Goals as goal

pub walk-preserved-then-is_subset : goal.walk-preserved-then-is_subset
walk-preserved-then-is_subset g c =
    let a = c.args.a.now in
    let b = c.args.b.now in
    let S = SumsBy c.args.op (Covers a) (Covers b) in
    let run = c.index-runs-within.result in
    let up = images_ascend c.args.op a b c.requires.left c.requires.right c.requires.one in
    let there = c.if-place-count.true in
    let whole = in_result (image_by c.args.op a b) (image_count a b) S c.walk.place run c.image_at-image.result up (omega (arith, there, c.count_images-count.ensures)) c.image_at-image.ensures
    (c.is_subset.ensures.0 c.if-is_subset.true) in
    record {
      at_most = omega (arith, c.walk-test.true);
      within = run_kept S c.args.runs.now c.walk.within run c.walk-test.true c.index-runs-within.is whole c.walk.invariant.within;
    }

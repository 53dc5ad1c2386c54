use Rattle.std.proofs.Common.{◌<◌, ◌≤ℤ◌, ◌<ℤ◌, arith, inl, inr}
use Rattle.ivl_laws.specs.Runs.{Covers}
use Rattle.ivl_laws.proofs.Orders.{le_number, not_le}
use Rattle.ivl_within.specs.Moved.{image_by, image_count}
use Rattle.ivl_within.specs.Within.{SumsBy}
use Rattle.ivl_within.proofs.Moved.{common_all, images_ascend, next_image, next_run}
use Rattle.ivl_within.proofs.within.moved.push_common.Goals as goal

pub walk-preserved-then-le : goal.walk-preserved-then-le
walk-preserved-then-le g c =
    let a = c.args.a.now in
    let b = c.args.b.now in
    let run = c.index-runs-next.result in
    let image = c.image_at-image.result in
    let there : c.walk.place < image_count a b = omega (arith, c.if-place-count.true, c.count_images-count.ensures) in
    let low : image.1 ≤ℤ run.1 = rw (← c.upper_bound.ensures, ← c.upper_bound-in-walk.ensures) ((le_number g.met.B.Width.ordered _ _ _ c.le.ensures).0 c.if-le.true) in
    next_image (image_by c.args.op a b) (image_count a b) (SumsBy c.args.op (Covers a) (Covers b)) c.args.runs.now c.args.entries.now.items (images_ascend c.args.op a b c.requires.left c.requires.right c.requires.one)
    c.walk.entries.items c.push_part.new.entries.items c.walk.next c.walk.place run image c.intersection.result c.requires.runs c.walk-test.true there c.index-runs-next.is c.image_at-image.ensures
    c.intersection.ensures c.in_ok-push_part.ensures c.walk.invariant low

pub walk-preserved : goal.walk-preserved
walk-preserved g c =
    let a = c.args.a.now in
    let b = c.args.b.now in
    let run = c.index-runs-next.result in
    let image = c.image_at-image.result in
    let there : c.walk.place < image_count a b = omega (arith, c.if-place-count.true, c.count_images-count.ensures) in
    let high : run.1 <ℤ image.1 = rw (← c.upper_bound.ensures, ← c.upper_bound-in-walk.ensures) (not_le _ _ _ (le_number g.met.B.Width.ordered _ _ _ c.le.ensures) c.if-le.false) in
    next_run (image_by c.args.op a b) (image_count a b) (SumsBy c.args.op (Covers a) (Covers b)) c.args.runs.now c.args.entries.now.items (images_ascend c.args.op a b c.requires.left c.requires.right c.requires.one)
    c.walk.entries.items c.push_part.new.entries.items c.walk.next c.walk.place run image c.intersection.result c.requires.runs c.walk-test.true there c.index-runs-next.is c.image_at-image.ensures
    c.intersection.ensures c.in_ok-push_part.ensures c.walk.invariant high

pub returns-else-place-count : goal.returns-else-place-count
returns-else-place-count g c =
    let a = c.args.a.now in
    let b = c.args.b.now in
    common_all (image_by c.args.op a b) (image_count a b) (SumsBy c.args.op (Covers a) (Covers b)) c.args.runs.now c.args.entries.now.items (images_ascend c.args.op a b c.requires.left c.requires.right c.requires.one)
    c.walk.entries.items c.walk.next c.walk.place (inr (omega (arith, c.if-place-count.false, c.count_images-count.ensures))) c.walk.invariant

pub returns-after-walk : goal.returns-after-walk
returns-after-walk g c =
    let a = c.args.a.now in
    let b = c.args.b.now in
    common_all (image_by c.args.op a b) (image_count a b) (SumsBy c.args.op (Covers a) (Covers b)) c.args.runs.now c.args.entries.now.items (images_ascend c.args.op a b c.requires.left c.requires.right c.requires.one)
    c.walk.entries.items c.walk.next c.walk.place (inl c.walk-test.false) c.walk.invariant

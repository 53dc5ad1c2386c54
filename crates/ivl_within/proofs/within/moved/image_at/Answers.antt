use Rattle.std.proofs.Common.{arith}
use Rattle.ivl_images.proofs.Images.{open_here}
use Rattle.ivl_within.proofs.Fronts.{row_fits}
use Rattle.ivl_within.proofs.Moved.{count_of_other, image_of_other}
use Rattle.ivl_within.proofs.within.moved.image_at.Goals as goal

pub result_at-requires-else-a-eq1-clause-filled : goal.result_at-requires-else-a-eq1-clause-filled
result_at-requires-else-a-eq1-clause-filled g c =
    let count = count_of_other c.args.a.now c.args.b.now c.if-a-eq1.false in
    open_here c.args.a.now c.args.place c.index-a-place.result c.requires.left (omega (arith, count, c.requires.place)) c.index-a-place.is

pub result_at-requires-else-a-eq1-clause-fits : goal.result_at-requires-else-a-eq1-clause-fits
result_at-requires-else-a-eq1-clause-fits g c =
    let count = count_of_other c.args.a.now c.args.b.now c.if-a-eq1.false in
    row_fits c.args.op g.B.Width.whole c.args.a.now c.args.b.now c.args.place c.index-a-place.result (omega (arith, count, c.requires.place)) c.index-a-place.is c.requires.fits

pub returns-else-a-eq1 : goal.returns-else-a-eq1
returns-else-a-eq1 g c =
    let count = count_of_other c.args.a.now c.args.b.now c.if-a-eq1.false in
    image_of_other c.args.op c.args.a.now c.args.b.now c.index-a-place.result c.result_at-else-a-eq1.result c.args.place c.if-a-eq1.false (omega (arith, count, c.requires.place)) c.index-a-place.is c.result_at-else-a-eq1.ensures

use Rattle.std.proofs.Common.{arith}
use Rattle.ivl_places.proofs.Members.{greatest_apart}
use Rattle.ivl_paged.proofs.paged_set.members.take_greatest.Goals as goal

pub returns : goal.returns
returns g c =
    let e = c.is_empty.ensures in
    let f = c.if-is_empty.false in
    greatest_apart c.args.part.now c.strict_shrink_right.result (g.B.Width.value c.upper-greatest.result) (grind (arith, e, f)) c.upper-greatest.ensures.value c.strict_shrink_right.ensures

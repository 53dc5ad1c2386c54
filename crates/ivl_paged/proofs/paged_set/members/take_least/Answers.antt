use Rattle.std.proofs.Common.{arith}
use Rattle.ivl_places.proofs.Members.{least_apart}
use Rattle.ivl_paged.proofs.paged_set.members.take_least.Goals as goal

pub returns : goal.returns
returns g c =
    let e = c.is_empty.ensures in
    let f = c.if-is_empty.false in
    least_apart c.args.part.now c.strict_shrink_left.result (g.B.Width.value c.lower-least.result) (grind (arith, e, f)) c.lower-least.ensures.value c.strict_shrink_left.ensures

use Rattle.std.proofs.Common.{◌<◌, arith}
use Rattle.ivl_buffers.proofs.LeastMember.{fits_of}
use Rattle.ivl_buffers.proofs.lookup.lowest_fit.Goals as goal

pub returns : goal.returns
returns g c =
    let n = g.R.Bound.Output.SizeNumber.size c.args.count in
    let above : 0 < n = let some = c.if-number-eq0.false in let number = c.number.ensures.number in omega (arith, some, number) in
    fits_of n _ _ c.first_fit.result c.in_ok-set.ensures.members above c.first_fit.ensures

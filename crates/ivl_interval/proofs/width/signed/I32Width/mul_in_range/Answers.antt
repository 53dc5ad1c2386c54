use Rattle.std.proofs.Common.{lit<}
use mir.Syntax.{w32}
use Rattle.ivl_interval.proofs.Casts.{SFits-product, to_z-product}
use Rattle.ivl_interval.proofs.width.signed.I32Width.mul_in_range.Goals as goal

pub overflow_mul-result : goal.overflow_mul-result
overflow_mul-result c = SFits-product w32 _ _ c.args.self c.args.other (lit< tt) (lit< tt) c.ranges.self c.ranges.other c.requires

pub returns : goal.returns
returns c = to_z-product w32 _ _ c.args.self c.args.other (lit< tt) (lit< tt) c.ranges.self c.ranges.other c.requires

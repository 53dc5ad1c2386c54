use Rattle.std.proofs.Common.{arith}
use Rattle.ivl_paged.proofs.Bounding.{group_is_there, has_group, place_counted}
use Rattle.ivl_paged.proofs.longests.Longests.lower.Goals as goal

pub find-group-requires : goal.find-group-requires
find-group-requires g c = place_counted g.B.Output.SizeNumber.size c.self.inside.counts.items c.self.inside.mosts.items c.args.self.now c.self.invariant c.self.view_is c.args.i _ c.requires.less c.as_slice.ensures.value

pub index-requires : goal.index-requires
index-requires g c =
    let there = group_is_there c.self.inside.counts.items c.args.i c.find-group.result.0 c.find-group.result.1 (has_group g.B.Output.SizeNumber.size c.self.inside.counts.items c.self.inside.mosts.items c.args.self.now c.self.invariant c.self.view_is c.args.i c.find-group.result.0 c.find-group.result.1 c.as_slice.result.now c.as_slice.ensures.value c.find-group.ensures) in
    omega (arith, there, c.self.invariant)

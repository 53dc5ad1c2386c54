use Rattle.std.proofs.Common.{arith}
use Rattle.ivl_paged.proofs.Bounding.{at_most_same, group_is_there, has_group, place_counted, raised_here, raised_others}
use Rattle.ivl_paged.proofs.longests.Longests.raise.Goals as goal

pub returns-then-ge-clause-others : goal.returns-then-ge-clause-others
returns-then-ge-clause-others g c = at_most_same c.args.self.now

pub find-group-requires : goal.find-group-requires
find-group-requires g c = place_counted g.B.Output.SizeNumber.size c.self.inside.counts.items c.self.inside.mosts.items c.args.self.now c.self.invariant c.self.view_is c.args.i _ c.requires.less c.as_slice.ensures.value

pub index-requires : goal.index-requires
index-requires g c =
    let there = group_is_there c.self.inside.counts.items c.args.i c.find-group.result.0 c.find-group.result.1 (has_group g.B.Output.SizeNumber.size c.self.inside.counts.items c.self.inside.mosts.items c.args.self.now c.self.invariant c.self.view_is c.args.i c.find-group.result.0 c.find-group.result.1 c.as_slice.result.now c.as_slice.ensures.value c.find-group.ensures) in
    omega (arith, there, c.self.invariant)

pub index_mut-requires : goal.index_mut-requires
index_mut-requires g c =
    let there = group_is_there c.self.inside.counts.items c.args.i c.find-group.result.0 c.find-group.result.1 (has_group g.B.Output.SizeNumber.size c.self.inside.counts.items c.self.inside.mosts.items c.args.self.now c.self.invariant c.self.view_is c.args.i c.find-group.result.0 c.find-group.result.1 c.as_slice.result.now c.as_slice.ensures.value c.find-group.ensures) in
    omega (arith, there, c.self.invariant)

pub returns-clause-others : goal.returns-clause-others
returns-clause-others g c = raised_others g.B.Output.SizeNumber.size c.self.inside.counts.items c.self.inside.mosts.items c.args.self.now c.self.invariant c.self.view_is c.find-group.result.0 c.index.result.now c.greater.result c.index.ensures c.greater.ensures.at_least_x

pub returns-clause-here : goal.returns-clause-here
returns-clause-here g c = raised_here g.B.Output.SizeNumber.size c.self.inside.counts.items c.self.inside.mosts.items c.args.self.now c.self.invariant c.self.view_is c.args.i c.find-group.result.0 c.find-group.result.1 (g.B.Output.SizeNumber.size c.args.after) c.greater.result (has_group g.B.Output.SizeNumber.size c.self.inside.counts.items c.self.inside.mosts.items c.args.self.now c.self.invariant c.self.view_is c.args.i c.find-group.result.0 c.find-group.result.1 c.as_slice.result.now c.as_slice.ensures.value c.find-group.ensures) c.greater.ensures.at_least_y

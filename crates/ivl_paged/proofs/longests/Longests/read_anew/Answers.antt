use Rattle.std.proofs.Common.{◌-◌, ap, length, length-drop, length-take, take, drop, arith}
use Rattle.std.proofs.lemmas.List.{take_rest}
use Rattle.ivl_paged.proofs.Bounding.{bounded_length, counted_group, group_is_there, group_within, has_group, place_counted, read_group}
use Rattle.ivl_paged.proofs.longests.Longests.read_anew.Goals as goal

pub find-group-requires : goal.find-group-requires
find-group-requires g c =
    let same = bounded_length c.args.self.now c.args.pages.now c.requires in
    place_counted g.B.Output.SizeNumber.size c.self.inside.counts.items c.self.inside.mosts.items c.args.self.now c.self.invariant c.self.view_is c.args.i _ (omega (arith, same)) c.as_slice.ensures.value

pub overflow_sub-behind : goal.overflow_sub-behind
overflow_sub-behind g c = let w = group_within c.self.inside.counts.items c.args.i c.find-group.result.0 c.find-group.result.1 (has_group g.B.Output.SizeNumber.size c.self.inside.counts.items c.self.inside.mosts.items c.args.self.now c.self.invariant c.self.view_is c.args.i c.find-group.result.0 c.find-group.result.1 c.as_slice.result.now c.as_slice.ensures.value c.find-group.ensures) in w.1

pub index-requires : goal.index-requires
index-requires g c =
    let there = group_is_there c.self.inside.counts.items c.args.i c.find-group.result.0 c.find-group.result.1 (has_group g.B.Output.SizeNumber.size c.self.inside.counts.items c.self.inside.mosts.items c.args.self.now c.self.invariant c.self.view_is c.args.i c.find-group.result.0 c.find-group.result.1 c.as_slice.result.now c.as_slice.ensures.value c.find-group.ensures) in
    omega (arith, there, c.self.invariant)

pub slice_bounds-longest_of-end : goal.slice_bounds-longest_of-end
slice_bounds-longest_of-end g c =
    let same = bounded_length c.args.self.now c.args.pages.now c.requires in
    let w = counted_group g.B.Output.SizeNumber.size c.self.inside.counts.items c.self.inside.mosts.items c.args.self.now c.self.invariant c.self.view_is c.find-group.result.0 c.find-group.result.1 c.args.i c.index.result.now (has_group g.B.Output.SizeNumber.size c.self.inside.counts.items c.self.inside.mosts.items c.args.self.now c.self.invariant c.self.view_is c.args.i c.find-group.result.0 c.find-group.result.1 c.as_slice.result.now c.as_slice.ensures.value c.find-group.ensures) c.index.ensures in
    let high = w.1 in
    let rest = ap length (take_rest c.args.pages.now (c.args.i - c.find-group.result.1)) in
    let left = length-drop (c.args.i - c.find-group.result.1) c.args.pages.now in
    let part = length-take c.index.result.now (take (length c.args.pages.now - (c.args.i - c.find-group.result.1)) (drop (c.args.i - c.find-group.result.1) c.args.pages.now)) in
    omega (arith, same, high, rest, left, part)

pub index_mut-requires : goal.index_mut-requires
index_mut-requires g c =
    let there = group_is_there c.self.inside.counts.items c.args.i c.find-group.result.0 c.find-group.result.1 (has_group g.B.Output.SizeNumber.size c.self.inside.counts.items c.self.inside.mosts.items c.args.self.now c.self.invariant c.self.view_is c.args.i c.find-group.result.0 c.find-group.result.1 c.as_slice.result.now c.as_slice.ensures.value c.find-group.ensures) in
    omega (arith, there, c.self.invariant)

pub returns : goal.returns
returns g c = read_group g.B.Output.SizeNumber.size c.self.inside.counts.items c.self.inside.mosts.items c.args.self.now c.self.invariant c.self.view_is c.args.i c.find-group.result.0 c.find-group.result.1 c.index.result.now c.longest_of.result c.args.pages.now (has_group g.B.Output.SizeNumber.size c.self.inside.counts.items c.self.inside.mosts.items c.args.self.now c.self.invariant c.self.view_is c.args.i c.find-group.result.0 c.find-group.result.1 c.as_slice.result.now c.as_slice.ensures.value c.find-group.ensures) c.index.ensures c.requires c.longest_of.ensures.most

use Rattle.std.proofs.Common.{◌∙◌, ◌+◌, arith}
use Rattle.std.proofs.lemmas.List.{length-set}
use Rattle.ivl_paged.proofs.Bounding.{counted_group, group_is_there, has_group, place_counted, widened_in_group}
use Rattle.ivl_paged.proofs.longests.Longests.widen.Goals as goal

pub find-group-requires : goal.find-group-requires
find-group-requires g c = place_counted g.B.Output.SizeNumber.size c.self.inside.counts.items c.self.inside.mosts.items c.args.self.now c.self.invariant c.self.view_is c.args.i _ c.requires.less c.as_slice.ensures.value

pub index_mut-requires : goal.index_mut-requires
index_mut-requires g c =
    let there = group_is_there c.self.inside.counts.items c.args.i c.find-group.result.0 c.find-group.result.1 (has_group g.B.Output.SizeNumber.size c.self.inside.counts.items c.self.inside.mosts.items c.args.self.now c.self.invariant c.self.view_is c.args.i c.find-group.result.0 c.find-group.result.1 c.as_slice.result.now c.as_slice.ensures.value c.find-group.ensures) in
    omega (arith, there, c.self.invariant)

pub index-requires : goal.index-requires
index-requires g c =
    let there = group_is_there c.self.inside.counts.items c.args.i c.find-group.result.0 c.find-group.result.1 (has_group g.B.Output.SizeNumber.size c.self.inside.counts.items c.self.inside.mosts.items c.args.self.now c.self.invariant c.self.view_is c.args.i c.find-group.result.0 c.find-group.result.1 c.as_slice.result.now c.as_slice.ensures.value c.find-group.ensures) in
    omega (arith, there, c.self.invariant)

pub overflow_add-index_mut : goal.overflow_add-index_mut
overflow_add-index_mut g c =
    let w = counted_group g.B.Output.SizeNumber.size c.self.inside.counts.items c.self.inside.mosts.items c.args.self.now c.self.invariant c.self.view_is c.find-group.result.0 c.find-group.result.1 c.args.i c.index_mut.result.now (has_group g.B.Output.SizeNumber.size c.self.inside.counts.items c.self.inside.mosts.items c.args.self.now c.self.invariant c.self.view_is c.args.i c.find-group.result.0 c.find-group.result.1 c.as_slice.result.now c.as_slice.ensures.value c.find-group.ensures) c.index_mut.ensures.value in
    let high = w.1 in
    omega (arith, high, c.requires.fits)

pub divide-requires-clause-less : goal.divide-requires-clause-less
divide-requires-clause-less g c =
    let there = group_is_there c.self.inside.counts.items c.args.i c.find-group.result.0 c.find-group.result.1 (has_group g.B.Output.SizeNumber.size c.self.inside.counts.items c.self.inside.mosts.items c.args.self.now c.self.invariant c.self.view_is c.args.i c.find-group.result.0 c.find-group.result.1 c.as_slice.result.now c.as_slice.ensures.value c.find-group.ensures) in
    let same = length-set c.self.inside.counts.items c.find-group.result.0 (c.index_mut.result.now + 1) in
    omega (arith, there, same)

pub returns-then-index-ge-MOST_PAGES : goal.returns-then-index-ge-MOST_PAGES
returns-then-index-ge-MOST_PAGES g c = c.divide.ensures.bounds ∙ widened_in_group g.B.Output.SizeNumber.size c.self.inside.counts.items c.self.inside.mosts.items c.args.self.now c.self.invariant c.self.view_is c.args.i c.find-group.result.0 c.find-group.result.1 c.index_mut.result.now (has_group g.B.Output.SizeNumber.size c.self.inside.counts.items c.self.inside.mosts.items c.args.self.now c.self.invariant c.self.view_is c.args.i c.find-group.result.0 c.find-group.result.1 c.as_slice.result.now c.as_slice.ensures.value c.find-group.ensures) c.index_mut.ensures.value

pub returns-else-index-ge-MOST_PAGES : goal.returns-else-index-ge-MOST_PAGES
returns-else-index-ge-MOST_PAGES g c = widened_in_group g.B.Output.SizeNumber.size c.self.inside.counts.items c.self.inside.mosts.items c.args.self.now c.self.invariant c.self.view_is c.args.i c.find-group.result.0 c.find-group.result.1 c.index_mut.result.now (has_group g.B.Output.SizeNumber.size c.self.inside.counts.items c.self.inside.mosts.items c.args.self.now c.self.invariant c.self.view_is c.args.i c.find-group.result.0 c.find-group.result.1 c.as_slice.result.now c.as_slice.ensures.value c.find-group.ensures) c.index_mut.ensures.value

use Rattle.std.proofs.Common.{arith}
use Rattle.ivl_paged.proofs.Bounding.{group_found, group_there, total_more}
use Rattle.ivl_paged.proofs.longests.find.Goals as goal

pub bounds-counts-group : goal.bounds-counts-group
bounds-counts-group c = group_there c.args.counts.now c.args.i c.groups.group c.groups.left c.requires c.groups.invariant

pub groups-preserved : goal.groups-preserved
groups-preserved c =
    let less = group_there c.args.counts.now c.args.i c.groups.group c.groups.left c.requires c.groups.invariant in
    let more = total_more c.args.counts.now c.groups.group less in
    let is = c.groups.invariant in
    omega (arith, more, is)

pub returns : goal.returns
returns c =
    let less = group_there c.args.counts.now c.args.i c.groups.group c.groups.left c.requires c.groups.invariant in
    group_found c.args.counts.now c.args.i c.groups.group c.groups.left c.groups.invariant less (omega arith)

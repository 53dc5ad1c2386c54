use Rattle.std.proofs.Common.{rules, ◌<◌, length}
use Rattle.ivl_places.proofs.Listing.{in_range_by_ends}
use Rattle.intervallum.proofs.interval_set.run_lists.are_in_whole.Goals as goal

pub returns-then-not-is_empty : goal.returns-then-not-is_empty
returns-then-not-is_empty g c =
    let some : 0 < length c.args.runs.now = search rules in
    in_range_by_ends g.B.Width.whole c.index-runs-0.result c.index-runs-runs.result c.args.runs.now c.requires some c.index-runs-0.is c.index-runs-runs.is
    c.in_whole.ensures c.in_whole-then-not-is_empty.ensures

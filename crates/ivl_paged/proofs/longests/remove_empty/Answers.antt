use Rattle.std.proofs.Common.{◌∙◌, arith}
use Rattle.ivl_paged.proofs.Bounding.{emptied}
use Rattle.ivl_paged.proofs.longests.remove_empty.Goals as goal

pub groups-preserved-then-index-eq0 : goal.groups-preserved-then-index-eq0
groups-preserved-then-index-eq0 g c =
    let e = emptied g.N.SizeNumber.size c.groups.counts.items c.remove.new.self.items c.groups.mosts.items c.remove-then-index-eq0.new.self.items c.groups.group c.index.result.now c.groups.invariant.0 (omega arith) c.index.ensures (omega arith)
    c.remove.ensures.by_index.2 c.remove-then-index-eq0.ensures.by_index.2 in
    (e.0, e.1 ∙ c.groups.invariant.1)

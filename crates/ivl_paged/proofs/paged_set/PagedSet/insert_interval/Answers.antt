use Rattle.ivl_laws.proofs.Adding.{untrue}
use Rattle.ivl_laws.proofs.Intervals.{not_crossed}
use Rattle.ivl_images.proofs.Sweeping.{adds_nothing}
use Rattle.ivl_paged.proofs.paged_set.PagedSet.insert_interval.Goals as goal

pub add-requires : goal.add-requires
add-requires g c = not_crossed c.args.interval (untrue _ c.if-is_empty.false c.is_empty.ensures.crossed)

pub returns-then-is_empty-clause-ok : goal.returns-then-is_empty-clause-ok
returns-then-is_empty-clause-ok g c = adds_nothing c.args.self.now c.args.interval c.in_whole.ensures.maximal (c.is_empty.ensures.crossed.0 c.if-is_empty.true)

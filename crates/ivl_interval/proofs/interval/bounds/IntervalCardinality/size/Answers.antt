use Rattle.std.proofs.Common.{ap, sym, ◌∙◌}
use Rattle.ivl_laws.specs.Bounds.{width_of}
use Rattle.ivl_laws.proofs.Intervals.{width_of-crossed}
use Rattle.ivl_interval.proofs.Arithmetic.{ordered}
use Rattle.ivl_interval.proofs.Pairs.{count_by_width, not_that}
use Rattle.ivl_interval.proofs.interval.bounds.IntervalCardinality.size.Goals as goal

pub returns-then-is_empty : goal.returns-then-is_empty
returns-then-is_empty g c =
    let e = c.zero.ensures ∙ sym (width_of-crossed c.args.self.now (c.is_empty.ensures.crossed.0 c.if-is_empty.true)) in
    record { members = count_by_width _ _ e; width = e }

pub width-requires : goal.width-requires
width-requires g c = record {
  in_range = c.self.invariant.0;
  in_order = ordered _ _ _ c.self.view_is (not_that _ c.is_empty.ensures.crossed c.if-is_empty.false);
}

pub returns-else-is_empty : goal.returns-else-is_empty
returns-else-is_empty g c = let e = c.width.ensures ∙ ap width_of c.self.view_is in record { members = count_by_width _ _ e; width = e }

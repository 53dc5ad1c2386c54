use Rattle.std.proofs.Common.{inl}
use Rattle.ivl_paged.proofs.Bounding.{long_next, short_all, short_next, short_none}
use Rattle.ivl_paged.proofs.longests.longest_of.Goals as goal

pub loop-page-init : goal.loop-page-init
loop-page-init g c = (short_none c.args.pages.now (g.B.Output.SizeNumber.size c.zero-most.result), inl c.zero-most.ensures)

pub loop-page-preserved : goal.loop-page-preserved
loop-page-preserved g c = (
  short_next c.args.pages.now c.loop-page.page-index (g.B.Output.SizeNumber.size c.loop-page.most) (g.B.Output.SizeNumber.size c.longest.result) (g.B.Output.SizeNumber.size c.greater-most.result) c.page-item.result
      c.loop-page-test.true c.page-item.is c.loop-page.invariant.0 c.greater-most.ensures.at_least_x c.longest.ensures c.greater-most.ensures.at_least_y,
  long_next c.args.pages.now c.loop-page.page-index (g.B.Output.SizeNumber.size c.loop-page.most) (g.B.Output.SizeNumber.size c.longest.result) (g.B.Output.SizeNumber.size c.greater-most.result) c.page-item.result
      c.loop-page-test.true c.page-item.is c.loop-page.invariant.1 c.longest.ensures c.greater-most.ensures.either,
)

pub returns-clause-most : goal.returns-clause-most
returns-clause-most g c = short_all c.args.pages.now c.loop-page.page-index (g.B.Output.SizeNumber.size c.loop-page.most) c.loop-page-test.false c.loop-page.invariant.0

use Rattle.ivl_paged.proofs.Totals.{page_summed, pages_begin, pages_end}
use Rattle.ivl_paged.proofs.sizes.total_of.Goals as goal

pub loop-page-init : goal.loop-page-init
loop-page-init g c = pages_begin c.args.pages.now

pub loop-page-preserved : goal.loop-page-preserved
loop-page-preserved g c = page_summed c.args.pages.now c.page-item.result c.loop-page.page-index c.loop-page.total _ c.loop-page-test.true c.page-item.is c.loop-page.invariant c.member_count-total.ensures

pub returns : goal.returns
returns g c = pages_end c.args.pages.now c.loop-page.page-index c.loop-page.total c.loop-page-test.false c.loop-page.invariant

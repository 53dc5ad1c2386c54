use Rattle.std.proofs.Common.{◌*◌, ◌/◌, arith}
use Rattle.ivl_paged.proofs.Totals.{sum_begins, sum_ends, sum_goes}
use Rattle.ivl_paged.proofs.sizes.total_to.Goals as goal

pub loop-group-init : goal.loop-group-init
loop-group-init g c = sum_begins c.args.pages.now

pub loop-group-preserved : goal.loop-group-preserved
loop-group-preserved g c = sum_goes c.args.sizes.now c.args.pages.now c.loop-group.group c.loop-group.total c.requires.sizes c.loop-group.invariant

pub returns : goal.returns
returns g c = sum_ends c.args.pages.now c.loop-group.group (c.args.place / 64 * 64) c.args.place c.loop-group.total c.total_of.result (omega arith) (omega arith) c.loop-group.invariant c.total_of.ensures

use Rattle.ivl_blocks.proofs.Longest.{longest_in_list, longest_is_filled}
use Rattle.ivl_blocks.proofs.blocks.longest.Goals as goal

pub returns-clause-run : goal.returns-clause-run
returns-clause-run c = longest_in_list c.args.free.now c.longest_run.result c.in_whole.ensures.maximal c.longest_run.ensures.run c.longest_run.ensures.longest c.longest_run.ensures.lowest

pub returns-clause-filled : goal.returns-clause-filled
returns-clause-filled c = longest_is_filled c.args.free.now c.longest_run.result c.longest_run.ensures.run

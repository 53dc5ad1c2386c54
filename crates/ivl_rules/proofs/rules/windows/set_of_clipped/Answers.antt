use Rattle.ivl_rules.proofs.Clipping.{clipped_above, clipped_filled, clipped_more}
use Rattle.ivl_rules.proofs.rules.windows.set_of_clipped.Goals as goal

pub push_run-requires-clause-filled : goal.push_run-requires-clause-filled
push_run-requires-clause-filled g c =
    clipped_filled c.args.runs.now c.loop-run.set c.loop-run.run-index c.run-item.result c.intersection.result c.args.window c.loop-run-test.true c.run-item.is c.intersection.ensures c.requires.met

pub push_run-requires-clause-apart : goal.push_run-requires-clause-apart
push_run-requires-clause-apart g c =
    clipped_above c.args.runs.now c.loop-run.set c.loop-run.run-index c.run-item.result c.intersection.result c.args.window c.loop-run-test.true c.run-item.is c.intersection.ensures
    c.loop-run.invariant c.requires.runs.maximal
    (clipped_filled c.args.runs.now c.loop-run.set c.loop-run.run-index c.run-item.result c.intersection.result c.args.window c.loop-run-test.true c.run-item.is c.intersection.ensures c.requires.met)

pub loop-run-preserved : goal.loop-run-preserved
loop-run-preserved g c =
    clipped_more c.args.runs.now c.loop-run.set c.loop-run.run-index c.run-item.result c.intersection.result c.args.window c.loop-run-test.true c.run-item.is c.intersection.ensures
    c.loop-run.invariant c.push_run.new.self c.in_ok-push_run.ensures.ok

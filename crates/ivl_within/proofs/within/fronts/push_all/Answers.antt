use Rattle.ivl_images.proofs.Images.{open_here}
use Rattle.ivl_laws.specs.Runs.{Covers}
use Rattle.ivl_within.specs.Within.{SumsBy}
use Rattle.ivl_within.proofs.Stretches.{all_runs, none_yet, run_added}
use Rattle.ivl_within.proofs.within.fronts.push_all.Goals as goal

pub loop-run-init : goal.loop-run-init
loop-run-init g c = none_yet (SumsBy c.args.op (Covers c.args.a.now) (Covers c.args.b.now)) c.args.entries.now.items c.args.runs.now

pub push_results-requires-clause-filled : goal.push_results-requires-clause-filled
push_results-requires-clause-filled g c = open_here c.args.runs.now c.loop-run.run-index c.run-item.result c.requires.runs c.loop-run-test.true c.run-item.is

pub loop-run-preserved : goal.loop-run-preserved
loop-run-preserved g c =
    run_added (SumsBy c.args.op (Covers c.args.a.now) (Covers c.args.b.now)) c.args.entries.now.items c.loop-run.entries.items c.push_results.new.entries.items c.args.runs.now c.loop-run.run-index c.run-item.result
    c.loop-run-test.true c.run-item.is c.in_ok-push_results.ensures c.loop-run.invariant

pub returns : goal.returns
returns g c = all_runs (SumsBy c.args.op (Covers c.args.a.now) (Covers c.args.b.now)) c.args.entries.now.items c.loop-run.entries.items c.args.runs.now c.loop-run.run-index c.loop-run-test.false c.loop-run.invariant

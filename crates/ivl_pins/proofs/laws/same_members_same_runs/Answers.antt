use Rattle.std.proofs.Common.{ap}
use Rattle.std.proofs.lemmas.Bool.Decides.{nat_tests}
use Rattle.std.proofs.Common.{arith, ◌≡◌, length}
use Rattle.ivl_laws.proofs.Runs.{runs_are_unique}
use Rattle.ivl_pins.proofs.laws.same_members_same_runs.Goals as goal

pub returns-clause-runs : goal.returns-clause-runs
returns-clause-runs g c =
    runs_are_unique _ _ c.interval_count.ensures.runs.maximal c.interval_count-2.ensures.runs.maximal c.requires

pub returns-clause-counts : goal.returns-clause-counts
returns-clause-counts g c =
    let one = runs_are_unique _ _ c.interval_count.ensures.runs.maximal c.interval_count-2.ensures.runs.maximal c.requires in
    let counts : length c.args.a.now ≡ length c.args.b.now = ap length one in
    grind (arith, nat_tests, counts)

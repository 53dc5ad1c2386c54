use Rattle.ivl_laws.specs.Sets.{Differences, IsBetween, Sums}
use Rattle.ivl_laws.specs.Runs.{Covers}
use Rattle.ivl_within.specs.declared.within.Combined.TheVariants.{Difference, Sum}
use Rattle.ivl_store.proofs.NarrowedSets.{left_same, runs_keep}
use Rattle.ivl_store.proofs.store.narrowed_sets.narrowed_runs.Goals as goal

pub returns-clause-at_x : goal.returns-clause-at_x
returns-clause-at_x g c =
    left_same g.B.Width.whole c.args.x.now (IsBetween c.pair_in_window-in_x.result) (Differences (Covers c.args.z.now) (Covers c.args.y.now)) c.in_ok-left_of_x.left_of_x
    (runs_keep Difference _ _ _ _ _ _ _ c.only_run-run_of_x.ensures.is c.only_run-run_of_z.ensures.is c.only_run-run_of_y.ensures.is c.only_run-run_of_z.ensures.filled c.only_run-run_of_y.ensures.filled c.pair_in_window-in_x.ensures)
    c.in_ok-left_of_x.ensures

pub returns-clause-at_y : goal.returns-clause-at_y
returns-clause-at_y g c =
    left_same g.B.Width.whole c.args.y.now (IsBetween c.pair_in_window-in_y.result) (Differences (Covers c.args.z.now) (Covers c.args.x.now)) c.in_ok-left_of_y.left_of_y
    (runs_keep Difference _ _ _ _ _ _ _ c.only_run-run_of_y.ensures.is c.only_run-run_of_z.ensures.is c.only_run-run_of_x.ensures.is c.only_run-run_of_z.ensures.filled c.only_run-run_of_x.ensures.filled c.pair_in_window-in_y.ensures)
    c.in_ok-left_of_y.ensures

pub returns-clause-at_z : goal.returns-clause-at_z
returns-clause-at_z g c =
    left_same g.B.Width.whole c.args.z.now (IsBetween c.pair_in_window-in_z.result) (Sums (Covers c.args.x.now) (Covers c.args.y.now)) c.in_ok-left_of_z.left_of_z
    (runs_keep Sum _ _ _ _ _ _ _ c.only_run-run_of_z.ensures.is c.only_run-run_of_x.ensures.is c.only_run-run_of_y.ensures.is c.only_run-run_of_x.ensures.filled c.only_run-run_of_y.ensures.filled c.pair_in_window-in_z.ensures)
    c.in_ok-left_of_z.ensures

use Rattle.std.proofs.lemmas.Bool.{iff_false}
use Rattle.ivl_store.proofs.NarrowedSets.{run_left, run_left_all}
use Rattle.ivl_store.proofs.store.narrowed_sets.narrowed_run.Goals as goal

pub returns-then-eq : goal.returns-then-eq
returns-then-eq g c =
    run_left_all g.B.Width.whole c.args.x.now c.args.run c.args.left c.in_whole.ensures c.requires.one_run (c.eq.ensures.members.0 c.if-eq.true)

pub returns : goal.returns
returns g c =
    run_left g.B.Width.whole c.args.x.now c.in_ok-set_of_run.field-0 c.args.run c.args.left c.in_whole.ensures c.requires.one_run c.requires.within
    (iff_false c.eq.ensures.members c.if-eq.false) c.in_ok-set_of_run.ensures

use Rattle.ivl_laws.specs.Runs.{Covers}
use Rattle.ivl_paged.proofs.Touching.{reaching_run}
use Rattle.ivl_paged.proofs.touched.with_run_above.Goals as goal

pub returns-in-Some : goal.returns-in-Some
returns-in-Some g c =
    reaching_run g.B.Width.whole.1 (Covers c.args.page.now) c.args.interval.now c.new.result c.in-Some.run' _ _ _ _ c.lower.ensures.value c.upper.ensures.value c.one_above.ensures c.in-Some.ensures
    c.upper_bound.ensures c.new.ensures.value

use Rattle.std.proofs.Common.{ℤ, Some, Ok, refl}
use Rattle.std.specs.Prelude.{codes}
use Rattle.ivl_interval.specs.Text.{interval_text}
use Rattle.intervallum.proofs.Text.{next_run, closed}
use Rattle.intervallum.proofs.interval_set.text.IntervalSetDisplay.fmt.Goals as goal

pub loop-run-preserved : goal.loop-run-preserved
loop-run-preserved g c = λ plain.
    next_run (λ (p : ℤ × ℤ). interval_text p (g.B.Display.output (g.B.Width.at p.0)) (g.B.Display.output (g.B.Width.at p.1)))
    g.W.Write.write_str_gives c.args.f.now c.loop-run.f c.write-in-loop-run.new.self (Ok c.in_ok-write.field-0) (Some (codes "{")) c.as_runs-runs.result.now c.loop-run.run-index c.run-item.result
    refl c.loop-run-test.true c.run-item.is (c.loop-run.invariant plain) c.in_ok-write.ensures.writes

pub returns-clause-writes : goal.returns-clause-writes
returns-clause-writes g c =
    closed (λ (p : ℤ × ℤ). interval_text p (g.B.Display.output (g.B.Width.at p.0)) (g.B.Display.output (g.B.Width.at p.1)))
    g.W.Write.write_str_gives c.args.f.now c.loop-run.f c.write_str-3.new.self c.write_str-3.result c.as_runs-runs.result.now c.args.self.now c.loop-run.run-index
    c.as_runs-runs.ensures.same c.if-runs-eq1.false c.loop-run-test.false c.loop-run.invariant c.write_str-3.ensures.writes

use Rattle.std.proofs.Common.{Some, take}
use Rattle.std.specs.Prelude.{IfSome, codes}
use Rattle.std.specs.Fmt.{HasWritten, IsPlainFormatter, ◌++?◌}
use Rattle.ivl_interval.specs.Text.{interval_text}
use Rattle.intervallum.specs.Text.{runs_text}
use Rattle.intervallum.proofs.interval_set.text.IntervalSetDisplay.fmt.Given as goal

-- an open brace and the runs so far are written
abbrev pub invariant-loop-run : goal.invariant-loop-run
invariant-loop-run g l =
    IsPlainFormatter l.fn.f → IfSome (Some (codes "{") ++? runs_text (λ p. interval_text p (g.B.Display.output (g.B.Width.at p.0)) (g.B.Display.output (g.B.Width.at p.1))) (take l.run-index l.runs))
    (λ bs. HasWritten g.W.Write.write_str_gives l.fn.f bs l.f)

use Rattle.std.proofs.Common.{◌≡◌, ℕ, Some, drop, take}
use Rattle.std.specs.Prelude.{IfSome, codes}
use Rattle.std.specs.Fmt.{HasWritten, IsPlainFormatter, ◌++?◌}
use Rattle.ivl_interval.specs.Text.{interval_text}
use Rattle.intervallum.specs.Text.{runs_text}
use Rattle.ivl_paged.proofs.paged_set.text.PagedSetDisplay.fmt.Given as goal

-- an open brace and the runs so far are written
abbrev pub invariant-runs : goal.invariant-runs
invariant-runs g l = (i : ℕ) × (drop i l.fn.self ≡ l.left) × (IsPlainFormatter l.fn.f →
    IfSome (Some (codes "{") ++? runs_text (λ p. interval_text p (g.B.Display.output (g.B.Width.at p.0)) (g.B.Display.output (g.B.Width.at p.1))) (take i l.fn.self))
    (λ bs. HasWritten g.W.Write.write_str_gives l.fn.f bs l.f))

use Rattle.std.proofs.Common.{ℤ, List, [], ◌∷◌, Option, refl, subst, sym}
use Rattle.std.specs.Prelude.{codes}
use Rattle.std.proofs.KnownBytes.{Appends-trans}
use Rattle.std.proofs.lemmas.Result.{on_ok_weaker}
use Rattle.ivl_calendar.specs.Answering.{IsGapLine}
use Rattle.ivl_calendar.proofs.engine.write_gap.Goals as goal

pub returns-in_default : goal.returns-in_default
returns-in_default g c = on_ok_weaker c.write_line.result
    (λ line. (codes "none", subst (λ (gap : Option (ℤ × ℤ)). IsGapLine gap (codes "none")) (sym c.in_default.is) refl, line))
    c.write_line.ensures

pub returns : goal.returns
returns g c =
    let span = c.in_ok-write_span.ensures in
    on_ok_weaker c.write_all.result
    (λ newline. (span.0, subst (λ (gap : Option (ℤ × ℤ)). IsGapLine gap span.0) (sym c.in-Some.is) span.1, Appends-trans _ _ _ span.0 (10 ∷ []) span.2 newline))
    c.write_all.ensures.bytes

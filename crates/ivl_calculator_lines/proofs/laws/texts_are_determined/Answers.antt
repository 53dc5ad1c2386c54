use Rattle.std.proofs.Common.{◌≡◌, ◌∙◌, List, ap, map, subst, sym}
use Rattle.ivl_calculator.proofs.Determined.{runs_agree}
use Rattle.ivl_calculator.specs.Step.{Run}
use Rattle.ivl_calculator_lines.specs.Reading.{Reading, reading_of}
use Rattle.ivl_calculator_lines.specs.Session.{actions_of, i64_range, placed, start}
use Rattle.ivl_calculator_lines.proofs.laws.texts_are_determined.Goals as goal

pub returns : goal.returns
returns c = λ lines text other one two.
    let readings = map reading_of lines in
    let first = one.answers in
    let second = two.answers in
    let run_first : Run i64_range start (actions_of readings) first.replies one.new = rw (← one.whole) first.run in
    let run_second : Run i64_range start (actions_of readings) second.replies two.new = rw (← two.whole) second.run in
    let same = runs_agree i64_range start (actions_of readings) first.replies second.replies one.new two.new one.plenty two.plenty run_first run_second in
    first.written
    ∙ ap (λ (rs : List Reading). placed rs first.replies) one.whole
    ∙ ap (placed readings) same.0
    ∙ ap (λ (rs : List Reading). placed rs second.replies) (sym two.whole)
    ∙ sym second.written

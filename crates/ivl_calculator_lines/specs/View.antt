-- What the code's lines and replies stand for, over numbers.
--     action_over_i64 command, answer_over_i64 reply, view_of line      the action of a command, the answer of a
--         reply, and the reading of a line, over whole numbers themselves
use Rattle.std.specs.Prelude.{ℕ, ℤ}
use Rattle.ivl_calculator.specs.Actions.{Action, Answer}
use Rattle.ivl_calculator.specs.View as calc
use Rattle.ivl_calculator.specs.declared.command.Command.{Command}
use Rattle.ivl_calculator.specs.declared.reply.Reply.{Reply}
use Rattle.ivl_calculator_lines.specs.Reading.{Reading, blank, bad, command}
use Rattle.ivl_calculator_lines.specs.declared.lines.Line.{Line}
use Rattle.ivl_calculator_lines.specs.declared.lines.Line.TheVariants as lines

abbrev pub action_over_i64 : Command ℤ → Action
action_over_i64 order = calc.action_of (λ z. z) order

abbrev pub answer_over_i64 : Reply ℤ ℕ → Answer
answer_over_i64 reply = calc.answer_of (λ z. z) (λ n. n) reply

abbrev pub view_of : Line → Reading
view_of lines.Blank = blank
view_of lines.Bad = bad
view_of (lines.Command order) = command (action_over_i64 order)

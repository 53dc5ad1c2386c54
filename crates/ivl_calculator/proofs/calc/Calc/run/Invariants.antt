use Rattle.std.proofs.Common.{◌≡◌, ◌≤◌, map, take, length}
use Rattle.std.specs.Vec.{vec_len, vec_capacity}
use Rattle.ivl_calculator.specs.Step.{Run}
use Rattle.ivl_calculator.specs.View.{action_of, answer_of}
use Rattle.ivl_calculator.proofs.calc.Calc.run.Given as goal

abbrev pub invariant-loop-command : goal.invariant-loop-command
invariant-loop-command g l =
    Run g.B.Width.whole l.fn.self (map (action_of g.B.Width.value) (take l.command-index l.commands)) (map (answer_of g.B.Width.value g.B.Output.SizeNumber.size) l.replies.items) l.self
    × (vec_len l.replies ≡ l.command-index)
    × (length l.commands ≤ vec_capacity l.replies)

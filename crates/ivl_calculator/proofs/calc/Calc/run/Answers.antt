use Rattle.std.proofs.Common.{◌≡◌, ◌∙◌, ap, arith, ◌+◌, ◌≤◌, length}
use Rattle.std.specs.Vec.{vec_len, vec_capacity}
use Rattle.ivl_calculator.specs.View.{action_of, answer_of}
use Rattle.ivl_calculator.proofs.Runs.{one_more}
use Rattle.ivl_calculator.proofs.calc.Calc.run.Goals as goal

pub loop-command-preserved : goal.loop-command-preserved
loop-command-preserved g c =
    let count : vec_len c.push.new.self ≡ c.loop-command.command-index + 1 = c.in_ok-push.ensures.len ∙ ap (λ n. n + 1) c.loop-command.invariant.1 in
    let room : length c.args.commands.now ≤ vec_capacity c.push.new.self =
    (let reserved = c.loop-command.invariant.2 in let kept = c.push.ensures.capacity in omega arith) in (
      one_more g.B.Width.whole (action_of g.B.Width.value) (answer_of g.B.Width.value g.B.Output.SizeNumber.size) _ _ _ _ _ _ _ c.push.new.self.items c.apply-reply.result
          c.loop-command-test.true c.command-item.is c.in_ok-push.ensures.items c.loop-command.invariant.0 c.apply-reply.ensures,
      count,
      room,
    )

use Rattle.std.proofs.Common.{sym, true, false}
use Rattle.std.proofs.lemmas.Bool.{false≢true}
use Rattle.ivl_network.proofs.Logging.{keeps_replaced}
use Rattle.ivl_network.proofs.network.trail.put_logged.Goals as goal

pub returns-then-is_unkept-clause-past : goal.returns-then-is_unkept-clause-past
returns-then-is_unkept-clause-past g c = λ rules.
    rw c.write_down.ensures.written (keeps_replaced c.args.marks.now c.args.trail.now.items c.args.variable c.in-Some.old c.args.store.now c.swap.new.self rules true c.in-Some.ensures.back
    (λ f. absurd (false≢true (sym f))))

pub returns-else-is_unkept-clause-past : goal.returns-else-is_unkept-clause-past
returns-else-is_unkept-clause-past g c = λ rules.
    keeps_replaced c.args.marks.now c.args.trail.now.items c.args.variable c.in-Some.old c.args.store.now c.swap.new.self rules false c.in-Some.ensures.back
    (λ _. rw c.deref.ensures.value at c.is_unkept.ensures.kept c.if-is_unkept.false)

use Rattle.ivl_allocator.proofs.answers.take.Goals as goal

pub returns-in-Ok-At-clause-answer : goal.returns-in-Ok-At-clause-answer
returns-in-Ok-At-clause-answer g c =
    let is = rw c.in-Ok-At.field-0-is at c.in-Ok-At.ensures.ok in
    rw is c.take_at.ensures.answer

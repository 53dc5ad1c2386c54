use Rattle.std.proofs.Common.{arith}
use Rattle.std.proofs.lemmas.Int.{ints}
use Rattle.ivl_calendar.proofs.Texts.{not_read, read_otherwise}
use Rattle.ivl_calendar.proofs.dates.day_from.Goals as goal

pub returns-in_default-clause-none : goal.returns-in_default-clause-none
returns-in_default-clause-none c = λ day h. not_read day c.args.word.now c.in_default.field-0 c.in_default.ensures.value h

pub returns-then-has_text-clause-is_text : goal.returns-then-has_text-clause-is_text
returns-then-has_text-clause-is_text c = (c.in-Ok.date, omega (arith, ints), c.has_text.ensures.0 c.if-has_text.true)

pub returns-else-has_text-clause-none : goal.returns-else-has_text-clause-none
returns-else-has_text-clause-none c = λ day h. read_otherwise c.in-Ok.date day c.args.word.now c.in-Ok.ensures.value (λ is. cc (c.has_text.ensures.1 is)) h

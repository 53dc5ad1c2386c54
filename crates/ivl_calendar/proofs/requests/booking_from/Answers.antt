use Rattle.std.proofs.Common.{inl, inr}
use Rattle.ivl_lines.specs.Words.{words_between}
use Rattle.ivl_calendar.proofs.requests.booking_from.Goals as goal

pub returns-in-Err-who_from-clause-err : goal.returns-in-Err-who_from-clause-err
returns-in-Err-who_from-clause-err c =
    inr (c.in-Some.name.now, c.in-Some.first.now, c.in-Some.last.now, words_between c.in-Some.rest.now, c.in-Some.ensures.some, inr (c.in-Ok.days, c.in-Ok.ensures.ok, c.in-Err-who_from.ensures.err))

pub returns-in-Err-clause-err : goal.returns-in-Err-clause-err
returns-in-Err-clause-err c =
    inr (c.in-Some.name.now, c.in-Some.first.now, c.in-Some.last.now, words_between c.in-Some.rest.now, c.in-Some.ensures.some, inl c.in-Err.ensures.err)

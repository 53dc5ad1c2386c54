use Rattle.std.proofs.Common.{inr}
use Rattle.ivl_calendar.proofs.requests.gap_from.Goals as goal

pub returns-in-Err-clause-err : goal.returns-in-Err-clause-err
returns-in-Err-clause-err c =
    inr (
      c.in-Some.name.now,
      c.in-Some.count.now,
      c.in-Some.first.now,
      c.in-Some.last.now,
      c.in-Some.ensures.some,
      inr (_, c.in_ok-count.ensures.value, c.in_ok-count.ensures.above, c.in_ok-count.ensures.below, c.in-Err.ensures.err),
    )

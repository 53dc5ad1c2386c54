use Rattle.ivl_calendar.proofs.Spans.{all_written, first_days, no_items, one_more}
use Rattle.ivl_calendar.proofs.replies.write_more_spans.Goals as goal

pub loop-first-preserved : goal.loop-first-preserved
loop-first-preserved g c =
    let h = c.loop-first.invariant in
    let is = c.in-Some.ensures.cases.0 in (
      one_more c.args.runs.now c.loop-first.runs.now c.in-Some.others.now c.in-Some.first.now _ _ _ _ h.0 is c.in_ok-write_all.ensures.bytes c.in_ok-write_span.ensures,
      (first_days c.loop-first.runs.now c.in-Some.first.now c.in-Some.others.now is h.1).3,
    )

pub write_span-requires : goal.write_span-requires
write_span-requires g c =
    let days = first_days c.loop-first.runs.now c.in-Some.first.now c.in-Some.others.now c.in-Some.ensures.cases.0 c.loop-first.invariant.1 in
    record { order = days.0; first = days.1; last = days.2 }

pub returns : goal.returns
returns g c = all_written c.args.runs.now c.loop-first.runs.now _ _ c.loop-first.invariant.0 (no_items c.loop-first.runs.now c.in_default.ensures.cases)

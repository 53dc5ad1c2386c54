use Rattle.std.proofs.lemmas.Result.{on_ok_weaker}
use Rattle.ivl_calendar.proofs.Spans.{first_days, no_items, no_run, whole_line}
use Rattle.ivl_calendar.proofs.replies.write_spans.Goals as goal

pub returns-in_default : goal.returns-in_default
returns-in_default g c =
    on_ok_weaker c.write_line.result (λ written. no_run c.args.runs.now _ _ (no_items c.args.runs.now c.in_default.ensures.cases) written) c.write_line.ensures

pub write_span-requires : goal.write_span-requires
write_span-requires g c =
    let days = first_days c.args.runs.now c.in-Some.first.now c.in-Some.others.now c.in-Some.ensures.cases.0 (record { maximal = c.requires.maximal; dates = c.requires.dates }) in
    record { order = days.0; first = days.1; last = days.2 }

pub write_more_spans-requires : goal.write_more_spans-requires
write_more_spans-requires g c =
    let days = first_days c.args.runs.now c.in-Some.first.now c.in-Some.others.now c.in-Some.ensures.cases.0 (record { maximal = c.requires.maximal; dates = c.requires.dates }) in
    record { maximal = days.3.maximal; dates = days.3.dates }

pub returns : goal.returns
returns g c =
    on_ok_weaker c.write_all.result
    (λ newline. whole_line c.args.runs.now c.in-Some.others.now c.in-Some.first.now _ _ _ _ c.in-Some.ensures.cases.0 c.in_ok-write_span.ensures c.in_ok-write_more_spans.ensures newline)
    c.write_all.ensures.bytes

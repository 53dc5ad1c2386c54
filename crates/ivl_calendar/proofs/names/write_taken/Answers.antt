use Rattle.std.proofs.Common.{◌≤ℤ◌, arith}
use Rattle.std.proofs.lemmas.Int.{ints}
use Rattle.std.proofs.lemmas.Result.{on_ok_weaker}
use Rattle.ivl_calendar.proofs.Listing.{taken_alone, taken_line}
use Rattle.ivl_calendar.proofs.Named.{run_ends, run_order}
use Rattle.ivl_calendar.proofs.names.write_taken.Goals as goal

pub returns-in_default : goal.returns-in_default
returns-in_default g c = on_ok_weaker c.write_line.result (λ written. taken_alone c.args.room.now c.args.days.now _ _ c.in_default.ensures.first written) c.write_line.ensures

pub write_span-requires-clause-order : goal.write_span-requires-clause-order
write_span-requires-clause-order g c = run_order c.in-Some.met.0 _ c.in-Some.ensures.first.run.holds

pub write_span-requires-clause-first : goal.write_span-requires-clause-first
write_span-requires-clause-first g c = (run_ends c.in-Some.met.0 _ c.in-Some.ensures.first.run.holds c.in-Some.ensures.dates).0

pub write_span-requires-clause-last : goal.write_span-requires-clause-last
write_span-requires-clause-last g c = (run_ends c.in-Some.met.0 _ c.in-Some.ensures.first.run.holds c.in-Some.ensures.dates).1

pub returns : goal.returns
returns g c = on_ok_weaker c.write_all.result
    (λ newline. taken_line c.args.room.now c.args.days.now c.in-Some.met.0 c.in-Some.met.1.now _ _ _ _ c.in-Some.ensures.first c.in_ok-write.ensures.bytes c.in_ok-write_span.ensures newline)
    c.write_all.ensures.bytes

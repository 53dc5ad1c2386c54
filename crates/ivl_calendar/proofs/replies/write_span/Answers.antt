use Rattle.std.proofs.Common.{◌≡◌, ◌++◌, refl, arith}
use Rattle.std.specs.Prelude.{codes}
use Rattle.std.proofs.lemmas.Int.{ints}
use Rattle.std.proofs.lemmas.Result.{on_ok_weaker}
use Rattle.jiff.specs.Words.{date_text, epoch_day}
use Rattle.ivl_calendar.proofs.replies.write_span.Goals as goal

pub returns : goal.returns
returns g c =
    let first : epoch_day c.in-Some-Some.first ≡ c.args.days.now.0 = omega (arith, ints, c.in-Some-Some.ensures.value) in
    let last : epoch_day c.in-Some-Some.last ≡ c.args.days.now.1 = omega (arith, ints, c.in-Some-Some.ensures'.value) in
    on_ok_weaker c.write.result
    (λ written. (
      date_text c.in-Some-Some.first ++ (codes " to " ++ date_text c.in-Some-Some.last),
      (date_text c.in-Some-Some.first, date_text c.in-Some-Some.last, (c.in-Some-Some.first, first, refl), (c.in-Some-Some.last, last, refl), refl),
      written,
    ))
    c.write.ensures.bytes

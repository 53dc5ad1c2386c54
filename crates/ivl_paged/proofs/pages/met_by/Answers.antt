use Rattle.std.proofs.Common.{◌-◌, ℤ, List, ap, drop, take}
use Rattle.ivl_paged.proofs.Meeting.{met_span}
use Rattle.ivl_paged.proofs.pages.met_by.Goals as goal

pub returns : goal.returns
returns g c =
    met_span c.args.pages.now _ c.args.interval.now (g.B.Width.value c.lower.result) (g.B.Width.value c.upper.result) c.span-start.result.0 c.span-start.result.1 c.span-start.ensures c.lower.ensures.value c.upper.ensures.value
    (ap (λ (P : List (List (ℤ × ℤ))). take (c.span-start.result.1 - c.span-start.result.0) (drop c.span-start.result.0 P)) c.as_slice-all.ensures.value)

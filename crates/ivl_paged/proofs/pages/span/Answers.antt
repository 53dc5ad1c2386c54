use Rattle.std.proofs.Common.{⊎_elim, inl, inr, arith}
use Rattle.ivl_paged.proofs.Paging.{is_page_span, order_of}
use Rattle.ivl_paged.proofs.pages.span.Goals as goal

pub returns : goal.returns
returns g c =
    let from = c.saturating_sub.ensures in
    let to = c.max.ensures in
    let j = c.max.result in
    let b = c.starts_from-end.result in
    is_page_span c.args.pages.now (g.B.Width.value c.args.lower) (g.B.Width.value c.args.upper) c.starts_up_to-start.result b c.saturating_sub.result j
    c.requires.runs c.requires.some c.requires.in_order c.starts_up_to-start.ensures c.starts_from-end.ensures (omega arith)
    (omega arith, omega arith, ⊎_elim (λ lt. inr (omega arith)) (λ le. inl (omega arith)) (order_of b 1))

pub starts_from-end-requires-clause-starts : goal.starts_from-end-requires-clause-starts
starts_from-end-requires-clause-starts g c = (g.B.Width.value c.args.lower, c.requires.in_order, c.starts_up_to-start.ensures)

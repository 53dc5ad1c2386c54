use Rattle.std.proofs.Common.{◌≡◌, ◌-◌, ◌∙◌, ◌≤ℤ◌, ℤ, ap, get_or, subst, sym, arith}
use Rattle.std.specs.Int.{int_max, int_min}
use Rattle.ivl_laws.proofs.Intervals.{some_is_not_crossed}
use Rattle.ivl_laws.proofs.Orders.{max_number, min_number}
use Rattle.ivl_laws.proofs.Places.{open_at}
use Rattle.ivl_walks.proofs.Unions.{both_ends}
use Rattle.ivl_places.proofs.Splicing.{joined_with_none, joined_with_some}
use Rattle.intervallum.proofs.interval_set.edits.spans.joined.Goals as goal

both_starts : {a b m n : ℤ} → a ≡ m → b ≡ n → int_min a b ≡ int_min m n
both_starts e f = cc

pub returns-then-start-end : goal.returns-then-start-end
returns-then-start-end g c = joined_with_none c.args.runs.now c.args.interval c.args.start c.args.end c.requires.maximal c.requires.filled c.requires.span c.if-start-end.true

pub lower-requires-2 : goal.lower-requires-2
lower-requires-2 g c =
    let P : ℤ × ℤ → Type 0 = λ r. r.0 ≤ℤ r.1 in
    let less = c.requires.span.in_order in
    let most = c.requires.span.at_most in
    let other = c.if-start-end.false in
    (some_is_not_crossed c.index-runs-start.result).1 (subst P (sym c.index-runs-start.is) (open_at c.args.runs.now c.args.start c.index-runs-start.result c.requires.maximal (omega (arith, less, most, other))))

pub upper-requires-2 : goal.upper-requires-2
upper-requires-2 g c =
    let P : ℤ × ℤ → Type 0 = λ r. r.0 ≤ℤ r.1 in
    let less = c.requires.span.in_order in
    let most = c.requires.span.at_most in
    let other = c.if-start-end.false in
    (some_is_not_crossed c.index-runs-end.result).1 (subst P (sym c.index-runs-end.is) (open_at c.args.runs.now (c.args.end - 1) c.index-runs-end.result c.requires.maximal (omega (arith, less, most, other))))

pub returns : goal.returns
returns g c =
    let W = c.args.interval in
    let L = c.args.runs.now in
    let o = g.met.B.Width.ordered in
    let first = c.index-runs-start in
    let last = c.index-runs-end in
    let less = c.requires.span.in_order in
    let other = c.if-start-end.false in
    let low : c.new.result.0 ≡ int_min W.0 (get_or L c.args.start first.result).0 =
    ap (λ (p : ℤ × ℤ). p.0) c.new.ensures.value ∙ min_number o _ _ _ c.min-lower.ensures ∙ both_starts c.lower.ensures.value (c.lower-2.ensures.value ∙ ap (λ (p : ℤ × ℤ). p.0) first.is) in
    let high : c.new.result.1 ≡ int_max W.1 (get_or L (c.args.end - 1) last.result).1 =
    ap (λ (p : ℤ × ℤ). p.1) c.new.ensures.value ∙ max_number o _ _ _ c.max-upper.ensures ∙ both_ends c.upper.ensures.value (c.upper-2.ensures.value ∙ ap (λ (p : ℤ × ℤ). p.1) last.is) in
    joined_with_some L W c.args.start c.args.end c.requires.maximal c.requires.filled c.requires.span c.new.result (c.args.end - 1) first.result last.result
    (omega (arith, less, other)) (omega (arith, less, other)) low high

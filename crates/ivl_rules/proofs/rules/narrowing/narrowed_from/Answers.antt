use Rattle.std.proofs.Common.{arith}
use Rattle.std.proofs.lemmas.Int.{ints}
use Rattle.std.proofs.lemmas.Result.{IfOk-weaker}
use Rattle.ivl_laws.specs.Runs.{Covers}
use Rattle.ivl_store.proofs.NarrowedSets.{left_same}
use Rattle.ivl_rules.proofs.Windows.{one_differs}
use Rattle.ivl_rules.proofs.rules.narrowing.narrowed_from.Goals as goal

pub returns-then-number : goal.returns-then-number
returns-then-number g c = (
  c.in_whole.ensures,
  (λ z m. let ln = c.number-number.ensures in let un = c.number.ensures in let t = c.if-number.true in
      one_differs (Covers c.args.y.now) _ _ c.args.by z c.lower.ensures.member c.upper.ensures.member (λ e. t (omega (arith, ints)))),
)

pub returns : goal.returns
returns g c =
    let r = g.met.B.Width.range in let low = r.low_at_least in let high = r.high_at_most in
    let above = c.lower.ensures.in_range.0 in let below = c.lower.ensures.in_range.1 in
    let small = c.requires.small.0 in let small' = c.requires.small.1 in
    let ln = c.number-number.ensures in let un = c.number.ensures in let t = c.if-number.false in
    IfOk-weaker c.narrowed_without.result _ _
    (λ left h. left_same g.B.Width.whole c.args.x.now _ _ left (λ z m. (
      (λ n. (_, c.lower.ensures.member, λ e. n (omega (arith, ints)))),
      (λ k f. let a = c.lower.ensures.least k.0 k.1 in let b = c.upper.ensures.greatest k.0 k.1 in let n = k.2 in n (omega (arith, ints))),
    )) h) c.narrowed_without.ensures

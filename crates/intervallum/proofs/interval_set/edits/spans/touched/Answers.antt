use Rattle.std.proofs.Common.{ℤ, subst}
use Rattle.ivl_places.proofs.Touching.{IsAfter, IsBefore, IsSpan-beside}
use Rattle.intervallum.proofs.interval_set.edits.spans.touched.Goals as goal

pub returns : goal.returns
returns g c =
    let whole = g.B.Width.whole in
    let before = subst (λ (u : ℤ). IsBefore whole u (g.B.Width.value c.one_below-below.result)) c.lower.ensures.value c.one_below-below.ensures in
    let after = subst (λ (v : ℤ). IsAfter whole v (g.B.Width.value c.one_above-above.result)) c.upper.ensures.value c.one_above-above.ensures in
    IsSpan-beside whole c.args.set.now c.args.interval.now.0 c.args.interval.now.1 (g.B.Width.value c.one_below-below.result) (g.B.Width.value c.one_above-above.result)
    c.span.result.0 c.span.result.1 c.in_whole.ensures c.span.ensures before after

use Rattle.std.proofs.Common.{◌∙◌, ap, sym, subst}
use Rattle.std.proofs.Math.Bool.{true≢false}
use Rattle.std.specs.Option.{IsSome}
use Rattle.ivl_laws.specs.Sets.{IsBetween}
use Rattle.ivl_laws.proofs.Intervals.{in_range_is_within}
use Rattle.ivl_within.proofs.Clipping.{clip_is, clip_none_above, clip_none_below, max_seen, min_seen, at_least_in_range, at_most_in_range}
use Rattle.ivl_within.proofs.within.pairs.clip.Goals as goal
use Rattle.ivl_within.proofs.within.pairs.clip.Goals.{in_default-via-in-Some+in_default, in_default-via-in_default}

pub returns-in-Some-Some : goal.returns-in-Some-Some
returns-in-Some-Some g c =
    let bounds = g.met.B.Width.range in
    let whole = g.B.Width.whole in
    let w = c.args.window in
    let w0 = subst (IsBetween whole) c.lower.ensures.value c.lower.ensures.in_range in
    let w1 = subst (IsBetween whole) c.upper.ensures.value c.upper.ensures.in_range in
    let low = max_seen c.args.lower w.0 c.number.result c.max-lower.result c.ranges.lower (c.number.ensures ∙ c.lower.ensures.value) (at_least_in_range whole bounds w.0 w0) (at_most_in_range whole bounds w.0 w0) c.max-lower.ensures.value in
    let high = min_seen c.args.upper w.1 c.number-2.result c.min-upper.result c.ranges.upper (c.number-2.ensures ∙ c.upper.ensures.value) (at_least_in_range whole bounds w.1 w1) (at_most_in_range whole bounds w.1 w1) c.min-upper.ensures.value in
    clip_is w (c.args.lower, c.args.upper) c.max-lower.result c.min-upper.result low.0 high.0 c.new.result
    (c.new.ensures.value ∙ ap (λ x. (x, g.B.Width.value c.in-Some-Some.upper)) (c.in-Some-Some.ensures.same_number ∙ low.1) ∙ ap (λ x. (c.max-lower.result, x)) (c.in-Some-Some.ensures'.same_number ∙ high.1))

pub returns-in_default : goal.returns-in_default
returns-in_default g c =
    let bounds = g.met.B.Width.range in
    let whole = g.B.Width.whole in
    let w = c.args.window in
    let w0 = subst (IsBetween whole) c.lower.ensures.value c.lower.ensures.in_range in
    let w1 = subst (IsBetween whole) c.upper.ensures.value c.upper.ensures.in_range in
    let low = max_seen c.args.lower w.0 c.number.result c.max-lower.result c.ranges.lower (c.number.ensures ∙ c.lower.ensures.value) (at_least_in_range whole bounds w.0 w0) (at_most_in_range whole bounds w.0 w0) c.max-lower.ensures.value in
    let high = min_seen c.args.upper w.1 c.number-2.result c.min-upper.result c.ranges.upper (c.number-2.ensures ∙ c.upper.ensures.value) (at_least_in_range whole bounds w.1 w1) (at_most_in_range whole bounds w.1 w1) c.min-upper.ensures.value in
    elim c.in_default.branch [
      | in_default-via-in-Some+in_default s ↦ clip_none_below w (c.args.lower, c.args.upper) c.max-lower.result c.min-upper.result low.0 high.0 c.empty.result c.empty.ensures.members
          (λ b. true≢false (sym (subst IsSome s.in_default.is-1 (c.from_number-2.ensures.known.1 (subst (IsBetween whole) (sym high.1) (in_range_is_within whole w (w0.0, w1.1) _ b))))))
      | in_default-via-in_default s ↦ clip_none_above w (c.args.lower, c.args.upper) c.max-lower.result c.min-upper.result low.0 high.0 c.empty.result c.empty.ensures.members
          (λ b. true≢false (sym (subst IsSome s.in_default.is-0 (c.from_number.ensures.known.1 (subst (IsBetween whole) (sym low.1) (in_range_is_within whole w (w0.0, w1.1) _ b))))))
    ]

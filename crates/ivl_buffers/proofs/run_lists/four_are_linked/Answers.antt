use Rattle.std.proofs.Common.{◌∙◌, ◌+◌, ◌≤◌, List, length, map, ap, sym, subst, arith}
use Rattle.ivl_buffers.specs.Links.{AreLinked}
use Rattle.ivl_buffers.proofs.Links.{linked_end}
use Rattle.ivl_buffers.proofs.run_lists.four_are_linked.Goals as goal

pub returns : goal.returns
returns g c =
    let pair = g.R.Pair.pair in
    let whole = g.R.Bound.Width.whole in
    let i = c.loop-i.i in
    let past = c.loop-i-test.false in
    let filled = c.requires.filled in
    let least : length c.args.first.now ≤ i + 1 = omega arith in
    let second = c.as_long_as-more.ensures in
    let third = c.as_long_as-others.ensures in
    let fourth = c.as_long_as-rest.ensures in
    let two = ap (λ (L : List _). length L) second ∙ c.requires.second in
    let three = ap (λ (L : List _). length L) third ∙ c.requires.third in
    let four = ap (λ (L : List _). length L) fourth ∙ c.requires.fourth in (
      (λ t.
          let all = c.loop-i.invariant.0 (
            t,
            (
              linked_end pair whole c.args.first.now i least,
              linked_end pair whole c.as_long_as-more.result.now i (omega (arith, least, two)),
              linked_end pair whole c.as_long_as-others.result.now i (omega (arith, least, three)),
              linked_end pair whole c.as_long_as-rest.result.now i (omega (arith, least, four)),
            ),
          ) in (
            all.0,
            subst (λ L. AreLinked whole (map pair L)) second all.1,
            subst (λ L. AreLinked whole (map pair L)) third all.2,
            subst (λ L. AreLinked whole (map pair L)) fourth all.3,
          )),
      (λ l.
          (c.loop-i.invariant.1 (
            l.0,
            subst (λ L. AreLinked whole (map pair L)) (sym second) l.1,
            subst (λ L. AreLinked whole (map pair L)) (sym third) l.2,
            subst (λ L. AreLinked whole (map pair L)) (sym fourth) l.3,
          )).0),
    )

use Rattle.std.proofs.Common.{ℤ, subst}
use Rattle.std.proofs.lemmas.Result.{on_ok_weaker}
use Rattle.ivl_laws.specs.Sets.{Above, Below, IsBetween, SameMembers}
use Rattle.ivl_map.proofs.Updating.{first_part_above, parts_written, second_part_above}
use Rattle.ivl_map.proofs.updates.push_updated.Goals as goal

pub push_changed-requires-clause-above : goal.push_changed-requires-clause-above
push_changed-requires-clause-above g c = λ filled.
    let eq = g.V.PartialEq.eq in
    let o = g.met.V.Eq.laws in
    let E = c.args.entries.now.items in
    let N = c.push_part.new.entries.items in
    let p = c.args.run in
    let q = c.args.interval in
    let b = c.strict_shrink_right.result in
    let x = c.args.value.now in
    let below = subst (λ (u : ℤ). SameMembers (IsBetween b) (Below u (IsBetween p))) c.lower.ensures.value c.strict_shrink_right.ensures in
    first_part_above eq o E N p q b x c.requires.above below c.in_ok-push_part.ensures c.intersection.result c.intersection.ensures filled

pub push_part-requires-2-clause-above : goal.push_part-requires-2-clause-above
push_part-requires-2-clause-above g c = λ filled.
    let eq = g.V.PartialEq.eq in
    let o = g.met.V.Eq.laws in
    let E = c.args.entries.now.items in
    let N = c.push_part.new.entries.items in
    let p = c.args.run in
    let q = c.args.interval in
    let b = c.strict_shrink_right.result in
    let x = c.args.value.now in
    let below = subst (λ (u : ℤ). SameMembers (IsBetween b) (Below u (IsBetween p))) c.lower.ensures.value c.strict_shrink_right.ensures in
    let D = c.push_changed.new.entries.items in
    let m = c.intersection.result in
    let y = c.in_ok-push_changed.ensures.0 in
    let a = c.strict_shrink_left.result in
    let above = subst (λ (u : ℤ). SameMembers (IsBetween a) (Above u (IsBetween p))) c.upper.ensures.value c.strict_shrink_left.ensures in
    second_part_above eq o E N p q b x c.requires.above below c.in_ok-push_part.ensures D m y c.requires.filled c.intersection.ensures c.in_ok-push_changed.ensures.2 a above filled

pub returns : goal.returns
returns g c =
    let eq = g.V.PartialEq.eq in
    let o = g.met.V.Eq.laws in
    let E = c.args.entries.now.items in
    let N = c.push_part.new.entries.items in
    let p = c.args.run in
    let q = c.args.interval in
    let b = c.strict_shrink_right.result in
    let x = c.args.value.now in
    let below = subst (λ (u : ℤ). SameMembers (IsBetween b) (Below u (IsBetween p))) c.lower.ensures.value c.strict_shrink_right.ensures in
    let D = c.push_changed.new.entries.items in
    let m = c.intersection.result in
    let y = c.in_ok-push_changed.ensures.0 in
    let a = c.strict_shrink_left.result in
    let above = subst (λ (u : ℤ). SameMembers (IsBetween a) (Above u (IsBetween p))) c.upper.ensures.value c.strict_shrink_left.ensures in
    on_ok_weaker c.push_part-2.result
    (λ h. (
      y,
      (λ k. c.in_ok-push_changed.ensures.1 (k.0, (c.intersection.ensures k.0).1 k.1)),
      parts_written eq o E N p q b x c.requires.above below c.in_ok-push_part.ensures D m y c.requires.filled c.intersection.ensures c.in_ok-push_changed.ensures.2 c.push_part-2.new.entries.items a above h,
    )) c.push_part-2.ensures

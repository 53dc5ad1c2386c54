use Rattle.std.proofs.Common.{ℤ, subst}
use Rattle.std.proofs.lemmas.Result.{on_ok_weaker}
use Rattle.ivl_laws.specs.Sets.{Below, IsBetween, SameMembers}
use Rattle.ivl_map.proofs.Pairs.{common_of_pair_above, pair_written, second_of_pair_above}
use Rattle.ivl_map.proofs.merge.push_pair.Goals as goal

pub push_part-requires-2-clause-above : goal.push_part-requires-2-clause-above
push_part-requires-2-clause-above g c = λ filled.
    let eq = g.V.PartialEq.eq in
    let o = g.met.V.Eq.laws in
    let E = c.args.entries.now.items in
    let N = c.push_part.new.entries.items in
    let p = c.args.run in
    let q = c.args.other in
    let b = c.strict_shrink_right.result in
    let below = subst (λ (u : ℤ). SameMembers (IsBetween b) (Below u (IsBetween p))) c.lower.ensures.value c.strict_shrink_right.ensures in
    let a = c.strict_shrink_right-2.result in
    let above = subst (λ (u : ℤ). SameMembers (IsBetween a) (Below u (IsBetween q))) c.lower-2.ensures.value c.strict_shrink_right-2.ensures in
    second_of_pair_above eq o E N p q b c.args.value.now c.requires.entries c.requires.above c.requires.above_too below c.in_ok-push_part.ensures a above filled

pub push_common-requires-clause-above : goal.push_common-requires-clause-above
push_common-requires-clause-above g c = λ filled.
    let eq = g.V.PartialEq.eq in
    let o = g.met.V.Eq.laws in
    let E = c.args.entries.now.items in
    let N = c.push_part.new.entries.items in
    let D = c.push_part-2.new.entries.items in
    let p = c.args.run in
    let q = c.args.other in
    let b = c.strict_shrink_right.result in
    let below = subst (λ (u : ℤ). SameMembers (IsBetween b) (Below u (IsBetween p))) c.lower.ensures.value c.strict_shrink_right.ensures in
    let a = c.strict_shrink_right-2.result in
    let above = subst (λ (u : ℤ). SameMembers (IsBetween a) (Below u (IsBetween q))) c.lower-2.ensures.value c.strict_shrink_right-2.ensures in
    common_of_pair_above eq o E N p q b c.args.value.now c.requires.entries c.requires.above c.requires.above_too below c.in_ok-push_part.ensures D a c.args.other_value.now above c.in_ok-push_part-2.ensures c.intersection.result c.intersection.ensures filled

pub returns : goal.returns
returns g c =
    let eq = g.V.PartialEq.eq in
    let o = g.met.V.Eq.laws in
    let E = c.args.entries.now.items in
    let N = c.push_part.new.entries.items in
    let D = c.push_part-2.new.entries.items in
    let M = c.push_common.new.entries.items in
    let p = c.args.run in
    let q = c.args.other in
    let b = c.strict_shrink_right.result in
    let below = subst (λ (u : ℤ). SameMembers (IsBetween b) (Below u (IsBetween p))) c.lower.ensures.value c.strict_shrink_right.ensures in
    let a = c.strict_shrink_right-2.result in
    let above = subst (λ (u : ℤ). SameMembers (IsBetween a) (Below u (IsBetween q))) c.lower-2.ensures.value c.strict_shrink_right-2.ensures in
    on_ok_weaker c.push_common.result (λ h. (
      h.0,
      (λ k. h.1 (k.0, (c.intersection.ensures k.0).1 k.1)),
      pair_written eq o E N p q b c.args.value.now c.requires.entries c.requires.above c.requires.above_too below c.in_ok-push_part.ensures D a c.args.other_value.now above c.in_ok-push_part-2.ensures M c.intersection.result h.0 c.intersection.ensures h.2,
    )) c.push_common.ensures

use Rattle.std.proofs.Common.{ℤ, List, subst, sym}
use Rattle.ivl_laws.specs.Sets.{IsBetween, SameMembers}
use Rattle.ivl_laws.specs.Runs.{Covers}
use Rattle.ivl_map.specs.Entries.{HasAt, OnlyAt}
use Rattle.ivl_map.proofs.Kept.{list_in, only_same}
use Rattle.ivl_map.proofs.interval_map.IntervalMap.cut_to.Goals as goal

pub invariant_of-result : goal.invariant_of-result
invariant_of-result g c =
    let eq = g.V.PartialEq.eq in
    let L = c.runs.result.now in
    let O = c.overlapping.result.now in
    list_in eq g.B.Width.whole c.in_ok-entries.entries.items (OnlyAt (Covers L) (HasAt eq O)) c.in_ok-entries.ensures (λ z v k. c.overlapping.ensures.entries.within z (v, k.0))

pub returns : goal.returns
returns g c =
    let eq = g.V.PartialEq.eq in
    let L = c.runs.result.now in
    let O = c.overlapping.result.now in
    let same = subst (λ (R : List (ℤ × ℤ)). SameMembers (Covers R) (IsBetween c.args.window)) (sym c.runs.ensures.same) c.in_ok-set.ensures.members.members in
    only_same eq c.in_ok-entries.entries.items (Covers L) (IsBetween c.args.window) (HasAt eq O) (HasAt eq c.args.self.now) same (λ z v b. c.overlapping.ensures.held z v b) c.in_ok-entries.ensures

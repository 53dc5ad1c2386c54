use Rattle.std.proofs.Common.{ℤ, List, subst, ◌∙◌}
use Rattle.ivl_laws.specs.Runs.{Covers}
use Rattle.ivl_map.specs.Entries.{HasAt, IsEntriesOf, OnlyAt}
use Rattle.ivl_map.proofs.Kept.{list_in}
use Rattle.ivl_map.proofs.interval_map.IntervalMap.restrict_to.Goals as goal

pub invariant_of-result : goal.invariant_of-result
invariant_of-result g c =
    let eq = g.V.PartialEq.eq in
    let made = subst (λ (E : List ((ℤ × ℤ) × g.row.V.Denot)). IsEntriesOf eq c.in_ok-entries.entries.items (OnlyAt (Covers c.runs.result.now) (HasAt eq E))) (c.deref.ensures.value ∙ c.self.view_is) c.in_ok-entries.ensures in
    list_in eq g.B.Width.whole c.in_ok-entries.entries.items (OnlyAt (Covers c.runs.result.now) (HasAt eq c.args.self.now)) made (λ z v k. c.in_order.ensures.entries.within z (v, k.0))

pub returns : goal.returns
returns g c =
    let eq = g.V.PartialEq.eq in
    let made = subst (λ (E : List ((ℤ × ℤ) × g.row.V.Denot)). IsEntriesOf eq c.in_ok-entries.entries.items (OnlyAt (Covers c.runs.result.now) (HasAt eq E))) (c.deref.ensures.value ∙ c.self.view_is) c.in_ok-entries.ensures in
    subst (λ (R : List (ℤ × ℤ)). IsEntriesOf eq c.in_ok-entries.entries.items (OnlyAt (Covers R) (HasAt eq c.args.self.now))) c.runs.ensures.same made

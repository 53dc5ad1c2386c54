use Rattle.std.proofs.Common.{Ok, ℤ, List, subst, ◌∙◌}
use Rattle.std.specs.Fn.{FnReturnsAtPair}
use Rattle.ivl_map.specs.Changes.{IsMergeOf}
use Rattle.ivl_map.proofs.Merging.{merge_in}
use Rattle.ivl_map.proofs.interval_map.IntervalMap.merge.Goals as goal

pub invariant_of-result : goal.invariant_of-result
invariant_of-result g c =
    let eq = g.V.PartialEq.eq in
    let G : g.row.V.Denot → g.row.V.Denot → g.row.V.Denot → Type 0 = λ v w x. FnReturnsAtPair g.F.Fn c.args.both v w (Ok x) in
    let M = c.in_ok-entries.entries.items in
    let first = subst (λ (E : List ((ℤ × ℤ) × g.row.V.Denot)). IsMergeOf eq G E c.deref-2.result.now M) (c.deref.ensures.value ∙ c.self.view_is) c.in_ok-entries.ensures in
    let both = subst (λ (D : List ((ℤ × ℤ) × g.row.V.Denot)). IsMergeOf eq G c.args.self.now D M) (c.deref-2.ensures.value ∙ c.other.view_is) first in
    merge_in eq g.met.V.Eq.laws G g.B.Width.whole c.args.self.now c.args.other.now M c.in_order.ensures.entries c.in_order-2.ensures.entries both

pub returns : goal.returns
returns g c =
    let eq = g.V.PartialEq.eq in
    let G : g.row.V.Denot → g.row.V.Denot → g.row.V.Denot → Type 0 = λ v w x. FnReturnsAtPair g.F.Fn c.args.both v w (Ok x) in
    let M = c.in_ok-entries.entries.items in
    let first = subst (λ (E : List ((ℤ × ℤ) × g.row.V.Denot)). IsMergeOf eq G E c.deref-2.result.now M) (c.deref.ensures.value ∙ c.self.view_is) c.in_ok-entries.ensures in
    subst (λ (D : List ((ℤ × ℤ) × g.row.V.Denot)). IsMergeOf eq G c.args.self.now D M) (c.deref-2.ensures.value ∙ c.other.view_is) first

use Rattle.std.proofs.Common.{◌≡◌, ◌∙◌, ap, length, subst}
use Rattle.std.specs.Prelude.{All}
use Rattle.ivl_laws.specs.Runs.{IsRunListIn}
use Rattle.ivl_store.specs.NarrowedSets.{AreLeftAt}
use Rattle.ivl_store.proofs.Places.{after, after_is, length-after, lost_after, narrowed_after}
use Rattle.ivl_store.proofs.store.Store.narrow_known.Goals as goal

pub returns-clause-kept_count : goal.returns-clause-kept_count
returns-clause-kept_count g c =
    let k = c.args.c.now in let old = c.args.self.now in
    ap length (after_is k old _ _ _ _ _ _ c.swap.ensures.put c.swap-2.ensures.put c.swap-3.ensures.put) ∙ length-after k old c.in_ok-x.x c.in_ok-x.y c.in_ok-x.z

pub returns-clause-narrowed : goal.returns-clause-narrowed
returns-clause-narrowed g c =
    let k = c.args.c.now in let old = c.args.self.now in
    let e : c.swap-3.new.self ≡ after k old c.in_ok-x.x c.in_ok-x.y c.in_ok-x.z = after_is k old _ _ _ _ _ _ c.swap.ensures.put c.swap-2.ensures.put c.swap-3.ensures.put in
    let left = subst (λ s. AreLeftAt g.B.Width.whole k s c.in_ok-x.x c.in_ok-x.y c.in_ok-x.z) (c.deref.ensures.value ∙ c.self.view_is) c.in_ok-x.ensures in
    rw e (narrowed_after g.B.Width.whole k old _ _ _ c.requires left)

pub returns-clause-lost : goal.returns-clause-lost
returns-clause-lost g c =
    let k = c.args.c.now in let old = c.args.self.now in
    let e : c.swap-3.new.self ≡ after k old c.in_ok-x.x c.in_ok-x.y c.in_ok-x.z = after_is k old _ _ _ _ _ _ c.swap.ensures.put c.swap-2.ensures.put c.swap-3.ensures.put in
    let left = subst (λ s. AreLeftAt g.B.Width.whole k s c.in_ok-x.x c.in_ok-x.y c.in_ok-x.z) (c.deref.ensures.value ∙ c.self.view_is) c.in_ok-x.ensures in
    rw e (lost_after g.B.Width.whole k old _ _ _ _ c.requires left c.is_some.ensures c.is_some-2.ensures c.is_some-3.ensures)

pub returns-clause-range : goal.returns-clause-range
returns-clause-range g c = subst (All (IsRunListIn g.B.Width.whole)) c.self.view_is c.self.invariant.0

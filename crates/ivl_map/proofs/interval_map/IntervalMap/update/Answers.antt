use Rattle.std.proofs.Common.{Ok, ℤ, List, subst, sym}
use Rattle.std.specs.Fn.{FnReturnsAt}
use Rattle.std.proofs.lemmas.Result.{on_ok_weaker}
use Rattle.ivl_laws.specs.Sets.{IsBetween}
use Rattle.ivl_map.specs.Changes.{IsUpdated}
use Rattle.ivl_map.specs.Entries.{IsEntryListIn}
use Rattle.ivl_map.proofs.Kept.{either_way}
use Rattle.ivl_map.proofs.interval_map.IntervalMap.update.Goals as goal

pub invariant_of-self : goal.invariant_of-self
invariant_of-self g c =
    let P : List ((ℤ × ℤ) × g.row.V.Denot) → Type 0 = λ L. IsEntryListIn g.B.Width.whole g.V.PartialEq.eq L in
    either_way c.update_in.result c.update_in.ensures.ok c.update_in.ensures.err
    (λ u. record { maximal = u.maximal; within = λ z k. c.self.invariant.within z (u.no_more z k) })
    (λ e. subst P (sym e) c.self.invariant)

pub returns-clause-ok : goal.returns-clause-ok
returns-clause-ok g c =
    let G : g.row.V.Denot → g.row.V.Denot → Type 0 = λ v w. FnReturnsAt g.F.Fn c.args.change v (Ok w) in
    let P : List ((ℤ × ℤ) × g.row.V.Denot) → Type 0 = λ E. IsUpdated g.V.PartialEq.eq G (IsBetween c.args.interval) E c.update_in.new.entries.items in
    on_ok_weaker c.update_in.result (λ h. subst P c.self.view_is h) c.update_in.ensures.ok

use Rattle.std.proofs.Common.{ℤ, List, subst, sym}
use Rattle.std.specs.Prelude.{IfNone, IfOk, IfSome, IsOk}
use Rattle.ivl_places.specs.Edits.{widened}
use Rattle.ivl_laws.specs.Sets.{HasNone, HasSome, Intersection, IsBetween}
use Rattle.ivl_map.specs.Entries.{HasAt, HasValue, IsEntriesOf, IsEntryListIn, Written}
use Rattle.ivl_map.specs.Lookups.{IsFirstRunOf}
use Rattle.ivl_map.proofs.Kept.{written_in}
use Rattle.ivl_map.proofs.Outcomes.{any_outcome}
use Rattle.ivl_map.proofs.interval_map.IntervalMap.insert_if_free.Goals as goal

pub invariant_of-self : goal.invariant_of-self
invariant_of-self g c =
    let eq = g.V.PartialEq.eq in
    let whole = g.B.Width.whole in
    let E = c.self.inside.entries.items in
    let D = c.put_if_free.new.entries.items in
    let P : List ((ℤ × ℤ) × g.row.V.Denot) → Type 0 = λ L. IsEntryListIn whole eq L in
    any_outcome c.put_if_free.result c.put_if_free.ensures.written c.put_if_free.ensures.unchanged c.put_if_free.ensures.err
    (λ h. written_in eq whole E D c.args.interval c.args.value c.self.invariant c.in_whole.ensures h)
    (λ e. subst P (sym e) c.self.invariant) (λ e. subst P (sym e) c.self.invariant)

pub returns-clause-free : goal.returns-clause-free
returns-clause-free g c =
    let P : List ((ℤ × ℤ) × g.row.V.Denot) → Type 0 = λ L. IfOk c.put_if_free.result (λ met. IfNone met (HasNone (Intersection (IsBetween c.args.interval) (HasValue (HasAt g.V.PartialEq.eq L))))) in
    subst P c.self.view_is c.put_if_free.ensures.free

pub returns-clause-written : goal.returns-clause-written
returns-clause-written g c =
    let eq = g.V.PartialEq.eq in
    let P : List ((ℤ × ℤ) × g.row.V.Denot) → Type 0 = λ L. IfOk c.put_if_free.result (λ met. IfNone met (IsEntriesOf eq c.put_if_free.new.entries.items (Written eq c.args.interval c.args.value (HasAt eq L)))) in
    subst P c.self.view_is c.put_if_free.ensures.written

pub returns-clause-met : goal.returns-clause-met
returns-clause-met g c =
    let eq = g.V.PartialEq.eq in
    let P : List ((ℤ × ℤ) × g.row.V.Denot) → Type 0 = λ L. IfOk c.put_if_free.result (λ met. IfSome met (λ run. (held : g.row.V.Denot) × IsFirstRunOf eq (Intersection (IsBetween c.args.interval) (HasValue (HasAt eq L))) (HasAt eq L) (run, held))) in
    subst P c.self.view_is c.put_if_free.ensures.met

pub returns-clause-taken : goal.returns-clause-taken
returns-clause-taken g c =
    let P : List ((ℤ × ℤ) × g.row.V.Denot) → Type 0 = λ L. HasSome (Intersection (IsBetween c.args.interval) (HasValue (HasAt g.V.PartialEq.eq L))) → IsOk c.put_if_free.result in
    subst P c.self.view_is c.put_if_free.ensures.taken

pub returns-clause-grows : goal.returns-clause-grows
returns-clause-grows g c =
    let P : List ((ℤ × ℤ) × g.row.V.Denot) → Type 0 = λ L. (z : ℤ) → IsBetween (widened c.args.interval) z → HasAt g.V.PartialEq.eq L z c.args.value → IsOk c.put_if_free.result in
    subst P c.self.view_is c.put_if_free.ensures.grows

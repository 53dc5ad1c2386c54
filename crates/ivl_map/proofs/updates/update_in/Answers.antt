use Rattle.std.proofs.Common.{◌≡◌, ◌⊎◌, ⊎_elim, inl, inr, Ok, suc, ◌-◌, ◌≤◌, ℤ, List, length, take, drop, subst, sym, arith, rules}
use Rattle.std.specs.Fn.{FnReturnsAt}
use Rattle.std.proofs.lemmas.Bool.{cases_lt}
use Rattle.std.proofs.lemmas.Result.{on_ok_weaker}
use Rattle.ivl_laws.specs.Sets.{IsBetween}
use Rattle.ivl_map.specs.Changes.{IsUpdated}
use Rattle.ivl_map.specs.Entries.{IsEntryList, IsEntrySpan}
use Rattle.ivl_map.proofs.Lists.{IsEntryList-drop, IsEntryList-take}
use Rattle.ivl_map.proofs.Renewing.{none_to_update, renewed}
use Rattle.ivl_map.proofs.updates.update_in.Goals as goal

pub returns-then-end-start-clause-ok : goal.returns-then-end-start-clause-ok
returns-then-end-start-clause-ok g c =
    let E = c.args.entries.now.items in
    let i = c.span-start.result.0 in
    let j = c.span-start.result.1 in
    let G : g.row.V.Denot → g.row.V.Denot → Type 0 = λ v w. FnReturnsAt g.F.Fn c.args.change v (Ok w) in
    let S = subst (λ (L : List ((ℤ × ℤ) × g.row.V.Denot)). IsEntrySpan L c.args.interval i j) c.deref.ensures.value c.span-start.ensures in
    none_to_update g.V.PartialEq.eq g.met.V.Eq.laws G c.args.interval E i j c.requires.entries S c.if-end-start.true

pub returns-clause-ok : goal.returns-clause-ok
returns-clause-ok g c =
    let E = c.args.entries.now.items in
    let i = c.span-start.result.0 in
    let j = c.span-start.result.1 in
    let a = c.saturating_sub-first.result in
    let b = c.place_after-last.result in
    let M = c.in_ok-made.made.items in
    let D = c.put_list.new.entries.items in
    let G : g.row.V.Denot → g.row.V.Denot → Type 0 = λ v w. FnReturnsAt g.F.Fn c.args.change v (Ok w) in
    let S = subst (λ (L : List ((ℤ × ℤ) × g.row.V.Denot)). IsEntrySpan L c.args.interval i j) c.deref.ensures.value c.span-start.ensures in
    let e : a ≡ i - 1 = c.saturating_sub-first.ensures in
    let n : c.len.result ≡ length E = search rules in
    let from : (a ≡ 0) ⊎ (suc a ≤ i) = ⊎_elim (λ some. inr (omega (arith, e, some))) (λ none. inl (omega (arith, e, none))) (cases_lt 0 i) in
    let to : (b ≡ length E) ⊎ (b ≡ suc j) = ⊎_elim (λ k. inl (omega (arith, k, n))) (λ k. inr k) c.place_after-last.ensures.next in
    let P : List ((ℤ × ℤ) × g.row.V.Denot) → Type 0 = λ L. IsUpdated g.V.PartialEq.eq G (IsBetween c.args.interval) E L in
    let Q : List ((ℤ × ℤ) × g.row.V.Denot) → Type 0 = λ L. IsUpdated g.V.PartialEq.eq G (IsBetween c.args.interval) (take (b - a) (drop a L)) M in
    let made = subst Q c.deref-2.ensures.value c.in_ok-made.ensures in
    on_ok_weaker c.put_list.result (λ h. subst P (sym h) (renewed g.V.PartialEq.eq g.met.V.Eq.laws G c.args.interval E i j c.requires.entries S a b from (omega (arith, e)) to c.place_after-last.ensures.onwards M made)) c.put_list.ensures.ok

pub updated-requires-clause-entries : goal.updated-requires-clause-entries
updated-requires-clause-entries g c =
    let eq = g.V.PartialEq.eq in
    let a = c.saturating_sub-first.result in
    let b = c.place_after-last.result in
    let L = c.deref-2.result.now in
    let m = subst (IsEntryList eq) (sym c.deref-2.ensures.value) c.requires.entries in
    IsEntryList-take eq (drop a L) (b - a) (IsEntryList-drop eq L a m)

use Rattle.std.proofs.Common.{◌≡◌, ◌∙◌, ◌↔◌, ◌<◌, List, [], ap, arith, get_or, length, set, subst, IsTrue}
use Rattle.std.specs.Prelude.{ℤ, Result, Ok, Err, OnErr}
use Rattle.std.proofs.lemmas.List.{get_or-set_same, get_or_default, length-set, set-get_or, set-set}
use Rattle.ivl_laws.specs.Families.{set_at}
use Rattle.ivl_laws.specs.Runs.{Covers, IsRunsOf}
use Rattle.ivl_laws.specs.Sets.{IsBetween, Without}
use Rattle.ivl_store.proofs.Cutting.{all_cut, cut_there, empties_at_most}
use Rattle.ivl_store.proofs.Empties.{empties_set}
use Rattle.ivl_store.proofs.store.Store.take_out.Goals as goal

pub returns-in_err-remove_interval-clause-refused : goal.returns-in_err-remove_interval-clause-refused
returns-in_err-remove_interval-clause-refused g c =
    let items = c.self.inside.domains.items in
    always c.from_residual.result
    (ap (λ s. set items c.args.i s) (c.in_err-remove_interval.ensures.err ∙ c.index_mut.ensures.value) ∙ set-get_or items c.args.i c.index_mut.result.now ∙ c.self.view_is)
  where
    always : {T E P : Type 0} (r : Result T E) → P → OnErr r P
    always (Ok x) p = tt
    always (Err e) p = p

pub overflow_add-self : goal.overflow_add-self
overflow_add-self g c =
    let items = c.self.inside.domains.items in
    let new = c.remove_interval.new.self in
    let out = c.if-i-len.false in let len = c.len.ensures in
    let lt : c.args.i < length items = omega (arith, out, len) in
    let there : c.index-2.result.now ≡ new = c.index-2.ensures ∙ get_or-set_same items c.args.i new c.index-2.result.now lt in
    let e = (empties_set items c.args.i c.index.result.now new c.is_empty.result c.is_empty-2.result c.self.inside.empties c.one_if-was.result c.one_if-is.result lt
    c.index.ensures c.is_empty.ensures.none (subst (λ s. IsTrue c.is_empty-2.result ↔ s ≡ []) there c.is_empty-2.ensures.none) c.self.invariant.1 c.one_if-was.ensures c.one_if-is.ensures).1 in
    let most = empties_at_most (set items c.args.i new) in
    let n = length-set items c.args.i new in
    let fits = c.len.type_inv in
    omega (arith, e, most, n, fits, len)

pub invariant_of-self-2 : goal.invariant_of-self-2
invariant_of-self-2 g c =
    let items = c.self.inside.domains.items in
    let new = c.remove_interval.new.self in
    let out = c.if-i-len.false in let len = c.len.ensures in
    let lt : c.args.i < length items = omega (arith, out, len) in
    let there : c.index-2.result.now ≡ new = c.index-2.ensures ∙ get_or-set_same items c.args.i new c.index-2.result.now lt in
    let e = empties_set items c.args.i c.index.result.now new c.is_empty.result c.is_empty-2.result c.self.inside.empties c.one_if-was.result c.one_if-is.result lt
    c.index.ensures c.is_empty.ensures.none (subst (λ s. IsTrue c.is_empty-2.result ↔ s ≡ []) there c.is_empty-2.ensures.none) c.self.invariant.1 c.one_if-was.ensures c.one_if-is.ensures in
    (all_cut g.B.Width.whole c.args.interval items c.args.i c.index_mut.result.now new lt c.index_mut.ensures.value c.self.invariant.0 c.in_ok-remove_interval.ensures.ok, e.1)

pub returns-clause-taken : goal.returns-clause-taken
returns-clause-taken g c =
    let items = c.self.inside.domains.items in
    let new = c.remove_interval.new.self in
    let out = c.if-i-len.false in let len = c.len.ensures in
    let lt : c.args.i < length items = omega (arith, out, len) in
    let was : c.index_mut.result.now ≡ get_or items c.args.i [] = c.index_mut.ensures.value ∙ get_or_default items c.args.i c.index_mut.result.now [] lt in
    λ j v. subst (λ (Ls : List (List (ℤ × ℤ))). set_at (set items c.args.i new) j v ↔ (set_at Ls j v × (j ≡ c.args.i → ¬ (IsBetween c.args.interval v)))) c.self.view_is
    (cut_there c.args.interval items c.args.i new lt (subst (λ (L : List (ℤ × ℤ)). IsRunsOf new (Without (Covers L) (IsBetween c.args.interval))) was c.in_ok-remove_interval.ensures.ok) j v)

pub returns-clause-back : goal.returns-clause-back
returns-clause-back g c =
    let items = c.self.inside.domains.items in
    let new = c.remove_interval.new.self in
    subst (λ (Ls : List (List (ℤ × ℤ))). set (set items c.args.i new) c.args.i (get_or Ls c.args.i []) ≡ Ls) c.self.view_is
    (set-set items c.args.i new (get_or items c.args.i []) ∙ set-get_or items c.args.i [])

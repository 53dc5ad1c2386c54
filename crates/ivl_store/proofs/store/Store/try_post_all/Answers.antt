use Rattle.std.proofs.Common.{◌≡◌, ℕ, ◌↔◌, Option, Some, None, Result, Ok, Err, refl, sym, ap, subst}
use Rattle.std.specs.Result.{IsErrAnd}
use Rattle.ivl_store.specs.declared.store.constraint.StoreFault.{StoreFault}
use Rattle.ivl_store.specs.declared.store.constraint.StoreFault.TheVariants.{Variable, Memory}
use Rattle.ivl_store.proofs.store.Store.try_post_all.Goals as goal

-- a fault that is passed on is the one that was told
passed_on : {A E : Type 0} (r : Result A E) (y : E) (P : E → Type 0) → IsErrAnd r P → r ≡ Err y → P y
passed_on r y P h is = subst (λ q. IsErrAnd q P) is h

-- and the other way round
passed_as : {A E : Type 0} (r : Result A E) (x y : E) → IsErrAnd r (λ e. e ≡ x) → x ≡ y → r ≡ Err y
passed_as (Ok a) x y h same = absurd h
passed_as (Err e) x y h same = cc

same_fault : {A E : Type 0} (x y : E) → ◌≡◌ {A = Result A E} (Err x) (Err y) → x ≡ y
same_fault x y same = cc

-- no fault is told where there is an answer
no_fault : {A E P : Type 0} (x : A) (y : E) → Ok x ≡ Err y → P
no_fault x y same = cc

-- out of memory is told only if no index is unknown
none_unknown : {A : Type 0} (found : Option ℕ) (fault : StoreFault) → Memory ≡ fault
    → ((i : ℕ) → ◌≡◌ {A = Result A StoreFault} (Err fault) (Err (Variable i)) ↔ (found ≡ Some i)) → found ≡ None
none_unknown None fault is told = refl
none_unknown (Some i) fault is told = let variable : fault ≡ Variable i = same_fault fault (Variable i) ((told i).1 refl) in cc

pub returns-in_err-post_all-clause-unknown : goal.returns-in_err-post_all-clause-unknown
returns-in_err-post_all-clause-unknown g c = λ i.
    let fault = c.in_err-post_all.field-0.0 in (
      (λ is. (
        c.all_distinct.ensures.0 c.if-not-all_distinct.false,
        (c.in_err-post_all.ensures.unknown i).0 (ap Err (sym (passed_on _ _ _ c.from_residual.ensures.1 is))),
      )),
      (λ h. passed_as c.from_residual.result fault (Variable i) c.from_residual.ensures.1 (same_fault fault (Variable i) ((c.in_err-post_all.ensures.unknown i).1 h.1))),
    )

pub returns-in_err-post_all-clause-memory : goal.returns-in_err-post_all-clause-memory
returns-in_err-post_all-clause-memory g c = λ is. (
  c.all_distinct.ensures.0 c.if-not-all_distinct.false,
  none_unknown _ c.in_err-post_all.field-0.0 (passed_on _ _ _ c.from_residual.ensures.1 is) c.in_err-post_all.ensures.unknown,
)

pub returns-in_err-post_all-clause-partly : goal.returns-in_err-post_all-clause-partly
returns-in_err-post_all-clause-partly g c = λ is. c.in_err-post_all.ensures.memory (ap Err (sym (passed_on _ _ _ c.from_residual.ensures.1 is)))

pub returns-clause-unknown : goal.returns-clause-unknown
returns-clause-unknown g c = λ i. (
  (λ is. no_fault _ _ is),
  (λ h. no_fault _ _ ((c.in_ok-post_all.ensures.unknown i).1 h.1)),
)

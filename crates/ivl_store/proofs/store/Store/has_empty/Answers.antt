use Rattle.std.proofs.Common.{◌≡◌, ◌<◌, List, arith, length, refl, subst, []}
use Rattle.std.specs.Prelude.{ℤ, Any, ◌↔◌}
use Rattle.ivl_laws.specs.Families.{set_at}
use Rattle.ivl_store.specs.Posts.{HasEmpty, empty_count}
use Rattle.ivl_store.proofs.Empties.{is_positive, some_empty, some_variable}
use Rattle.ivl_store.proofs.store.Store.has_empty.Goals as goal

pub returns-clause-empty : goal.returns-clause-empty
returns-clause-empty g c =
    let items = c.self.inside.domains.items in
    let count = c.self.invariant.1 in
    let some = subst (λ (Ls : List (List (ℤ × ℤ))). (0 < empty_count items) ↔ Any (λ L. L ≡ []) Ls) c.self.view_is (some_empty items) in
    let told = is_positive c.self.inside.empties _ refl in (
      (λ h. some.0 (let k = told.0 h in omega (arith, count, k))),
      (λ h. told.1 (let k = some.1 h in omega (arith, count, k))),
    )

pub returns-clause-variable : goal.returns-clause-variable
returns-clause-variable g c =
    let items = c.self.inside.domains.items in
    let count = c.self.invariant.1 in
    let some = subst (λ (Ls : List (List (ℤ × ℤ))). (0 < empty_count items) ↔ HasEmpty (length Ls) (set_at Ls)) c.self.view_is (some_variable g.B.Width.whole items c.self.invariant.0) in
    let told = is_positive c.self.inside.empties _ refl in (
      (λ h. some.0 (let k = told.0 h in omega (arith, count, k))),
      (λ h. told.1 (let k = some.1 h in omega (arith, count, k))),
    )

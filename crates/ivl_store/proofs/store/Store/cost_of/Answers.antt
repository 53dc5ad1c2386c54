use Rattle.std.proofs.Common.{◌≡◌, ◌∙◌, ◌+◌, ◌*◌, ◌-◌, ◌/◌, ◌^◌, List, ℕ, ap, arith, get_or, length, min, subst, sym, []}
use Rattle.std.specs.Prelude.{ℤ}
use Rattle.std.proofs.lemmas.List.{get_or_default}
use Rattle.ivl_store.specs.declared.store.constraint.Constraint.{Constraint}
use Rattle.ivl_store.specs.Costs.{cost_of, pairs_of}
use Rattle.ivl_store.specs.Narrowing.{AllPresent}
use Rattle.ivl_store.proofs.store.Store.cost_of.Goals as goal

sums : (a b c m : ℕ) → min (min (min a m + min b m) m + min c m) m ≡ min (a + b + c) m
sums a b c m = omega arith

-- the pairs of runs by the lengths of the lists
pairs : (items : List (List (ℤ × ℤ))) (i j k x y z xy xz yz of_x all : ℕ) → x ≡ length (get_or items i []) → y ≡ length (get_or items j []) → z ≡ length (get_or items k [])
    → xy ≡ min (x * y) (2 ^ 64 - 1) → xz ≡ min (x * z) (2 ^ 64 - 1) → yz ≡ min (y * z) (2 ^ 64 - 1)
    → of_x ≡ min (xy + xz) (2 ^ 64 - 1) → all ≡ min (of_x + yz) (2 ^ 64 - 1)
    → all ≡ min (length (get_or items i []) * length (get_or items j []) + length (get_or items i []) * length (get_or items k []) + length (get_or items j []) * length (get_or items k [])) (2 ^ 64 - 1)
pairs items i j k x y z xy xz yz of_x all ex ey ez exy exz eyz eof eall =
    eall ∙ rw (eof, exy, exz, eyz, ex, ey, ez) (sums _ _ _ (2 ^ 64 - 1))

of_pairs : (c : Constraint) (sets : List (List (ℤ × ℤ))) (all : ℕ)
    → all ≡ min (length (get_or sets c.x []) * length (get_or sets c.y []) + length (get_or sets c.x []) * length (get_or sets c.z []) + length (get_or sets c.y []) * length (get_or sets c.z [])) (2 ^ 64 - 1)
    → all / 256 + 1 ≡ cost_of c sets
unfolding cost_of pairs_of
of_pairs c sets all e = ap (λ (n : ℕ). n / 256 + 1) e

pub returns-clause-cost : goal.returns-clause-cost
returns-clause-cost g c =
    let items = c.self.inside.domains.items in
    let k = c.args.c.now in
    let known = subst (λ (Ls : List (List (ℤ × ℤ))). AllPresent (length Ls) k) (sym c.self.view_is) c.requires in
    let x = c.interval_count-x.ensures.count ∙ ap (λ (L : List (ℤ × ℤ)). length L) (c.index.ensures ∙ get_or_default items k.x c.index.result.now [] known.0) in
    let y = c.interval_count-y.ensures.count ∙ ap (λ (L : List (ℤ × ℤ)). length L) (c.index-2.ensures ∙ get_or_default items k.y c.index-2.result.now [] known.1) in
    let z = c.interval_count-z.ensures.count ∙ ap (λ (L : List (ℤ × ℤ)). length L) (c.index-3.ensures ∙ get_or_default items k.z c.index-3.result.now [] known.2) in
    subst (λ (Ls : List (List (ℤ × ℤ))). c.saturating_add-pairs.result / 256 + 1 ≡ cost_of k Ls) c.self.view_is
    (of_pairs k items c.saturating_add-pairs.result
    (pairs items k.x k.y k.z _ _ _ _ _ _ _ _ x y z c.saturating_mul.ensures c.saturating_mul-2.ensures c.saturating_mul-3.ensures c.saturating_add-of_x.ensures c.saturating_add-pairs.ensures))

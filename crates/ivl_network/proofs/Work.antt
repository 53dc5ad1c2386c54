-- How many narrowings are left, before and after one.
use Rattle.std.proofs.Common.{◌≡◌, ℕ, ◌+◌, ◌*◌, ◌<◌, ◌≤◌, arith, cond, get_or, length, List, Bool, true, false, refl, set, subst}
use Rattle.std.specs.Prelude.{ℤ, not}
use Rattle.std.proofs.Math.Nat.{mul-le-mul_right}
use Rattle.std.proofs.lemmas.List.Sums.{count_by-le-length, sum_by-set}
use Rattle.ivl_store.specs.Measure.{total}
use Rattle.ivl_network.specs.Queue.{unsettled_count}

-- one flag that is set now
unsettled_count-set : (flags : List Bool) (i : ℕ) → i < length flags → get_or flags i false ≡ false → unsettled_count (set flags i true) + 1 ≡ unsettled_count flags
unsettled_count-set flags i lt e =
    let s = sum_by-set (λ (b : Bool). cond (not b) 1 0) flags i true false lt in
    let t = subst (λ b. unsettled_count (set flags i true) + cond (not b) 1 0 ≡ unsettled_count flags + 0) e s in
    omega (arith, t)

-- a narrowing by a rule that is not settled, which removed a member or settled it
pub work_less : (whole : ℤ × ℤ) (old new : List (List (ℤ × ℤ))) (count : ℕ) (flags flags' : List Bool) (i : ℕ) (lost : Bool)
    → i < length flags → get_or flags i false ≡ false → length flags' ≡ count
    → (lost ≡ false → new ≡ old) → (lost ≡ false → flags' ≡ set flags i true) → (lost ≡ true → total whole new < total whole old)
    → 1 + (total whole new * (count + 1) + unsettled_count flags') ≤ total whole old * (count + 1) + unsettled_count flags
work_less whole old new count flags flags' i false lt unset n same alone fewer =
    let c = unsettled_count-set flags i lt unset in
    rw (same refl, alone refl) (omega (arith, c))
work_less whole old new count flags flags' i true lt unset n same alone fewer =
    let f = fewer refl in
    let p : (total whole new + 1) * (count + 1) ≤ total whole old * (count + 1) = mul-le-mul_right (count + 1) (omega (arith, f)) in
    let q = count_by-le-length not flags' in
    let r : (total whole new + 1) * (count + 1) ≡ total whole new * (count + 1) + (count + 1) = mul_plus_one (total whole new) (count + 1) in
    omega (arith, n, p, q, r)
  where
    mul_plus_one : (a b : ℕ) → (a + 1) * b ≡ a * b + b
    mul_plus_one a b = grind arith

-- The interval of the numbers of a range on one side of a number.
use Rattle.std.proofs.Common.{◌≡◌, ◌↔◌, ◌⊎◌, inl, inr, arith}
use Rattle.std.proofs.lemmas.Int.{ints}
use Rattle.std.specs.Prelude.{ℤ, ◌≤ℤ◌, ◌<ℤ◌}
use Rattle.ivl_laws.specs.Sets.{IsBetween}

abbrev pub IsNearest : ℤ × ℤ → ℤ → ℤ → Type 0
IsNearest whole n r = (IsBetween whole n × (r ≡ n)) ⊎ (((n <ℤ whole.0) × (r ≡ whole.0)) ⊎ ((whole.1 <ℤ n) × (r ≡ whole.1)))

pub from_nearest : (whole p : ℤ × ℤ) (n r low top : ℤ) → p ≡ (r, top) → top ≡ whole.1 → n ≡ low → low ≤ℤ whole.1 → IsNearest whole n r
    → (z : ℤ) → IsBetween p z ↔ (IsBetween whole z × (low ≤ℤ z))
from_nearest whole p n r low top e t m le f z = rw e (elim f [
  | inl k ↦ (let a = k.0.0 in let b = k.1 in (
    (λ h. let u = h.0 in let v = h.1 in ((omega (arith, ints), omega (arith, ints)), omega (arith, ints))),
    (λ h. let u = h.1 in let v = h.0.1 in (omega (arith, ints), omega (arith, ints))),
  ))
  | inr (inl k) ↦ (let a = k.0 in let b = k.1 in (
    (λ h. let u = h.0 in let v = h.1 in ((omega (arith, ints), omega (arith, ints)), omega (arith, ints))),
    (λ h. let u = h.0.0 in let v = h.0.1 in (omega (arith, ints), omega (arith, ints))),
  ))
  | inr (inr k) ↦ (let a = k.0 in absurd (omega (arith, ints)))
])

pub to_nearest : (whole p : ℤ × ℤ) (n r high bottom : ℤ) → p ≡ (bottom, r) → bottom ≡ whole.0 → n ≡ high → whole.0 ≤ℤ high → IsNearest whole n r
    → (z : ℤ) → IsBetween p z ↔ (IsBetween whole z × (z ≤ℤ high))
to_nearest whole p n r high bottom e t m le f z = rw e (elim f [
  | inl k ↦ (let a = k.0.1 in let b = k.1 in (
    (λ h. let u = h.0 in let v = h.1 in ((omega (arith, ints), omega (arith, ints)), omega (arith, ints))),
    (λ h. let u = h.1 in let v = h.0.0 in (omega (arith, ints), omega (arith, ints))),
  ))
  | inr (inl k) ↦ (let a = k.0 in absurd (omega (arith, ints)))
  | inr (inr k) ↦ (let a = k.0 in let b = k.1 in (
    (λ h. let u = h.0 in let v = h.1 in ((omega (arith, ints), omega (arith, ints)), omega (arith, ints))),
    (λ h. let u = h.0.0 in let v = h.0.1 in (omega (arith, ints), omega (arith, ints))),
  ))
])

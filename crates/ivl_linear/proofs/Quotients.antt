-- The quotient that is rounded down, and products with a coefficient that are at most a number.
use Rattle.std.proofs.Common.{◌≡◌, ◌≢◌, ◌↔◌, ℕ, zero, suc, ◌%◌, ◌<◌, ◌≤◌, ℤ, pos, negsuc, ◌+ℤ◌, ◌-ℤ◌, ◌*ℤ◌, ◌≤ℤ◌, ◌<ℤ◌, arith, refl, sym, ap, subst, ◌∙◌, unsigned_abs}
use Rattle.std.proofs.lemmas.Int.{ints, by_lt_z}
use Rattle.std.proofs.Math.Nat.{div-le_self, mod-lt}
use Rattle.std.proofs.lemmas.Nat.{div-add-mod'}
use Rattle.std.specs.Int.{int_div_euclid}
use Rattle.ivl_laws.specs.Sets.{IsBetween}
use Rattle.ivl_laws.proofs.Runs.{≤ℤ_antisymm, ≤ℤ_trans}
use Rattle.ivl_linear.proofs.Least.{up_from_left}

-- what a quotient by a positive number is
pub record IsQuotient (d a q : ℤ) : Type 0 where
  pub low : (d *ℤ q) ≤ℤ a
  pub high : a <ℤ ((d *ℤ q) +ℤ d)

pub quotient_is : (a : ℤ) (n : ℕ) → IsQuotient (pos (suc n)) a (int_div_euclid a (pos (suc n)))
quotient_is (pos k) n = let e = div-add-mod' k (suc n) in let h : k % suc n < suc n = mod-lt k (omega arith) in record { low = omega (arith, ints); high = omega (arith, ints) }
quotient_is (negsuc k) n = let e = div-add-mod' k (suc n) in let h : k % suc n < suc n = mod-lt k (omega arith) in record { low = omega (arith, ints); high = omega (arith, ints) }

times_one_more : (n : ℕ) (q : ℤ) → (pos n *ℤ (q +ℤ pos 1)) ≡ ((pos n *ℤ q) +ℤ pos n)
times_one_more n (pos k) = omega (arith, ints)
times_one_more n (negsuc zero) = omega (arith, ints)
times_one_more n (negsuc (suc k)) = ap (λ (x : ℤ). pos n *ℤ x) (one_up k) ∙ step n k
  where
    one_up : (k : ℕ) → negsuc (suc k) +ℤ pos 1 ≡ negsuc k
    one_up k = omega (arith, ints)

    step : (n k : ℕ) → (pos n *ℤ negsuc k) ≡ ((pos n *ℤ negsuc (suc k)) +ℤ pos n)
    step n k = omega (arith, ints)

past : (a x y d z : ℤ) → a <ℤ (x +ℤ d) → y ≡ x +ℤ d → y ≤ℤ z → z ≤ℤ a → ⊥
past a x y d z h e k l = omega (arith, ints)

pub at_most_quotient : (n : ℕ) (a q : ℤ) → IsQuotient (pos n) a q → (z : ℤ) → ((pos n *ℤ z) ≤ℤ a) ↔ (z ≤ℤ q)
at_most_quotient n a q k z = (
  λ h. by_lt_z q z
      (λ above. absurd (past a (pos n *ℤ q) (pos n *ℤ (q +ℤ pos 1)) (pos n) (pos n *ℤ z) k.high (times_one_more n q)
      (up_from_left (pos n) (q +ℤ pos 1) z (omega (arith, ints)) (omega (arith, ints))) h))
      (λ at_most. at_most),
  λ h. ≤ℤ_trans (pos n *ℤ z) (pos n *ℤ q) a (up_from_left (pos n) z q (omega (arith, ints)) h) k.low,
)

-- the quotient is no greater in size
pub quotient_small : (a : ℤ) (n : ℕ) → unsigned_abs (int_div_euclid a (pos (suc n))) ≤ unsigned_abs a
quotient_small (pos k) n = div-le_self k (suc n)
quotient_small (negsuc k) n = let h = div-le_self k (suc n) in omega arith

-- a product with a negative coefficient
pub minus_both : (n : ℕ) (z : ℤ) → (negsuc n *ℤ z) ≡ (pos (suc n) *ℤ (pos 0 -ℤ z))
minus_both n (pos zero) = omega (arith, ints)
minus_both n (pos (suc k)) = signs n k ∙ ap (λ (x : ℤ). pos (suc n) *ℤ x) (opposite k)
  where
    opposite : (k : ℕ) → negsuc k ≡ pos 0 -ℤ pos (suc k)
    opposite k = omega (arith, ints)

    signs : (n k : ℕ) → (negsuc n *ℤ pos (suc k)) ≡ (pos (suc n) *ℤ negsuc k)
    signs n k = omega (arith, ints)
minus_both n (negsuc k) = omega (arith, ints)

pub quotient_greatest : (a d q : ℤ) → pos 0 <ℤ d → q ≡ int_div_euclid a d → (z : ℤ) → ((d *ℤ z) ≤ℤ a) ↔ (z ≤ℤ q)
quotient_greatest a (pos zero) q h e z = absurd (omega (arith, ints))
quotient_greatest a (pos (suc n)) q h e z = at_most_quotient (suc n) a q (subst (IsQuotient (pos (suc n)) a) (sym e) (quotient_is a n)) z
quotient_greatest a (negsuc n) q h e z = absurd (omega (arith, ints))

-- ---- what a window has

-- of a positive coefficient
pub window_above : (whole p : ℤ × ℤ) (a value q : ℤ) → ((z : ℤ) → ((a *ℤ z) ≤ℤ value) ↔ (z ≤ℤ q)) → ((z : ℤ) → IsBetween p z ↔ (IsBetween whole z × (z ≤ℤ q)))
    → (z : ℤ) → IsBetween p z ↔ (IsBetween whole z × ((a *ℤ z) ≤ℤ value))
window_above whole p a value q h k z = (
  λ b. (((k z).0 b).0, (h z).1 ((k z).0 b).1),
  λ b. (k z).1 (b.0, (h z).0 b.1),
)

-- of a negative one, by the quotient of its opposite
pub window_below : (whole p : ℤ × ℤ) (a value q low : ℤ) → a <ℤ pos 0 → ((z : ℤ) → (((pos 0 -ℤ a) *ℤ z) ≤ℤ value) ↔ (z ≤ℤ q)) → low ≡ pos 0 -ℤ q
    → ((z : ℤ) → IsBetween p z ↔ (IsBetween whole z × (low ≤ℤ z))) → (z : ℤ) → IsBetween p z ↔ (IsBetween whole z × ((a *ℤ z) ≤ℤ value))
window_below whole p (pos n) value q low l h e k z = absurd (omega (arith, ints))
window_below whole p (negsuc n) value q low l h e k z =
    let o : pos 0 -ℤ negsuc n ≡ pos (suc n) = omega (arith, ints) in
    let s = h (pos 0 -ℤ z) in (
      λ b. (((k z).0 b).0, subst (λ w. w ≤ℤ value) (sym (minus_both n z)) (subst (λ (d : ℤ). (d *ℤ (pos 0 -ℤ z)) ≤ℤ value) o (s.1 (let f = ((k z).0 b).1 in turned low q z e f)))),
      λ b. (k z).1 (b.0, turned_back low q z e (s.0 (subst (λ (d : ℤ). (d *ℤ (pos 0 -ℤ z)) ≤ℤ value) (sym o) (subst (λ w. w ≤ℤ value) (minus_both n z) b.1)))),
    )
  where
    turned : (low q z : ℤ) → low ≡ pos 0 -ℤ q → low ≤ℤ z → (pos 0 -ℤ z) ≤ℤ q
    turned low q z e h = omega (arith, ints)

    turned_back : (low q z : ℤ) → low ≡ pos 0 -ℤ q → (pos 0 -ℤ z) ≤ℤ q → low ≤ℤ z
    turned_back low q z e h = omega (arith, ints)

-- the opposite of a coefficient
pub opposite_times : (a z : ℤ) → ((pos 0 -ℤ a) *ℤ z) ≡ (pos 0 -ℤ (a *ℤ z))
opposite_times (pos zero) z = zero_times z
  where
    zero_times : (z : ℤ) → ((pos 0 -ℤ pos zero) *ℤ z) ≡ (pos 0 -ℤ (pos zero *ℤ z))
    zero_times (pos k) = omega (arith, ints)
    zero_times (negsuc k) = omega (arith, ints)
opposite_times (pos (suc n)) z = ap (λ (x : ℤ). x *ℤ z) (minus n) ∙ signs n z
  where
    minus : (n : ℕ) → pos 0 -ℤ pos (suc n) ≡ negsuc n
    minus n = omega (arith, ints)

    signs : (n : ℕ) (z : ℤ) → (negsuc n *ℤ z) ≡ (pos 0 -ℤ (pos (suc n) *ℤ z))
    signs n (pos zero) = omega (arith, ints)
    signs n (pos (suc k)) = omega (arith, ints)
    signs n (negsuc k) = omega (arith, ints)
opposite_times (negsuc n) z = ap (λ (x : ℤ). x *ℤ z) (minus n) ∙ signs n z
  where
    minus : (n : ℕ) → pos 0 -ℤ negsuc n ≡ pos (suc n)
    minus n = omega (arith, ints)

    signs : (n : ℕ) (z : ℤ) → (pos (suc n) *ℤ z) ≡ (pos 0 -ℤ (negsuc n *ℤ z))
    signs n (pos zero) = omega (arith, ints)
    signs n (pos (suc k)) = omega (arith, ints)
    signs n (negsuc k) = omega (arith, ints)

pub window_of_opposite : (whole p : ℤ × ℤ) (a value : ℤ) → ((z : ℤ) → IsBetween p z ↔ (IsBetween whole z × (((pos 0 -ℤ a) *ℤ z) ≤ℤ (pos 0 -ℤ value)))) → (z : ℤ) → IsBetween p z ↔ (IsBetween whole z × (value ≤ℤ (a *ℤ z)))
window_of_opposite whole p a value h z = (
  λ b. let k = (h z).0 b in (k.0, turned (a *ℤ z) value (subst (λ (x : ℤ). x ≤ℤ (pos 0 -ℤ value)) (opposite_times a z) k.1)),
  λ b. (h z).1 (b.0, subst (λ (x : ℤ). x ≤ℤ (pos 0 -ℤ value)) (sym (opposite_times a z)) (turned_back (a *ℤ z) value b.1)),
)
  where
    turned : (x y : ℤ) → (pos 0 -ℤ x) ≤ℤ (pos 0 -ℤ y) → y ≤ℤ x
    turned x y h = omega (arith, ints)

    turned_back : (x y : ℤ) → y ≤ℤ x → (pos 0 -ℤ x) ≤ℤ (pos 0 -ℤ y)
    turned_back x y h = omega (arith, ints)

pub window_of_both : (whole p q r : ℤ × ℤ) (a value : ℤ) → ((z : ℤ) → IsBetween p z ↔ (IsBetween whole z × ((a *ℤ z) ≤ℤ value))) → ((z : ℤ) → IsBetween q z ↔ (IsBetween whole z × (value ≤ℤ (a *ℤ z))))
    → ((z : ℤ) → IsBetween r z ↔ (IsBetween p z × IsBetween q z)) → (z : ℤ) → IsBetween r z ↔ (IsBetween whole z × ((a *ℤ z) ≡ value))
window_of_both whole p q r a value h k l z = (
  λ b. let u = (l z).0 b in let low = (h z).0 u.0 in (low.0, both (a *ℤ z) value low.1 ((k z).0 u.1).1),
  λ b. (l z).1 ((h z).1 (b.0, below (a *ℤ z) value b.1), (k z).1 (b.0, above (a *ℤ z) value b.1)),
)
  where
    both : (x y : ℤ) → x ≤ℤ y → y ≤ℤ x → x ≡ y
    both x y h k = omega (arith, ints)

    below : (x y : ℤ) → x ≡ y → x ≤ℤ y
    below x y e = omega (arith, ints)

    above : (x y : ℤ) → x ≡ y → y ≤ℤ x
    above x y e = omega (arith, ints)

-- ---- a factor that is not 0

steps_up : (n : ℕ) (x y : ℤ) → x <ℤ y → ((pos n *ℤ x) +ℤ pos n) ≤ℤ (pos n *ℤ y)
steps_up n x y h = subst (λ (w : ℤ). w ≤ℤ (pos n *ℤ y)) (times_one_more n x) (up_from_left (pos n) (x +ℤ pos 1) y (omega (arith, ints)) (omega (arith, ints)))

never : (n : ℕ) (p q : ℤ) → 0 < n → (p +ℤ pos n) ≤ℤ q → p ≡ q → ⊥
never n p q h k e = omega (arith, ints)

same_factor : (n : ℕ) (x y : ℤ) → 0 < n → (pos n *ℤ x) ≡ (pos n *ℤ y) → x ≡ y
same_factor n x y h e = by_lt_z x y
    (λ less. absurd (never n (pos n *ℤ x) (pos n *ℤ y) h (steps_up n x y less) e))
    (λ k. by_lt_z y x
    (λ less. absurd (never n (pos n *ℤ y) (pos n *ℤ x) h (steps_up n y x less) (sym e)))
    (λ l. ≤ℤ_antisymm x y l k))

negated : (n : ℕ) (z : ℤ) → (pos (suc n) *ℤ z) ≡ (pos 0 -ℤ (negsuc n *ℤ z))
negated n z = ap (λ (x : ℤ). x *ℤ z) (opposite n) ∙ opposite_times (negsuc n) z
  where
    opposite : (n : ℕ) → pos (suc n) ≡ pos 0 -ℤ negsuc n
    opposite n = omega (arith, ints)

pub same_other_factor : (a x y : ℤ) → a ≢ pos 0 → (a *ℤ x) ≡ (a *ℤ y) → x ≡ y
same_other_factor (pos zero) x y ne e = absurd (ne refl)
same_other_factor (pos (suc n)) x y ne e = same_factor (suc n) x y (omega arith) e
same_other_factor (negsuc n) x y ne e = same_factor (suc n) x y (omega arith) (negated n x ∙ ap (λ (w : ℤ). pos 0 -ℤ w) e ∙ sym (negated n y))

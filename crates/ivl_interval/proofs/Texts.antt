-- The text of an interval, by whether it is empty.
use Rattle.std.proofs.Common.{◌≡◌, ℕ, ℤ, ◌<ℤ◌, true, false, List, arith}
use Rattle.std.specs.Prelude.{Option, Some, None, codes, int_lt}
use Rattle.std.specs.Fmt.{◌++?◌}
use Rattle.std.proofs.lemmas.Int.{ints}
use Rattle.ivl_laws.specs.Sets.{IsCrossed}
use Rattle.ivl_interval.specs.Text.{interval_text, styled_interval_text}
use Rattle.ivl_laws.proofs.Orders.{int_lt_true}

int_lt-false : (a b : ℤ) → ¬ (a <ℤ b) → int_lt a b ≡ false
int_lt-false a b h = grind (arith, ints)

pub crossed_text : (p : ℤ × ℤ) (lower upper : Option (List ℕ)) → IsCrossed p → Some (codes "{}") ≡ interval_text p lower upper
crossed_text p lower upper c = rw (int_lt_true p.1 p.0 c)

pub crossed_styled_text : (p : ℤ × ℤ) → IsCrossed p → Some (codes "{}") ≡ styled_interval_text p
crossed_styled_text p c = rw (int_lt_true p.1 p.0 c)

-- the bounds are the values of the numbers
pub open_text : {K : Type 0} (at : ℤ → K) (output : K → Option (List ℕ)) (p : ℤ × ℤ) (l u : ℤ) (x y : K) → (l, u) ≡ p → at l ≡ x → at u ≡ y → ¬ (IsCrossed p)
    → (Some (codes "[") ++? output x ++? Some (codes "..") ++? output y ++? Some (codes "]")) ≡ interval_text p (output (at p.0)) (output (at p.1))
open_text at output p l u x y e low high n = rw (int_lt-false p.1 p.0 n, ← e, low, high)

pub open_styled_text : (p : ℤ × ℤ) → ¬ (IsCrossed p) → None ≡ styled_interval_text p
open_styled_text p n = rw (int_lt-false p.1 p.0 n)

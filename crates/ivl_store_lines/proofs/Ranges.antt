-- How `Interval::in_range` answers.
use Rattle.std.proofs.Common.{inl, inr, ◌≡◌, ◌↔◌, ◌∙◌, ◌∷◌, ℤ, List, Bool, true, false, Some, IsTrue, refl, sym}
use Rattle.std.specs.Prelude.{◌<ℤ◌, ◌≤ℤ◌, Option, find, int_le, ◌&&◌}
use Rattle.std.specs.List.{list_all}
use Rattle.std.proofs.lemmas.Bool.{and_parts, cases_Bool, false≢true}
use Rattle.ivl_laws.specs.Sets.{IsInRange}
use Rattle.ivl_store_lines.specs.Faults.{out_of_range}
use Rattle.ivl_store_lines.specs.Solving.{crossed_fault, is_crossed, pairs_fault}
use Rattle.ivl_lines.specs.Numbers.{is_in_range}
use Rattle.ivl_laws.proofs.Orders.{int_lt_false, int_lt_true, le_true, true_le}

pub in_range_is : (whole p : ℤ × ℤ) (b : Bool) → (IsTrue b ↔ IsInRange whole p) → b ≡ (int_le whole.0 p.0 && int_le p.1 whole.1)
in_range_is whole p true h =
    let within = h.0 refl in
    rw (true_le whole.0 p.0 within.0, true_le p.1 whole.1 within.1) refl
in_range_is whole p false h =
    elim (cases_Bool (int_le whole.0 p.0 && int_le p.1 whole.1)) [
      | inr fails ↦ sym fails
      | inl holds ↦
          let parts = and_parts (int_le whole.0 p.0) (int_le p.1 whole.1) holds in
          absurd (false≢true (h.1 (le_true whole.0 p.0 parts.0, le_true p.1 whole.1 parts.1)))
    ]

pub within_range_fault : (pairs : List (ℤ × ℤ)) (b : Bool) (found : Option (ℤ × ℤ)) → b ≡ list_all is_in_range pairs → b ≡ true → found ≡ find is_crossed pairs
    → pairs_fault pairs ≡ crossed_fault found
within_range_fault pairs b found all is e = rw (sym all ∙ is, e) refl

pub some_range_fault : (pairs : List (ℤ × ℤ)) (b : Bool) → b ≡ list_all is_in_range pairs → b ≡ false → pairs_fault pairs ≡ Some out_of_range
some_range_fault pairs b all is = rw (sym all ∙ is) refl

-- a pair whose bounds cross, or not
pub crossed_first : (pair : ℤ × ℤ) (pairs : List (ℤ × ℤ)) → pair.1 <ℤ pair.0 → find is_crossed (pair ∷ pairs) ≡ Some pair
crossed_first pair pairs less = rw (int_lt_true pair.1 pair.0 less) refl

pub crossed_later : (pair : ℤ × ℤ) (pairs : List (ℤ × ℤ)) → pair.0 ≤ℤ pair.1 → find is_crossed (pair ∷ pairs) ≡ find is_crossed pairs
crossed_later pair pairs le = rw (int_lt_false pair.1 pair.0 le) refl

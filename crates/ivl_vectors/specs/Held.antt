-- The order of values that hold one number.
--     held_order      the laws of the order of a type that holds a number
use Rattle.std.specs.Prelude.{ℤ, refl}
use Rattle.std.specs.Ordering.{int_cmp, int_eq, on, as_partial_cmp}
use Rattle.ivl_laws.specs.Bounds.{OrdersByNumber}

pub held_order : {K : Type 0} (number : K → ℤ)
    → OrdersByNumber number (on number int_eq) (as_partial_cmp (on number int_cmp)) (on number int_cmp)
held_order number = record { equal = λ _ _. refl; partial = λ _ _. refl; total = λ _ _. refl }

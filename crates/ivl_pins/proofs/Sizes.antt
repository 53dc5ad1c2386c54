-- When two sizes are equal values.
use Rattle.std.proofs.Common.{◌≡◌, ◌∙◌, ℕ, ℤ, Bool, IsTrue, arith}
use Rattle.std.proofs.lemmas.Bool.Decides.{nat_tests}
use Rattle.std.specs.Prelude.{Option, nat_eq}
use Rattle.std.specs.declared.cmp.Ordering.{Ordering}
use Rattle.ivl_laws.specs.Bounds.{OrdersByCount}
use Rattle.ivl_laws.specs.Sets.{SameMembers}
use Rattle.ivl_laws.specs.Counts.{IsCountOf}
use Rattle.ivl_laws.proofs.Counts.{count_is_unique, IsCountOf-same}

equal_numbers : (m n : ℕ) (r : Bool) → r ≡ nat_eq m n → m ≡ n → IsTrue r
equal_numbers m n r e f = grind (arith, nat_tests)

-- the counts of two sets of the same members are equal values of their type
pub equal_counts : {N : Type 0} {size : N → ℕ} {eq : N → N → Bool} {partial : N → N → Option Ordering} {total : N → N → Ordering}
    (o : OrdersByCount size eq partial total) (S T : ℤ → Type 0) (x y : N) (r : Bool) → SameMembers S T
    → IsCountOf (size x) S → IsCountOf (size y) T → r ≡ eq x y → IsTrue r
equal_counts {size = size} o S T x y r h a b e =
    equal_numbers (size x) (size y) r (e ∙ o.equal x y) (count_is_unique T (size x) (size y) (IsCountOf-same S T (size x) h a) b)

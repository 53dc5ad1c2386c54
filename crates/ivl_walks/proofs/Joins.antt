-- Whether a run joins the one before it, told by the width from the end of the one to the start of the other.
use Rattle.std.proofs.Common.{◌≡◌, ◌↔◌, ℕ, ◌≤◌, ℤ, pos, ◌+ℤ◌, ◌≤ℤ◌, IsTrue, leb, arith}
use Rattle.std.proofs.lemmas.Bool.Decides.{nat_tests}
use Rattle.std.proofs.lemmas.Int.{ints, clamps}
use Rattle.std.specs.Int.{int_max}
use Rattle.ivl_laws.specs.Bounds.{width_of}
use Rattle.ivl_laws.specs.Sets.{IsInRange}
use Rattle.ivl_laws.proofs.Intervals.{width_of-filled}
use Rattle.ivl_walks.specs.Sinks.{IsRunIn}

two_at_most : (n : ℕ) → IsTrue (leb n 2) ↔ (n ≤ 2)
two_at_most n = grind (arith, nat_tests)

-- x and y stand for the end of the one and the start of the other, and z for the greater of the two
pub joins_by_width : (x y z end start : ℤ) (n : ℕ) → n ≡ width_of (x, z) → z ≡ int_max y x → x ≡ end → y ≡ start → IsTrue (leb n 2) ↔ (start ≤ℤ (end +ℤ pos 1))
joins_by_width x y z end start n e m f h =
    let width = width_of-filled (x, z) (omega (arith, ints, clamps)) in
    let few = two_at_most n in (
      (λ t. let most = few.0 t in omega (arith, ints, clamps)),
      (λ near. few.1 (omega (arith, ints, clamps))),
    )

pub joins_in_range : (whole p q : ℤ × ℤ) (x y z : ℤ) → IsRunIn whole p → IsRunIn whole q → x ≡ p.1 → y ≡ q.0 → z ≡ int_max y x → IsInRange whole (x, z)
joins_in_range whole p q x y z (o, (a, b)) (o', (a', b')) e f m = (omega (arith, ints), omega (arith, ints, clamps))

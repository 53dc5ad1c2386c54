-- The text of a port.
use Rattle.std.proofs.Common.{◌≡◌, ℤ, pos, negsuc, ◌≤ℤ◌, refl, arith}
use Rattle.std.specs.Prelude.{decimal, unsigned_abs}
use Rattle.std.specs.Fmt.{signed_decimal}
use Rattle.std.proofs.lemmas.Int.{ints}

-- a number of u32, as `Display` writes it
pub from_0 : (z : ℤ) → pos 0 ≤ℤ z → decimal (unsigned_abs z) ≡ signed_decimal z
from_0 (pos n) h = refl
from_0 (negsuc n) h = grind (arith, ints)

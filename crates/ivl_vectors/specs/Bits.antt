-- The numbers of bits, and that a number belongs to one bit.
--     bit_number b, bit_at z, bit_text b      the number of a bit, the bit of a number, the text of a bit
--     bit_at-number, for_bits      that these belong together, and that what holds of zero and one holds of every bit
use Rattle.std.specs.Prelude.{◌≡◌, ℕ, zero, suc, ℤ, pos, negsuc, List, codes, refl}
use Rattle.ivl_vectors.specs.declared.bit.Bit.{Bit}
use Rattle.ivl_vectors.specs.declared.bit.Bit.TheVariants.{Zero, One}

abbrev pub bit_number : Bit → ℤ
bit_number Zero = pos 0
bit_number One = pos 1

abbrev pub bit_at : ℤ → Bit
bit_at (pos zero) = Zero
bit_at (pos (suc n)) = One
bit_at (negsuc n) = One

abbrev pub bit_text : Bit → List ℕ
bit_text Zero = codes "0"
bit_text One = codes "1"

pub bit_at-number : (b : Bit) → bit_at (bit_number b) ≡ b
bit_at-number Zero = refl
bit_at-number One = refl

pub for_bits : (P : Bit → Bit → Type 0) → P Zero Zero → P Zero One → P One Zero → P One One → (x y : Bit) → P x y
for_bits P zz zo oz oo Zero Zero = zz
for_bits P zz zo oz oo Zero One = zo
for_bits P zz zo oz oo One Zero = oz
for_bits P zz zo oz oo One One = oo

-- Products within a range, and a product that is taken in more bits and cast back.
use Rattle.std.proofs.Common.{◌≡◌, ℕ, ℤ, pos, negsuc, ◌*ℤ◌, ◌*◌, ◌^◌, ◌<◌, ◌≤◌, unsigned_abs, arith}
use Rattle.std.proofs.lemmas.Int.{fits_signed_mul, ints, to_z-of_z}
use mir.Syntax.{Width}
use mir.Val.{SFits, hbits, of_z, to_z}
use Rattle.ivl_laws.specs.Sets.{IsBetween}

SFits-between : (w : Width) (low high : ℕ) (z : ℤ) → low < 2 ^ hbits w → high < 2 ^ hbits w → IsBetween (negsuc low, pos high) z → SFits w z
SFits-between w low high (pos n) h k b = let below = b.1 in record { sfits = omega (arith, ints) }
SFits-between w low high (negsuc n) h k b = let above = b.0 in record { sfits = omega (arith, ints) }

-- a product of two passed numbers, where it is within a range of the type
module _ (w : Width) (low high : ℕ) (a b : ℤ) (low_fits : low < 2 ^ hbits w) (high_fits : high < 2 ^ hbits w) (a_fits : SFits w a) (b_fits : SFits w b)
    (within : IsBetween (negsuc low, pos high) (a *ℤ b)) where
  pub SFits-product : SFits w (to_z w (of_z w a) *ℤ to_z w (of_z w b))
  SFits-product = rw (to_z-of_z w a a_fits, to_z-of_z w b b_fits) (SFits-between w low high (a *ℤ b) low_fits high_fits within)

  pub to_z-product : to_z w (of_z w (to_z w (of_z w a) *ℤ to_z w (of_z w b))) ≡ a *ℤ b
  to_z-product = rw (to_z-of_z w a a_fits, to_z-of_z w b b_fits) (to_z-of_z w (a *ℤ b) (SFits-between w low high (a *ℤ b) low_fits high_fits within))

pub product_cast_back : (wide narrow : Width) (x y a b : ℤ) → x ≡ a → y ≡ b → SFits wide (a *ℤ b) → SFits narrow (a *ℤ b)
    → to_z narrow (of_z narrow (to_z wide (of_z wide (x *ℤ y)))) ≡ a *ℤ b
product_cast_back wide narrow x y a b e f g h = rw (e, f, to_z-of_z wide (a *ℤ b) g) (to_z-of_z narrow (a *ℤ b) h)

pub SFits-wider : (narrow wide : Width) (z : ℤ) → 2 ^ hbits narrow ≤ 2 ^ hbits wide → SFits narrow z → SFits wide z
SFits-wider narrow wide z h f = let fits = f.sfits in record { sfits = omega arith }

abs_at_most : (w : Width) (z : ℤ) → SFits w z → unsigned_abs z ≤ 2 ^ hbits w
abs_at_most w (pos n) f = let fits = f.sfits in omega arith
abs_at_most w (negsuc n) f = let fits = f.sfits in omega arith

-- what a number is after it is passed and cast to more bits
pub to_z-wider : (narrow wide : Width) (z : ℤ) → 2 ^ hbits narrow ≤ 2 ^ hbits wide → SFits narrow z → to_z wide (of_z wide (to_z narrow (of_z narrow z))) ≡ z
to_z-wider narrow wide z h f = rw (to_z-of_z narrow z f) (to_z-of_z wide z (SFits-wider narrow wide z h f))

pub SFits-wide_product : (narrow wide : Width) (a b : ℤ) → 2 ^ hbits narrow ≤ 2 ^ hbits wide → 2 ^ hbits narrow * 2 ^ hbits narrow < 2 ^ hbits wide → SFits narrow a → SFits narrow b
    → SFits wide (to_z wide (of_z wide (to_z narrow (of_z narrow a))) *ℤ to_z wide (of_z wide (to_z narrow (of_z narrow b))))
SFits-wide_product narrow wide a b h k f g =
    rw (to_z-wider narrow wide a h f, to_z-wider narrow wide b h g)
    (fits_signed_mul wide a b (2 ^ hbits narrow) (2 ^ hbits narrow) (abs_at_most narrow a f) (abs_at_most narrow b g) k)

pub to_z-wide_product : (narrow wide : Width) (a b : ℤ) → 2 ^ hbits narrow ≤ 2 ^ hbits wide → 2 ^ hbits narrow * 2 ^ hbits narrow < 2 ^ hbits wide → SFits narrow a → SFits narrow b
    → to_z wide (of_z wide (to_z wide (of_z wide (to_z narrow (of_z narrow a))) *ℤ to_z wide (of_z wide (to_z narrow (of_z narrow b))))) ≡ a *ℤ b
to_z-wide_product narrow wide a b h k f g =
    rw (to_z-wider narrow wide a h f, to_z-wider narrow wide b h g)
    (to_z-of_z wide (a *ℤ b) (fits_signed_mul wide a b (2 ^ hbits narrow) (2 ^ hbits narrow) (abs_at_most narrow a f) (abs_at_most narrow b g) k))

-- The casts of the code change no number.
use Rattle.std.proofs.Common.{◌≡◌, ◌-◌, ◌^◌, ◌<◌, ◌≤◌, ℤ, pos, negsuc, ◌-ℤ◌, ◌*ℤ◌, arith, unsigned_abs, lit<}
use Rattle.std.proofs.lemmas.Int.{ints, fits_signed_mul, fits_signed_from_abs, to_z-of_z}
use Rattle.ivl_linear.proofs.Least.{abs_from, abs_high, abs_low}
use lib.Signed.{mag}
use mir.Syntax.{w64, w128}
use mir.Val.{SFits, to_z, of_z}

abs_of_64 : (a : ℤ) → SFits w64 a → unsigned_abs a ≤ 2 ^ 63
abs_of_64 (pos n) f = let k = f.sfits in omega arith
abs_of_64 (negsuc n) f = let k = f.sfits in omega arith

pub product_fits : (a x : ℤ) → SFits w64 a → unsigned_abs x < 2 ^ 64 → SFits w128 (a *ℤ x)
product_fits a x f h = fits_signed_mul w128 a x (2 ^ 63) (2 ^ 64 - 1) (abs_of_64 a f) (omega arith) (lit< tt)

pub fits_by_abs : (z : ℤ) → unsigned_abs z ≤ 2 ^ 126 → SFits w128 z
fits_by_abs z h = fits_signed_from_abs w128 z (omega arith)

-- a sum of light terms is a number of its type
pub small_sum : (z : ℤ) → unsigned_abs z ≤ 2 ^ 124 → to_z w128 (of_z w128 z) ≡ z
small_sum z h = to_z-of_z w128 z (fits_signed_from_abs w128 z (omega arith))

pub spare_small : (bound least : ℤ) → SFits w64 bound → unsigned_abs least ≤ 2 ^ 124 → unsigned_abs (bound -ℤ least) ≤ 2 ^ 125
spare_small bound least f h =
    let a = abs_of_64 bound f in let ah = abs_high bound in let al = abs_low bound in let lh = abs_high least in let ll = abs_low least in
    abs_from (bound -ℤ least) (2 ^ 125) (omega (arith, ints)) (omega (arith, ints))

pub rest_small : (sum own : ℤ) → unsigned_abs sum ≤ 2 ^ 124 → unsigned_abs own ≤ 2 ^ 124 → unsigned_abs (sum -ℤ own) ≤ 2 ^ 125
rest_small sum own h k =
    let sh = abs_high sum in let sl = abs_low sum in let oh = abs_high own in let ol = abs_low own in
    abs_from (sum -ℤ own) (2 ^ 125) (omega (arith, ints)) (omega (arith, ints))

-- a result is a number of its type
pub back : (z : ℤ) → mag z < 2 ^ 127 → to_z w128 (of_z w128 z) ≡ z
back z h = to_z-of_z w128 z (record { sfits = h })

pub left_small : (number rest : ℤ) → SFits w64 number → unsigned_abs rest ≤ 2 ^ 125 → unsigned_abs (number -ℤ rest) ≤ 2 ^ 126
left_small number rest f h =
    let a = abs_of_64 number f in let ah = abs_high number in let al = abs_low number in let rh = abs_high rest in let rl = abs_low rest in
    abs_from (number -ℤ rest) (2 ^ 126) (omega (arith, ints)) (omega (arith, ints))

pub lacking_small : (bound greatest : ℤ) → unsigned_abs bound ≤ 2 ^ 64 → unsigned_abs greatest ≤ 2 ^ 124 → unsigned_abs (bound -ℤ greatest) ≤ 2 ^ 125
lacking_small sum own h k =
    let sh = abs_high sum in let sl = abs_low sum in let oh = abs_high own in let ol = abs_low own in
    abs_from (sum -ℤ own) (2 ^ 125) (omega (arith, ints)) (omega (arith, ints))

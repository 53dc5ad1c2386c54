-- The numbers on a line.
--     number_of word      an optional minus sign and one or more digits, of a value of i64
--     pairs_of words      the numbers two by two; none where one is no number, or their count is odd
--     up_to most n      the number, if it is from 0 to `most`
--     is_in_range pair      both bounds are those of a set over i64
--     pair_of l u      two numbers; none if one is none
use Rattle.std.specs.Prelude.{ℕ, ℤ, pos, neg_ℤ, ◌^◌, ◌&&◌, List, [], ◌∷◌, length, drop, nat_lt, nat_le, ◌==◌, if◌then◌else◌, slice_index, Option, None, Some, option_map, option_and_then, negsuc, int_le, Bool, ◌-◌}
use Rattle.std.specs.Str.{all_ascii_digits}
use Rattle.std.specs.Str.Parse.{digits_value}

-- one or more digits
abbrev pub magnitude : List ℕ → Option ℕ
magnitude digits =
    if nat_lt 0 (length digits) && all_ascii_digits digits then Some (digits_value 10 digits) else None

-- the number, where i64 has it
abbrev pub positive : ℕ → Option ℤ
positive n = if nat_lt n (2 ^ 63) then Some (pos n) else None

-- the same less than or equal to zero
abbrev pub negative : ℕ → Option ℤ
negative n = if nat_le n (2 ^ 63) then Some (neg_ℤ (pos n)) else None

abbrev pub number_of : List ℕ → Option ℤ
number_of word =
    if slice_index word 0 == 45
    then option_and_then negative (magnitude (drop 1 word))
    else option_and_then positive (magnitude word)

abbrev pub pair_of : List ℕ → List ℕ → Option (ℤ × ℤ)
pair_of l u = option_and_then (λ x. option_map (λ y. (x, y)) (number_of u)) (number_of l)

abbrev pub pairs_of : List (List ℕ) → Option (List (ℤ × ℤ))
pairs_of [] = Some []
pairs_of (l ∷ []) = None
pairs_of (l ∷ u ∷ words) = option_and_then (λ p. option_map (λ more. p ∷ more) (pairs_of words)) (pair_of l u)

abbrev pub up_to : ℕ → ℤ → Option ℕ
up_to most (pos n) = if nat_le n most then Some n else None
up_to most (negsuc n) = None

abbrev pub is_in_range : ℤ × ℤ → Bool
is_in_range pair = int_le (negsuc (2 ^ 63 - 2)) pair.0 && int_le pair.1 (pos (2 ^ 63 - 1))

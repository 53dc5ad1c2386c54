-- Examples of what is written, each definition at small values. `negsuc 0` is -1.
use Rattle.std.proofs.Common.{◌≡◌, pos, negsuc, [], ◌∷◌, refl}
use Rattle.serde_json.specs.Data.{null, number, array, unsigned, negative, no_items, item}
use Rattle.ivl_json.specs.Writing.{bound_json, interval_json, set_json}

-- ---- bound_json

zero_is_unsigned : bound_json (pos 0) ≡ number (unsigned 0)
zero_is_unsigned = refl

minus_one_is_negative : bound_json (negsuc 0) ≡ number (negative (negsuc 0))
minus_one_is_negative = refl

the_greatest_of_64_bits_is_unsigned : bound_json (pos 18446744073709551615) ≡ number (unsigned 18446744073709551615)
the_greatest_of_64_bits_is_unsigned = refl

-- ---- interval_json

the_lower_stands_first : interval_json (negsuc 0, pos 3) ≡ array (item (number (negative (negsuc 0))) (item (number (unsigned 3)) no_items))
the_lower_stands_first = refl

one_number_stands_twice : interval_json (pos 3, pos 3) ≡ array (item (number (unsigned 3)) (item (number (unsigned 3)) no_items))
one_number_stands_twice = refl

no_member_is_null : interval_json (pos 8, pos 3) ≡ null
no_member_is_null = refl

-- ---- set_json

no_run_is_null : set_json [] ≡ null
no_run_is_null = refl

one_run_is_an_array_of_one : set_json ((pos 1, pos 2) ∷ []) ≡ array (item (array (item (number (unsigned 1)) (item (number (unsigned 2)) no_items))) no_items)
one_run_is_an_array_of_one = refl

runs_stay_in_order : set_json ((pos 1, pos 1) ∷ (pos 5, pos 6) ∷ [])
    ≡ array (item (array (item (number (unsigned 1)) (item (number (unsigned 1)) no_items))) (item (array (item (number (unsigned 5)) (item (number (unsigned 6)) no_items))) no_items))
runs_stay_in_order = refl

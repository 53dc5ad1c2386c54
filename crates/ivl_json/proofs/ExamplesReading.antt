-- Examples of what values read as bounds and intervals, each definition at small values. `negsuc 0` is -1.
use Rattle.std.proofs.Common.{◌≡◌, ℤ, pos, negsuc, Some, None, Ok, Err, Float, refl, arith, codes, true}
use Rattle.std.proofs.lemmas.Int.{ints}
use Rattle.serde_json.specs.Data.{null, boolean, number, string, array, object, unsigned, negative, float, no_items, item, no_members}
use Rattle.ivl_laws.specs.Sets.{IsBetween, Only}
use Rattle.ivl_json.specs.declared.faults.ItemFault.{ItemFault}
use Rattle.ivl_json.specs.declared.faults.JsonFault.{JsonFault}
use Rattle.ivl_json.specs.Faults.{json_fault}
use Rattle.ivl_json.specs.Reading.{within, bound_read, both_read, count_of, elements_read, interval_read, Reads}

abbrev bytes : ℤ × ℤ
bytes = (pos 0, pos 254)

abbrev signed_bytes : ℤ × ℤ
signed_bytes = (negsuc 126, pos 127)

-- ---- json_fault

shape_stays_shape : json_fault ItemFault.Shape ≡ JsonFault.Shape
shape_stays_shape = refl

length_keeps_its_count : json_fault (ItemFault.Length 3) ≡ JsonFault.Length 3
length_keeps_its_count = refl

range_stays_range : json_fault ItemFault.Range ≡ JsonFault.Range
range_stays_range = refl

-- ---- within

no_number_is_refused : within bytes None ≡ Err ItemFault.Number
no_number_is_refused = refl

the_greatest_is_within : within bytes (Some (pos 254)) ≡ Ok (pos 254)
the_greatest_is_within = refl

one_above_is_not_within : within bytes (Some (pos 255)) ≡ Err ItemFault.Range
one_above_is_not_within = refl

-- ---- bound_read

minus_127_is_a_bound : bound_read signed_bytes (number (negative (negsuc 126))) ≡ Ok (negsuc 126)
minus_127_is_a_bound = refl

minus_128_is_out_of_range : bound_read signed_bytes (number (negative (negsuc 127))) ≡ Err ItemFault.Range
minus_128_is_out_of_range = refl

-- as 1.0, -0 and 18446744073709551616 are
a_float_is_no_bound : (x : Float) → bound_read bytes (number (float x)) ≡ Err ItemFault.Number
a_float_is_no_bound x = refl

a_text_is_no_bound : bound_read bytes (string (codes "1")) ≡ Err ItemFault.Number
a_text_is_no_bound = refl

-- ---- both_read

two_bounds_are_both_read : both_read (Ok (pos 3)) (Ok (pos 8)) ≡ Ok (pos 3, pos 8)
two_bounds_are_both_read = refl

crossed_bounds_are_both_read : both_read (Ok (pos 8)) (Ok (pos 3)) ≡ Ok (pos 8, pos 3)
crossed_bounds_are_both_read = refl

the_first_fault_comes_first : both_read (Err ItemFault.Range) (Err ItemFault.Number) ≡ Err ItemFault.Range
the_first_fault_comes_first = refl

-- ---- count_of

no_items_count_0 : count_of no_items ≡ 0
no_items_count_0 = refl

one_item_counts_1 : count_of (item null no_items) ≡ 1
one_item_counts_1 = refl

three_items_count_3 : count_of (item null (item (boolean true) (item null no_items))) ≡ 3
three_items_count_3 = refl

-- ---- elements_read

one_element_is_too_few : elements_read bytes (item (number (unsigned 1)) no_items) ≡ Err (ItemFault.Length 1)
one_element_is_too_few = refl

-- how many there are is asked before what they are
three_elements_are_too_many : elements_read bytes (item null (item null (item null no_items))) ≡ Err (ItemFault.Length 3)
three_elements_are_too_many = refl

two_elements_are_bounds : elements_read bytes (item (number (unsigned 1)) (item (number (unsigned 5)) no_items)) ≡ Ok (pos 1, pos 5)
two_elements_are_bounds = refl

-- ---- interval_read

null_has_no_member : interval_read bytes null ≡ Ok (pos 1, pos 0)
null_has_no_member = refl

an_object_is_no_interval : interval_read bytes (object no_members) ≡ Err ItemFault.Shape
an_object_is_no_interval = refl

crossed_out_of_range_is_range : interval_read bytes (array (item (number (unsigned 255)) (item (number (unsigned 0)) no_items))) ≡ Err ItemFault.Range
crossed_out_of_range_is_range = refl

-- ---- Reads

two_to_two_reads_as_two : Reads bytes (array (item (number (unsigned 2)) (item (number (unsigned 2)) no_items))) (Only (pos 2))
two_to_two_reads_as_two = ((pos 2, pos 2), refl, λ z. ((λ b. omega (arith, ints, b.0, b.1)), (λ e. (omega (arith, ints, e), omega (arith, ints, e)))))

null_reads_as_any_crossed_pair : Reads bytes null (IsBetween (pos 8, pos 3))
null_reads_as_any_crossed_pair = ((pos 1, pos 0), refl, λ z. ((λ b. absurd (omega (arith, ints, b.0, b.1))), (λ b. absurd (omega (arith, ints, b.0, b.1)))))

a_truth_reads_as_nothing : (S : ℤ → Type 0) → ¬ (Reads bytes (boolean true) S)
a_truth_reads_as_nothing S (p, e, m) = cc

-- Examples of what values read as sets, each definition at small values.
use Rattle.std.proofs.Common.{inl, ⊎_elim, ◌≡◌, ℤ, pos, [], ◌∷◌, Ok, Err, refl, arith, codes}
use Rattle.std.proofs.lemmas.Int.{ints}
use Rattle.serde_json.specs.Data.{Data, null, number, string, array, object, unsigned, no_items, item, no_members}
use Rattle.ivl_laws.specs.Sets.{IsBetween}
use Rattle.ivl_json.specs.declared.faults.ItemFault.{ItemFault}
use Rattle.ivl_json.specs.declared.faults.JsonFault.{JsonFault}
use Rattle.ivl_json.specs.SetReading.{item_then, items_read, set_read, SetReads}

abbrev bytes : ℤ × ℤ
bytes = (pos 0, pos 254)

-- the array of 1 and 2, of 3 alone, and of 8 and 3
abbrev one_to_two : Data
one_to_two = array (item (number (unsigned 1)) (item (number (unsigned 2)) no_items))

abbrev three_alone : Data
three_alone = array (item (number (unsigned 3)) no_items)

abbrev eight_to_three : Data
eight_to_three = array (item (number (unsigned 8)) (item (number (unsigned 3)) no_items))

-- ---- item_then

a_faulty_item_comes_first : item_then 1 (Err (ItemFault.Length 1)) (Err (JsonFault.At 2 ItemFault.Shape)) ≡ Err (JsonFault.At 1 (ItemFault.Length 1))
a_faulty_item_comes_first = refl

a_later_fault_comes_through : item_then 1 (Ok (pos 1, pos 2)) (Err (JsonFault.At 2 ItemFault.Shape)) ≡ Err (JsonFault.At 2 ItemFault.Shape)
a_later_fault_comes_through = refl

an_item_goes_first : item_then 0 (Ok (pos 5, pos 6)) (Ok ((pos 1, pos 2) ∷ [])) ≡ Ok ((pos 5, pos 6) ∷ (pos 1, pos 2) ∷ [])
an_item_goes_first = refl

-- ---- items_read

no_items_are_no_pairs : items_read bytes 0 no_items ≡ Ok []
no_items_are_no_pairs = refl

pairs_stay_in_order : items_read bytes 0 (item eight_to_three (item one_to_two (item null no_items))) ≡ Ok ((pos 8, pos 3) ∷ (pos 1, pos 2) ∷ (pos 1, pos 0) ∷ [])
pairs_stay_in_order = refl

places_count_from_the_first : items_read bytes 4 (item one_to_two (item three_alone no_items)) ≡ Err (JsonFault.At 5 (ItemFault.Length 1))
places_count_from_the_first = refl

-- ---- set_read

null_is_the_empty_set : set_read bytes null ≡ Ok []
null_is_the_empty_set = refl

the_first_faulty_item_is_told : set_read bytes (array (item one_to_two (item three_alone (item (string (codes "x")) no_items)))) ≡ Err (JsonFault.At 1 (ItemFault.Length 1))
the_first_faulty_item_is_told = refl

an_object_is_no_set : set_read bytes (object no_members) ≡ Err JsonFault.Shape
an_object_is_no_set = refl

-- ---- SetReads

an_empty_array_reads_as_nothing : SetReads bytes (array no_items) (λ z. ⊥)
an_empty_array_reads_as_nothing = ([], refl, λ z. ((λ n. n), (λ n. n)))

a_crossed_item_adds_nothing : SetReads bytes (array (item one_to_two (item eight_to_three no_items))) (IsBetween (pos 1, pos 2))
a_crossed_item_adds_nothing = (
  (pos 1, pos 2) ∷ (pos 8, pos 3) ∷ [],
  refl,
  λ z. (⊎_elim (λ b. b) (⊎_elim (λ b. absurd (omega (arith, ints, b.0, b.1))) (λ n. absurd n)), (λ b. inl b)),
)

a_bound_alone_is_no_set : (S : ℤ → Type 0) → ¬ (SetReads bytes (number (unsigned 7)) S)
a_bound_alone_is_no_set S (ps, e, m) = cc

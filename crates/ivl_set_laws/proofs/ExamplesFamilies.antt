-- Examples of lists of sets.
use Rattle.std.proofs.Common.{inl, inr, pos, [], ◌∷◌, arith}
use Rattle.std.proofs.lemmas.Int.{ints}
use Rattle.ivl_laws.specs.Families.{set_at}

-- ---- set_at

four_is_in_the_second_set : set_at (((pos 1, pos 2) ∷ []) ∷ ((pos 4, pos 5) ∷ []) ∷ []) 1 (pos 4)
four_is_in_the_second_set = inl (omega (arith, ints), omega (arith, ints))

four_is_not_in_the_first_set : ¬ (set_at (((pos 1, pos 2) ∷ []) ∷ ((pos 4, pos 5) ∷ []) ∷ []) 0 (pos 4))
four_is_not_in_the_first_set (inl (low, high)) = omega (arith, ints)
four_is_not_in_the_first_set (inr n) = n

no_number_is_in_a_set_that_is_missing : ¬ (set_at (((pos 1, pos 2) ∷ []) ∷ ((pos 4, pos 5) ∷ []) ∷ []) 2 (pos 4))
no_number_is_in_a_set_that_is_missing n = n

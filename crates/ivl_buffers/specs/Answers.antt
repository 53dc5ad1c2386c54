-- What the calls tell, by members.
--     out_of_range, out_of_memory, product_out_of_range      the codes
--     Refuses code old new told      that code is told, and nothing is written
--     written L room      the room with the list in its first places; the room unchanged if it is shorter than the
--         list
--     IsWritten S old new told L      the list has the runs of S, their number is returned, and they are written if
--         there is room (`written`)
--     AnswersSet whole given S old new told      what a call that makes S returns: `out_of_range` exactly when some
--         given member lies outside the range; else the runs are written if there is room, or it is out of memory
--     AnswersProducts whole S T old new told      the same for the products of S and T, with the code
--         `product_out_of_range` if some product of members lies outside the range, unless memory runs out before it
--         is found
--     AnswersQuestion whole given Holds told      the same for a query: 1 if it holds, 0 if it does not
--     AnswersSize whole given old new told      the same for the number of members: 0 is returned, and the number is
--         written
use Rattle.std.specs.Prelude.{◌≡◌, ◌⊎◌, ℕ, ℤ, pos, negsuc, List, length, drop, ◌++◌, if◌then◌else◌, nat_le}
use Rattle.ivl_laws.specs.Sets.{ExactProducts, IsBetween, IsSubset, Products, Union}
use Rattle.ivl_laws.specs.Runs.{IsRunsOf}
use Rattle.ivl_laws.specs.Counts.{IsCountOf}

abbrev pub out_of_range : ℤ
out_of_range = negsuc 0

abbrev pub out_of_memory : ℤ
out_of_memory = negsuc 1

abbrev pub product_out_of_range : ℤ
product_out_of_range = negsuc 2

abbrev pub Refuses : ℤ → List (ℤ × ℤ) → List (ℤ × ℤ) → ℤ → Type 0
Refuses code old new told = (told ≡ code) × (new ≡ old)

-- a list that does not fit is not written at all
abbrev pub written : List (ℤ × ℤ) → List (ℤ × ℤ) → List (ℤ × ℤ)
written L room = if nat_le (length L) (length room) then L ++ drop (length L) room else room

pub record IsWritten (S : ℤ → Type 0) (old new : List (ℤ × ℤ)) (told : ℤ) (L : List (ℤ × ℤ)) : Type 0 where
  pub runs : IsRunsOf L S
  pub count : told ≡ pos (length L)
  pub room : new ≡ written L old

-- refused exactly where some member lies outside the range; else the runs of S are written, or there is no memory
abbrev pub AnswersSet : ℤ × ℤ → (ℤ → Type 0) → (ℤ → Type 0) → List (ℤ × ℤ) → List (ℤ × ℤ) → ℤ → Type 0
AnswersSet whole given S old new told = ((¬ (IsSubset given (IsBetween whole))) × Refuses out_of_range old new told)
    ⊎ (IsSubset given (IsBetween whole) × (Refuses out_of_memory old new told ⊎ ((L : List (ℤ × ℤ)) × IsWritten S old new told L)))

-- a product outside the range has a code of its own, which is told unless there is no memory to find it
abbrev pub AnswersProducts : ℤ × ℤ → (ℤ → Type 0) → (ℤ → Type 0) → List (ℤ × ℤ) → List (ℤ × ℤ) → ℤ → Type 0
AnswersProducts whole S T old new told = ((¬ (IsSubset (Union S T) (IsBetween whole))) × Refuses out_of_range old new told)
    ⊎ (IsSubset (Union S T) (IsBetween whole) × (Refuses out_of_memory old new told
    ⊎ ((¬ (IsSubset (ExactProducts S T) (IsBetween whole))) × Refuses product_out_of_range old new told)
    ⊎ (IsSubset (ExactProducts S T) (IsBetween whole) × ((L : List (ℤ × ℤ)) × IsWritten (Products S T) old new told L))))

-- yes is told as 1, and no as 0
abbrev pub AnswersQuestion : ℤ × ℤ → (ℤ → Type 0) → Type 0 → ℤ → Type 0
AnswersQuestion whole given Holds told = ((¬ (IsSubset given (IsBetween whole))) × (told ≡ out_of_range))
    ⊎ (IsSubset given (IsBetween whole) × ((told ≡ out_of_memory) ⊎ ((told ≡ pos 1) × Holds) ⊎ ((told ≡ pos 0) × (¬ Holds))))

-- 0 is told where the number of members is written
abbrev pub AnswersSize : ℤ × ℤ → (ℤ → Type 0) → ℕ → ℕ → ℤ → Type 0
AnswersSize whole given old new told = ((¬ (IsSubset given (IsBetween whole))) × (told ≡ out_of_range) × (new ≡ old))
    ⊎ (IsSubset given (IsBetween whole) × (((told ≡ out_of_memory) × (new ≡ old)) ⊎ ((told ≡ pos 0) × IsCountOf new given)))

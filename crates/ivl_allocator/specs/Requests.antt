-- What the words after a command ask for, or the line that tells what is wrong with them.
--     number_in least most word      the number that a word is, from `least` to `most`
--     taken_of first last most words      what `take` asks for: from 1 to `most` numbers, the lowest, or at or above one from `first` to `last`
--     placed_by first last count how places      the same for `count` numbers, where `how` is `at` or `above` and one number is to follow
--     IsTakeWithin last most take      how far these numbers go
--     given_of first last words      the numbers from `first` to `last` that `give` names
use Rattle.std.specs.Prelude.{◌≤◌, ℕ, ℤ, pos, negsuc, nat_lt, if◌then◌else◌, List, [], ◌∷◌, Option, None, Some, Result, Ok, Err, bytes_eq, codes}
use Rattle.ivl_lines.specs.Numbers.{number_of}
use Rattle.ivl_allocator.specs.declared.requests.Take.{Take}
use Rattle.ivl_allocator.specs.declared.requests.Take.TheVariants.{Lowest, At, Above}
use Rattle.ivl_allocator.specs.Faults.{above, below, not_a_number, right_form}

abbrev pub number_within : ℕ → ℕ → List ℕ → Option ℤ → Result ℕ (List ℕ)
number_within least most word None = Err (not_a_number word)
number_within least most word (Some (negsuc n)) = Err (below word least)
number_within least most word (Some (pos n)) =
    if nat_lt n least then Err (below word least)
    else if nat_lt most n then Err (above word most)
    else Ok n

abbrev pub number_in : ℕ → ℕ → List ℕ → Result ℕ (List ℕ)
number_in least most word = number_within least most word (number_of word)

abbrev pub take_form : List ℕ
take_form = codes "take COUNT, take COUNT at NUMBER or take COUNT above NUMBER"

abbrev pub at_number : ℕ → Result ℕ (List ℕ) → Result Take (List ℕ)
at_number count (Ok place) = Ok (At count place)
at_number count (Err told) = Err told

abbrev pub above_number : ℕ → Result ℕ (List ℕ) → Result Take (List ℕ)
above_number count (Ok place) = Ok (Above count place)
above_number count (Err told) = Err told

abbrev pub placed_by : ℕ → ℕ → ℕ → List ℕ → List (List ℕ) → Result Take (List ℕ)
placed_by first last count how (place ∷ []) =
    if bytes_eq how (codes "at") then at_number count (number_in first last place)
    else if bytes_eq how (codes "above") then above_number count (number_in first last place)
    else Err (right_form take_form)
placed_by first last count how _ = Err (right_form take_form)

abbrev pub taken_where : ℕ → ℕ → Result ℕ (List ℕ) → List (List ℕ) → Result Take (List ℕ)
taken_where first last (Err told) words = Err told
taken_where first last (Ok count) [] = Ok (Lowest count)
taken_where first last (Ok count) (how ∷ places) = placed_by first last count how places

abbrev pub taken_of : ℕ → ℕ → ℕ → List (List ℕ) → Result Take (List ℕ)
taken_of first last most [] = Err (right_form take_form)
taken_of first last most (count ∷ words) = taken_where first last (number_in 1 most count) words

-- at least one number, and for a place at most so many
abbrev pub IsTakeWithin : ℕ → ℕ → Take → Type 0
IsTakeWithin last most (Lowest n) = 1 ≤ n
IsTakeWithin last most (At n place) = (1 ≤ n) × (n ≤ most) × (place ≤ last)
IsTakeWithin last most (Above n place) = (1 ≤ n) × (n ≤ most) × (place ≤ last)

abbrev pub ended : ℕ → Result ℕ (List ℕ) → Result (ℤ × ℤ) (List ℕ)
ended lower (Ok upper) = Ok (pos lower, pos upper)
ended lower (Err told) = Err told

-- the last number is not below the first
abbrev pub run_to : ℕ → Result ℕ (List ℕ) → List ℕ → Result (ℤ × ℤ) (List ℕ)
run_to last (Ok lower) upper = ended lower (number_in lower last upper)
run_to last (Err told) upper = Err told

abbrev pub given_of : ℕ → ℕ → List (List ℕ) → Result (ℤ × ℤ) (List ℕ)
given_of first last (lower ∷ upper ∷ []) = run_to last (number_in first last lower) upper
given_of first last _ = Err (right_form (codes "give FIRST LAST"))

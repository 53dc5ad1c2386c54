-- What the words of a line give: ranges, or a length.
--     IsRange word p      the word is the two numbers of the pair with two dots between them, the first not above the
--         second, both in the range of a set of `i64`
--     AreRanges words ranges      each word is the range at its place
--     IsSetOf words L      there are words, each is a range, and L is the list of the runs of their union
--     IsNoSet words      there is no word, or one that is no range
--     length_in words      the number from 0 to 4294967295 that the only word is; none if it is no such number, or if
--         there is no word or more than one
use Rattle.std.specs.Prelude.{◌≡◌, ◌≢◌, ◌-◌, ◌^◌, ◌++◌, ℕ, ℤ, pos, negsuc, ◌≤ℤ◌, List, [], ◌∷◌, codes, Option, None, Some, option_and_then}
use Rattle.ivl_laws.specs.Runs.{Covers, IsRunsOf}
use Rattle.ivl_laws.specs.Sets.{IsInRange}
use Rattle.ivl_lines.specs.Numbers.{number_of, up_to}

pub record IsRange (word : List ℕ) (p : ℤ × ℤ) : Type 0 where
  pub lower : List ℕ
  pub upper : List ℕ
  pub text : word ≡ lower ++ (codes ".." ++ upper)
  pub from : number_of lower ≡ Some p.0
  pub to : number_of upper ≡ Some p.1
  pub in_order : p.0 ≤ℤ p.1
  pub in_range : IsInRange (negsuc (2 ^ 63 - 2), pos (2 ^ 63 - 1)) p

abbrev pub AreRanges : List (List ℕ) → List (ℤ × ℤ) → Type 0
AreRanges [] [] = Unit {0}
AreRanges [] (p ∷ ranges) = ⊥
AreRanges (word ∷ words) [] = ⊥
AreRanges (word ∷ words) (p ∷ ranges) = IsRange word p × AreRanges words ranges

abbrev pub IsSetOf : List (List ℕ) → List (ℤ × ℤ) → Type 0
IsSetOf words L = (words ≢ []) × ((ranges : List (ℤ × ℤ)) × AreRanges words ranges × IsRunsOf L (Covers ranges))

abbrev pub IsNoSet : List (List ℕ) → Type 0
IsNoSet words = (ranges : List (ℤ × ℤ)) → AreRanges words ranges → words ≡ []

abbrev pub length_in : List (List ℕ) → Option ℕ
length_in (word ∷ []) = option_and_then (up_to (2 ^ 32 - 1)) (number_of word)
length_in _ = None

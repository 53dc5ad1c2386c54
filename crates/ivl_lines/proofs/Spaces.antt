-- The words of a text by its first space.
use Rattle.std.proofs.Common.{◌≡◌, ◌∙◌, ℕ, ◌<◌, inl, inr, true, List, [], ◌∷◌, Option, None, Some, ap, eqb, ltb, length, refl, arith}
use Rattle.std.specs.Prelude.{filter, option_map}
use Rattle.std.specs.Option.{unwrap_or}
use Rattle.std.specs.List.{find, position_or_len, before_first, after_first, slice_split}
use Rattle.std.proofs.lemmas.Bool.{cases_Bool, lt-ltb}
use Rattle.std.proofs.lemmas.List.Splits.{slice_split_first, slice_split_none}
use Rattle.std.proofs.lemmas.List.Sums.{fails_before_first}
use Rattle.ivl_lines.specs.Lines.{first_of}
use Rattle.ivl_lines.specs.Words.{is_not_empty, words_between}

-- the text begins with a word, which a space ends
pub word_first : (text word after : List ℕ) → position_or_len (λ b. eqb b 32) text < length text → word ≡ before_first (λ b. eqb b 32) text → after ≡ after_first (λ b. eqb b 32) text → 0 < length word → words_between text ≡ word ∷ words_between after
word_first text word after within front back some =
    let parts : slice_split (λ b. eqb b 32) text ≡ word ∷ slice_split (λ b. eqb b 32) after = rw (front, back) (slice_split_first (λ b. eqb b 32) text 0 within) in
    let long : ltb 0 (length word) ≡ true = lt-ltb 0 (length word) some in
    rw (parts, long) refl

-- the text is a word, without a space
pub word_alone : (text : List ℕ) → position_or_len (λ b. eqb b 32) text ≡ length text → 0 < length text → words_between text ≡ text ∷ []
word_alone text none some =
    let parts : slice_split (λ b. eqb b 32) text ≡ text ∷ [] = slice_split_none (λ b. eqb b 32) text (λ k d below. fails_before_first (λ b. eqb b 32) text k d (omega (arith, none))) in
    let long : ltb 0 (length text) ≡ true = lt-ltb 0 (length text) some in
    rw (parts, long) refl

-- the first piece that is not empty is the first word
abbrev word_in : Option (List ℕ) → List ℕ
word_in None = []
word_in (Some word) = word

first_found : (pieces : List (List ℕ)) → word_in (find is_not_empty pieces) ≡ first_of (filter is_not_empty pieces)
first_found [] = refl
first_found (piece ∷ pieces) = elim (cases_Bool (is_not_empty piece)) [
  | inl holds ↦ rw holds refl
  | inr fails ↦ rw fails (first_found pieces)
]

pub word_found : {A : Type 0} (now : A → List ℕ) (text : List ℕ) (found : Option A) (none : A) → now none ≡ [] → option_map now found ≡ find is_not_empty (slice_split (λ b. eqb b 32) text)
    → now (unwrap_or found none) ≡ first_of (words_between text)
word_found now text None none e h = e ∙ ap word_in h ∙ first_found (slice_split (λ b. eqb b 32) text)
word_found now text (Some word) none e h = ap word_in h ∙ first_found (slice_split (λ b. eqb b 32) text)

-- A range is cut at the first dot of its word, since no number has a dot.
use Rattle.std.proofs.Common.{◌≡◌, ◌≢◌, ◌<◌, ◌∙◌, ℕ, ℤ, pos, negsuc, ◌≤ℤ◌, ◌-◌, ◌^◌, zero, suc, List, [], ◌∷◌, ◌++◌, Bor, Option, None, Some, true, eqb, ltb, get_or, drop, length, refl, ap, sym, inl, inr, lit<, arith}
use Rattle.std.specs.Prelude.{◌&&◌, option_and_then}
use Rattle.std.specs.Str.{all_ascii_digits}
use Rattle.std.proofs.lemmas.Bool.{cases_Bool, and_parts, eqb-true}
use Rattle.std.proofs.lemmas.Option.{none-some, same_Some}
use Rattle.std.proofs.lemmas.Str.Parse.{tells_all_ascii_digits}
use Rattle.std.proofs.lemmas.Str.Pattern.{IsSplitOnceResult, split_after, split_parts}
use Rattle.ivl_lines.specs.Numbers.{magnitude, negative, number_of, positive}
use Rattle.ivl_laws.specs.Sets.{IsInRange}
use Rattle.ivl_ranges.specs.Ranges.{IsRange}

abbrev pub HasNoDot : List ℕ → Type 0
HasNoDot text = (i : ℕ) → i < length text → get_or text i 0 ≢ 46

digits-HasNoDot : (digits : List ℕ) → all_ascii_digits digits ≡ true → HasNoDot digits
digits-HasNoDot [] all i below = absurd (omega arith)
digits-HasNoDot (c ∷ cs) all zero below =
    let first = tells_all_ascii_digits.parts c cs all in
    λ e. absurd (omega (arith, first.0.0, first.0.1, e))
digits-HasNoDot (c ∷ cs) all (suc i) below =
    let first = tells_all_ascii_digits.parts c cs all in
    digits-HasNoDot cs first.1 i (omega arith)

magnitude-digits : (digits : List ℕ) (n : ℕ) → magnitude digits ≡ Some n → all_ascii_digits digits ≡ true
magnitude-digits digits n e =
    elim (cases_Bool (ltb 0 (length digits) && all_ascii_digits digits)) [
      | inl holds ↦ (and_parts (ltb 0 (length digits)) (all_ascii_digits digits) holds).1
      | inr fails ↦
          let none : magnitude digits ≡ None = rw fails refl in
          absurd (none-some n (sym none ∙ e))
    ]

-- what a step gives, it gives of something
given : (f : ℕ → Option ℤ) (o : Option ℕ) (z : ℤ) → option_and_then f o ≡ Some z → (n : ℕ) × (o ≡ Some n)
given f None z e = absurd (none-some z e)
given f (Some n) z e = (n, refl)

after_minus : (text : List ℕ) → get_or text 0 0 ≡ 45 → HasNoDot (drop 1 text) → HasNoDot text
after_minus [] minus rest i below = absurd (omega arith)
after_minus (b ∷ bs) minus rest zero below = λ dot. absurd (omega (arith, minus, dot))
after_minus (b ∷ bs) minus rest (suc i) below = rest i (omega arith)

pub number-HasNoDot : (text : List ℕ) (z : ℤ) → number_of text ≡ Some z → HasNoDot text
number-HasNoDot text z e =
    elim (cases_Bool (eqb (get_or text 0 0) 45)) [
      | inl minus ↦
          let read : option_and_then negative (magnitude (drop 1 text)) ≡ Some z = rw minus at e in
          let (n, digits) = given negative (magnitude (drop 1 text)) z read in
          after_minus text (eqb-true (get_or text 0 0) 45 minus) (digits-HasNoDot (drop 1 text) (magnitude-digits (drop 1 text) n digits))
      | inr plain ↦
          let read : option_and_then positive (magnitude text) ≡ Some z = rw plain at e in
          let (n, digits) = given positive (magnitude text) z read in
          digits-HasNoDot text (magnitude-digits text n digits)
    ]

-- a range has a dot
pub uncut : (word : List ℕ) (r : Option (Bor (List ℕ) × Bor (List ℕ))) → IsSplitOnceResult 46 word r → r ≡ None → (p : ℤ × ℤ) → ¬ (IsRange word p)
uncut word r h none p range = rw none at (split_after 46 word range.lower (46 ∷ range.upper) r h (lit< tt) range.text (number-HasNoDot range.lower p.0 range.from))

-- its lower number stands before the first dot, and after it one more dot and its upper number
pub cut : (word : List ℕ) (r : Option (Bor (List ℕ) × Bor (List ℕ))) (x : Bor (List ℕ) × Bor (List ℕ)) → IsSplitOnceResult 46 word r → r ≡ Some x → (p : ℤ × ℤ) (range : IsRange word p) → (x.0.now ≡ range.lower) × (x.1.now ≡ 46 ∷ range.upper)
cut word r x h some p range = rw some at (split_after 46 word range.lower (46 ∷ range.upper) r h (lit< tt) range.text (number-HasNoDot range.lower p.0 range.from))

-- where a word is cut so, its parts are those of every range that it is
abbrev pub IsCutAs : List ℕ → List ℕ → List ℕ → Type 0
IsCutAs word before rest = (p : ℤ × ℤ) (range : IsRange word p) → (before ≡ range.lower) × (rest ≡ 46 ∷ range.upper)

pub no_second_dot : (word before rest : List ℕ) → IsCutAs word before rest → ((after : List ℕ) → rest ≢ 46 ∷ after) → (p : ℤ × ℤ) → ¬ (IsRange word p)
no_second_dot word before rest parts none p range = none range.upper (parts p range).1

pub no_lower : (word before rest : List ℕ) → IsCutAs word before rest → None ≡ number_of before → (p : ℤ × ℤ) → ¬ (IsRange word p)
no_lower word before rest parts none p range = none-some p.0 (none ∙ ap number_of (parts p range).0 ∙ range.from)

upper_is : (word before rest after : List ℕ) → IsCutAs word before rest → rest ≡ 46 ∷ after → (p : ℤ × ℤ) (range : IsRange word p) → after ≡ range.upper
upper_is word before rest after parts dot p range =
    let same : 46 ∷ after ≡ 46 ∷ range.upper = sym dot ∙ (parts p range).1 in cc

pub no_upper : (word before rest after : List ℕ) → IsCutAs word before rest → rest ≡ 46 ∷ after → None ≡ number_of after → (p : ℤ × ℤ) → ¬ (IsRange word p)
no_upper word before rest after parts dot none p range = none-some p.1 (none ∙ ap number_of (upper_is word before rest after parts dot p range) ∙ range.to)

pub same_ends : (word before rest after : List ℕ) (l u : ℤ) → IsCutAs word before rest → rest ≡ 46 ∷ after → Some l ≡ number_of before → Some u ≡ number_of after → (p : ℤ × ℤ) → IsRange word p → (l ≡ p.0) × (u ≡ p.1)
same_ends word before rest after l u parts dot lower upper p range = (
  same_Some l p.0 (lower ∙ ap number_of (parts p range).0 ∙ range.from),
  same_Some u p.1 (upper ∙ ap number_of (upper_is word before rest after parts dot p range) ∙ range.to),
)

-- the word is the text of these two numbers
pub range_is : (word before rest after : List ℕ) (p : ℤ × ℤ) → word ≡ before ++ (46 ∷ rest) → rest ≡ 46 ∷ after → Some p.0 ≡ number_of before → Some p.1 ≡ number_of after → p.0 ≤ℤ p.1 → IsInRange (negsuc (2 ^ 63 - 2), pos (2 ^ 63 - 1)) p → IsRange word p
range_is word before rest after p whole dot lower upper order within = record {
  lower = before;
  upper = after;
  text = whole ∙ ap (λ (more : List ℕ). before ++ (46 ∷ more)) dot;
  from = sym lower;
  to = sym upper;
  in_order = order;
  in_range = within;
}

pub parts : (word : List ℕ) (r : Option (Bor (List ℕ) × Bor (List ℕ))) (x : Bor (List ℕ) × Bor (List ℕ)) → IsSplitOnceResult 46 word r → r ≡ Some x → word ≡ x.0.now ++ (46 ∷ x.1.now)
parts word r x h some = (rw some at (split_parts 46 word r h (lit< tt))).0

use Rattle.std.proofs.Common.{◌≡◌, ◌≢◌, ◌^◌, ◌<◌, ◌≤◌, ℕ, ℤ, pos, neg_ℤ, List, Bool, true, cond, eqb, ltb, leb, length, drop, get_or, Some, None, Result, Ok, Err, inl, inr, refl, lit<, ap, sym, ◌∙◌}
use Rattle.std.specs.Prelude.{◌&&◌, option_and_then}
use Rattle.std.specs.Result.{OkIff, result_ok}
use Rattle.std.specs.Str.{all_ascii_digits}
use Rattle.std.specs.Str.Parse.{ParsesSigned, digits_value}
use Rattle.std.proofs.lemmas.Bool.{cases_Bool, eqb-true, eqb-false, and_parts, ltb-true, lt-ltb, leb-true, le-leb, false≢true}
use Rattle.std.proofs.lemmas.Str.Parse.{IsNumeralModel, numerals_by_value, tells_all_ascii_digits, parse_signed_minus, parse_signed_plain}
use Rattle.std.proofs.lemmas.Str.Pattern.{starts_char}
use mir.Syntax.{w64}
use Rattle.ivl_lines.specs.Numbers.{magnitude, number_of}
use Rattle.ivl_lines.proofs.numbers.number_from.Goals as goal

own : IsNumeralModel (λ ds. all_ascii_digits ds ≡ true) (digits_value 10)
own = numerals_by_value (λ ds. all_ascii_digits ds ≡ true) tells_all_ascii_digits

-- what `magnitude` and a bound give, where a result is Ok just for the digits within the bound
within : {E : Type 0} (r : Result ℤ E) (digits : List ℕ) (fits : ℕ → Bool) (z : ℕ → ℤ) (Fits : Type 0) → (Fits → fits (digits_value 10 digits) ≡ true) → (fits (digits_value 10 digits) ≡ true → Fits) → OkIff r ((all_ascii_digits digits ≡ true) × (0 < length digits) × Fits) (z (digits_value 10 digits)) → result_ok r ≡ option_and_then (λ n. cond (fits n) (Some (z n)) None) (magnitude digits)
within (Ok x) digits fits z Fits to from h =
    let few : ltb 0 (length digits) ≡ true = lt-ltb 0 (length digits) h.0.1 in
    let all : all_ascii_digits digits ≡ true = h.0.0 in
    let room : fits (digits_value 10 digits) ≡ true = to h.0.2 in
    rw (few, all, room) (ap (λ (v : ℤ). Some v) h.1)
within (Err e) digits fits z Fits to from h =
    elim (cases_Bool (ltb 0 (length digits) && all_ascii_digits digits)) [
      | inr fails ↦ rw fails refl
      | inl holds ↦ elim (cases_Bool (fits (digits_value 10 digits))) [
        | inr fails ↦ rw (holds, fails) refl
        | inl room ↦ absurd (h ((and_parts (ltb 0 (length digits)) (all_ascii_digits digits) holds).1, ltb-true 0 (length digits) (and_parts (ltb 0 (length digits)) (all_ascii_digits digits) holds).0, from room))
      ]
    ]

number_is : {E : Type 0} (bs : List ℕ) (r : Result ℤ E) → ParsesSigned w64 10 bs r → get_or bs 0 0 ≢ 43 → result_ok r ≡ number_of bs
number_is bs r h no_plus =
    elim (cases_Bool (eqb (get_or bs 0 0) 45)) [
      | inl minus ↦ rw minus (within r (drop 1 bs) (λ n. leb n (2 ^ 63)) (λ n. neg_ℤ (pos n)) (digits_value 10 (drop 1 bs) ≤ 2 ^ 63) (le-leb (digits_value 10 (drop 1 bs)) (2 ^ 63)) (leb-true (digits_value 10 (drop 1 bs)) (2 ^ 63)) (parse_signed_minus own w64 bs r h (eqb-true (get_or bs 0 0) 45 minus)))
      | inr plain ↦ rw plain (within r bs (λ n. ltb n (2 ^ 63)) (λ n. pos n) (digits_value 10 bs < 2 ^ 63) (lt-ltb (digits_value 10 bs) (2 ^ 63)) (ltb-true (digits_value 10 bs) (2 ^ 63)) (parse_signed_plain own w64 bs r h no_plus (eqb-false (get_or bs 0 0) 45 plain)))
    ]

pub returns : goal.returns
returns c =
    let plus = starts_char 43 c.args.word.now c.starts_with.result c.starts_with.ensures.cases (lit< tt) (lit< tt) in
    let no_plus : get_or c.args.word.now 0 0 ≢ 43 = λ e. false≢true (sym c.if-starts_with.false ∙ plus.1 e) in
    c.ok.ensures.value ∙ number_is c.args.word.now c.parse.result c.parse.ensures.value.0 no_plus

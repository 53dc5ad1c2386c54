-- A slice that is split at its first newline.
use Rattle.std.proofs.Common.{◌≡◌, ℕ, ◌+◌, ◌-◌, ◌<◌, true, false, List, ◌∷◌, ◌++◌, eqb, get_or, take, drop, length, refl, sym, ap, ◌∙◌, Option, Some, arith, add-one, drop-cons, length-drop}
use Rattle.std.specs.List.{AllWithin, HoldsAt}
use Rattle.std.specs.Option.{MatchOption}
use Rattle.std.proofs.lemmas.Bool.{eqb-true}
use Rattle.std.proofs.lemmas.List.{take-append-drop, take_all, get_or-take, length-take}
use Rattle.ivl_lines.specs.Cut.{HasNoNewline, IsSplitAtNewline}

-- how `&bytes[at + 1..]` is said
abbrev pub after : List ℕ → ℕ → List ℕ
after bytes at = take (length bytes - (at + 1)) (drop (at + 1) bytes)

after_is : (bytes : List ℕ) (at : ℕ) → after bytes at ≡ drop (at + 1) bytes
after_is bytes at = take_all (length bytes - (at + 1)) (drop (at + 1) bytes) (omega (arith, length-drop (at + 1) bytes))

whole_is : (bytes : List ℕ) (at : ℕ) → at < length bytes → get_or bytes at 0 ≡ 10 → bytes ≡ take at bytes ++ 10 ∷ after bytes at
whole_is bytes at within newline =
    let rest : drop at bytes ≡ 10 ∷ drop (at + 1) bytes = rw (drop-cons bytes at 0, newline, add-one) refl in
    sym (take-append-drop at bytes) ∙ ap (λ (xs : List ℕ). take at bytes ++ xs) (rest ∙ ap (λ (xs : List ℕ). 10 ∷ xs) (sym (after_is bytes at)))

first_is : (bytes : List ℕ) (at : ℕ) → at < length bytes → AllWithin (λ b. eqb b 10 ≡ false) bytes 0 at → HasNoNewline (take at bytes)
first_is bytes at within none = λ k d below.
    let here : k < at = omega (arith, length-take at bytes) in
    rw (get_or-take at bytes k d here) (none k d (omega arith) here)

pub split_at : (bytes : List ℕ) (r : Option ℕ) (at : ℕ) → r ≡ Some at → MatchOption r (AllWithin (λ b. eqb b 10 ≡ false) bytes 0 (length bytes)) (λ i. (i < length bytes) × HoldsAt (λ b. eqb b 10 ≡ true) bytes i × AllWithin (λ b. eqb b 10 ≡ false) bytes 0 i) → IsSplitAtNewline bytes (take at bytes) (after bytes at)
split_at bytes r at e found =
    let first = rw e at found in record {
      whole = whole_is bytes at first.0 (eqb-true (get_or bytes at 0) 10 (first.1 0));
      first = first_is bytes at first.0 first.2;
    }

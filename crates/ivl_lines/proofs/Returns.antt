-- A line and the same less a carriage return at its end: whether they are UTF-8.
use Rattle.std.proofs.Common.{◌≡◌, ◌-◌, ◌+◌, ℕ, List, [], ◌∷◌, ◌++◌, eqb, get_or, suc, zero, take, length, sym, ap, ◌∙◌, inl, inr, arith, subst}
use Rattle.std.specs.Prelude.{IsUtf8}
use Rattle.std.specs.Str.{IsAscii}
use Rattle.std.specs.Str.Lines.{strip_carriage_return}
use Rattle.std.proofs.lemmas.Bool.{cases_Bool, eqb-true}
use Rattle.std.proofs.lemmas.List.{take_more, take_all}
use Rattle.std.proofs.lemmas.Str.{IsUtf8-append, IsUtf8-from_ascii, IsUtf8-take}

-- a line that ends in a carriage return
pub last_from : (line : List ℕ) → get_or line (length line - 1) 0 ≡ 13 → line ≡ take (length line - 1) line ++ 13 ∷ []
last_from [] e = absurd (omega arith)
last_from (b ∷ bs) e =
    let all : List ℕ = b ∷ bs in
    let more : take (length all - 1 + 1) all ≡ take (length all - 1) all ++ get_or all (length all - 1) 0 ∷ [] = take_more all (length all - 1) 0 (omega arith) in
    sym (take_all (length all - 1 + 1) all (omega arith)) ∙ more ∙ ap (λ (x : ℕ). take (length all - 1) all ++ x ∷ []) e

one_return : IsAscii (13 ∷ [])
one_return zero = omega arith
one_return (suc i) = omega arith

pub utf8_with_return : (line : List ℕ) → IsUtf8 (strip_carriage_return line) → IsUtf8 line
utf8_with_return line h = elim (cases_Bool (eqb (get_or line (length line - 1) 0) 13)) [
  | inl holds ↦ subst IsUtf8 (sym (last_from line (eqb-true (get_or line (length line - 1) 0) 13 holds)))
      (IsUtf8-append (take (length line - 1) line) (13 ∷ []) (rw holds at h) (IsUtf8-from_ascii (13 ∷ []) one_return))
  | inr fails ↦ rw fails at h
]

pub utf8_without_return : (line : List ℕ) → IsUtf8 line → IsUtf8 (strip_carriage_return line)
utf8_without_return line h = elim (cases_Bool (eqb (get_or line (length line - 1) 0) 13)) [
  | inl holds ↦ (let e = eqb-true (get_or line (length line - 1) 0) 13 holds in
      rw holds (IsUtf8-take line (length line - 1) h (omega arith, λ lt high. absurd (omega (arith, e, high)))))
  | inr fails ↦ rw fails h
]

-- A `set` whose pairs were read, for which there was no memory.
use Rattle.std.proofs.Common.{◌≡◌, ◌∙◌, ℕ, ℤ, Bool, true, false, List, [], ◌∷◌, Option, None, Some, inl, inr, refl, sym, ap, arith, length, ◌<◌, rules}
use Rattle.std.specs.Prelude.{◌&&◌, ◌≤ℤ◌, All, int_le, nat_lt, option_map}
use Rattle.std.specs.List.{list_all}
use Rattle.std.proofs.lemmas.Bool.{and_from, and_parts, cases_Bool, both_ways}
use Rattle.std.proofs.lemmas.Bool.Decides.{nat_tests}
use Rattle.std.proofs.lemmas.Int.{ints}
use Rattle.std.proofs.lemmas.List.Elements.{All-cons, All-head, All-nil, All-tail}
use Rattle.ivl_laws.specs.Sets.{IsInRange}
use Rattle.ivl_lines.specs.Lines.{with_newline}
use Rattle.ivl_lines.specs.Numbers.{number_of, pair_of, pairs_of}
use Rattle.ivl_calculator.specs.Actions.{make, pairs, refused}
use Rattle.ivl_calculator.specs.Step.{MayStep}
use Rattle.ivl_calculator_lines.specs.Printed.{printed}
use Rattle.ivl_calculator_lines.specs.Reading.{Reading, bad, command, reading_from}
use Rattle.ivl_calculator_lines.specs.Commands.{of_pairs, register_of}
use Rattle.ivl_calculator_lines.specs.Session.{AnswersReading, i64_range}
use Rattle.ivl_calculator_lines.specs.Unkept.{IsUnkept, why_unkept}
use Rattle.ivl_lines.specs.Numbers.{is_in_range}
use Rattle.ivl_calculator.specs.declared.reply.Refusal.TheVariants.{Register, Range}
use Rattle.ivl_calculator_lines.specs.declared.lines.Unkept.{Unkept}
use Rattle.ivl_laws.proofs.Orders.{le_true, true_le}

-- whether the pairs of some words are in range
abbrev pub fit_of : List (List ℕ) → Option Bool
fit_of words = option_map (λ list. list_all is_in_range list) (pairs_of words)

-- `front && ` before what is told of the pairs that are left
abbrev pub and_then : Bool → Option Bool → Option Bool
and_then front o = option_map (λ b. front && b) o

pub none_before : (o : Option Bool) → o ≡ and_then true o
none_before None = refl
none_before (Some b) = refl

and_assoc : (a b c : Bool) → (a && (b && c)) ≡ ((a && b) && c)
and_assoc true b c = refl
and_assoc false b c = refl

through : (front : Bool) (p : ℤ × ℤ) (o : Option (List (ℤ × ℤ)))
    → and_then front (option_map (λ list. list_all is_in_range list) (option_map (λ more. p ∷ more) o)) ≡ and_then (front && is_in_range p) (option_map (λ list. list_all is_in_range list) o)
through front p None = refl
through front p (Some more) = ap (λ (b : Bool). Some b) (and_assoc front (is_in_range p) (list_all is_in_range more))

pub fit_of-step : (words after more : List (List ℕ)) (l u : List ℕ) (first second : Option ℤ) (x y : ℤ) (front fits : Bool) (all : Option Bool) → words ≡ l ∷ after → after ≡ u ∷ more
    → first ≡ number_of l → first ≡ Some x → second ≡ number_of u → second ≡ Some y → fits ≡ is_in_range (x, y)
    → all ≡ and_then front (fit_of words) → all ≡ and_then (front && fits) (fit_of more)
fit_of-step words after more l u first second x y front fits all at_l at_u read_l some_x read_u some_y told before =
    let pair : pair_of l u ≡ Some (x, y) = rw (← read_l, some_x, ← read_u, some_y) refl in
    rw told (before ∙ rw (at_l, at_u, pair) (through front (x, y) (pairs_of more)))

-- ---- what the words after `set` say

option_fits : (o : Option (List (ℤ × ℤ))) (told : Option Bool) (r : ℕ) (b : Bool) → told ≡ option_map (λ list. list_all is_in_range list) o → told ≡ Some b
    → (list : List (ℤ × ℤ)) × (reading_from (option_map (λ more. make r (pairs more)) o) ≡ command (make r (pairs list))) × (b ≡ list_all is_in_range list)
option_fits None told r b is some = absurd (cc)
option_fits (Some list) told r b is some = (list, refl, search rules)

pub read_pairs : (words rest : List (List ℕ)) (first : List ℕ) (named : Option ℕ) (r : ℕ) (told : Option Bool) (b : Bool)
    → words ≡ first ∷ rest → named ≡ register_of first → named ≡ Some r → told ≡ fit_of rest → told ≡ Some b
    → (list : List (ℤ × ℤ)) × (reading_from (of_pairs words) ≡ command (make r (pairs list))) × (b ≡ list_all is_in_range list)
read_pairs words rest first named r told b at_first read_name some_name read_rest some_told =
    rw (at_first, ← read_name, some_name) (option_fits (pairs_of rest) told r b read_rest some_told)

option_none : (o : Option (List (ℤ × ℤ))) (r : ℕ) → option_map (λ list. list_all is_in_range list) o ≡ None → bad ≡ reading_from (option_map (λ more. make r (pairs more)) o)
option_none None r is = refl
option_none (Some list) r is = absurd (cc)

pub read_no_pairs : (words rest : List (List ℕ)) (first : List ℕ) (named : Option ℕ) (r : ℕ) (told : Option Bool)
    → words ≡ first ∷ rest → named ≡ register_of first → named ≡ Some r → told ≡ fit_of rest → told ≡ None
    → bad ≡ reading_from (of_pairs words)
read_no_pairs words rest first named r told at_first read_name some_name read_rest none =
    rw (at_first, ← read_name, some_name) (option_none (pairs_of rest) r (sym read_rest ∙ none))

-- ---- why it is refused

in_range_from : (p : ℤ × ℤ) → is_in_range p ≡ true → IsInRange i64_range p
in_range_from p h =
    let parts = and_parts (int_le i64_range.0 p.0) (int_le p.1 i64_range.1) h in
    (le_true _ _ parts.0, le_true _ _ parts.1)

to_in_range : (p : ℤ × ℤ) → IsInRange i64_range p → is_in_range p ≡ true
to_in_range p h = and_from _ _ (true_le _ _ h.0) (true_le _ _ h.1)

all_in : (list : List (ℤ × ℤ)) → list_all is_in_range list ≡ true → All (IsInRange i64_range) list
all_in [] h = All-nil (IsInRange i64_range)
all_in (p ∷ list) h = let parts = and_parts _ _ h in All-cons (IsInRange i64_range) p list (in_range_from p parts.0) (all_in list parts.1)

all_from : (list : List (ℤ × ℤ)) → All (IsInRange i64_range) list → list_all is_in_range list ≡ true
all_from [] h = refl
all_from (p ∷ list) h = and_from _ _ (to_in_range p (All-head (IsInRange i64_range) p list h)) (all_from list (All-tail (IsInRange i64_range) p list h))

not_below : (r count : ℕ) → nat_lt r count ≡ false → r < count → ⊥
not_below r count h k = both_ways (nat_lt r count) h (grind (arith, nat_tests))

is_below : (r count : ℕ) → nat_lt r count ≡ true → r < count
is_below r count h = grind (arith, nat_tests)

-- the reason is one that the steps of the calculator have
refused_step : (old : List (List (ℤ × ℤ))) (unkept : Unkept) (list : List (ℤ × ℤ)) → unkept.in_range ≡ list_all is_in_range list
    → MayStep i64_range old (make unkept.register (pairs list)) (refused (why_unkept (length old) unkept)) old
refused_step old unkept list fits = elim (cases_Bool (nat_lt unkept.register (length old))) [
  | inl below ↦ (let named = All-cons (λ (r : ℕ). r < length old) unkept.register [] (is_below _ _ below) (All-nil (λ (r : ℕ). r < length old)) in
      elim (cases_Bool unkept.in_range) [
        | inl fit ↦ rw (below, fit) (inr (inr (record { lacking = refl; unchanged = refl; asks = refl; allowed = (named, all_in list (sym fits ∙ fit), (λ z h. absurd h)) })))
        | inr unfit ↦ rw (below, unfit) (inl (Range, refl, (named, (λ all. both_ways (list_all is_in_range list) (sym fits ∙ unfit) (all_from list all))), refl))
      ])
  | inr above ↦ rw above (inl (Register, refl, (λ all. not_below _ _ above (All-head (λ (r : ℕ). r < length old) unkept.register [] all)), refl))
]

pub unkept_answer : (old : List (List (ℤ × ℤ))) (unkept : Unkept) (reading : Reading) → IsUnkept unkept reading
    → AnswersReading old reading (with_newline (printed (refused (why_unkept (length old) unkept)))) old
unkept_answer old unkept reading (list, says, fits) = rw says (refused (why_unkept (length old) unkept), refused_step old unkept list fits, refl)

-- The text of a reply.
--     refusal_text why      the text of a refusal
use Rattle.std.specs.Prelude.{ℕ, ℤ, ◌≤ℤ◌, Bool, List, All, codes, decimal, if◌then◌else◌, Option, None, Some}
use Rattle.std.specs.Fmt.{signed_decimal}
use Rattle.ivl_lines.specs.Sets.{pairs_text}
use Rattle.ivl_calculator.specs.Actions.{Answer, done, cut, flag, sized, counted, value, runs, refused}
use Rattle.ivl_calculator.specs.declared.reply.Refusal.{Refusal}
use Rattle.ivl_calculator.specs.declared.reply.Refusal.TheVariants.{Register, Range, Fit, Memory}

abbrev pub refusal_text : Refusal → List ℕ
refusal_text Register = codes "refused 1 register"
refusal_text Range = codes "refused 2 range"
refusal_text Fit = codes "refused 3 fit"
refusal_text Memory = codes "refused 4 memory"

abbrev pub flag_text : Bool → List ℕ
flag_text b = if b then codes "yes" else codes "no"

abbrev pub cut_text : Bool → List ℕ
cut_text b = if b then codes "cut" else codes "ok"

abbrev pub value_text : Option ℤ → List ℕ
value_text None = codes "none"
value_text (Some z) = signed_decimal z

abbrev pub printed : Answer → List ℕ
printed done = codes "ok"
printed (cut b) = cut_text b
printed (flag b) = flag_text b
printed (sized n) = decimal n
printed (counted n) = decimal n
printed (value end) = value_text end
printed (runs list) = pairs_text list
printed (refused why) = refusal_text why

-- no run of the answer is crossed
abbrev pub HasRunsInOrder : Answer → Type 0
HasRunsInOrder (runs list) = All (λ p. p.0 ≤ℤ p.1) list
HasRunsInOrder _ = Unit {0}

use Rattle.std.proofs.Common.{◌≡◌, ℕ, ℤ, List, [], ◌∷◌, Option, inl, inr, refl, subst, sym, ap, ◌∙◌}
use Rattle.std.specs.Prelude.{IfErr, IfOk, IsUtf8, Some, option_map}
use Rattle.std.specs.Str.{is_utf8}
use Rattle.std.specs.Str.Lines.{strip_carriage_return}
use Rattle.std.proofs.lemmas.Bool.{cases_Bool}
use Rattle.std.proofs.lemmas.Str.{IsUtf8-from_is_utf8, is_utf8-from_IsUtf8}
use Rattle.ivl_calculator.specs.declared.command.Command.{Command}
use Rattle.ivl_calculator_lines.specs.Commands.{action_from}
use Rattle.ivl_lines.specs.Words.{words_between}
use Rattle.ivl_lines.specs.Lines.{words_of}
use Rattle.ivl_calculator_lines.specs.Reading.{Reading, bad, reading_from, reading_of_words, reading_of}
use Rattle.ivl_calculator_lines.specs.View.{action_over_i64, view_of}
use Rattle.ivl_calculator_lines.specs.Unkept.{IsUnkept}
use Rattle.ivl_calculator_lines.proofs.lines.read_line.Goals as goal

is_bad : (line : List ℕ) → (IsUtf8 line → ⊥) → bad ≡ reading_of line
is_bad line never = elim (cases_Bool (is_utf8 line)) [
  | inl holds ↦ absurd (never (IsUtf8-from_is_utf8 line holds))
  | inr fails ↦ rw fails refl
]

-- what the line says, by the words of its text
is_read : (line text : List ℕ) (words : List (List ℕ)) → IsUtf8 line → text ≡ strip_carriage_return line → words_between text ≡ words → reading_of_words words ≡ reading_of line
is_read line text words utf8 same parts =
    let all : words ≡ words_of line = sym parts ∙ ap (λ (t : List ℕ). words_between t) same in
    rw (all, is_utf8-from_IsUtf8 line utf8) refl

pub returns-in_default-clause-ok : goal.returns-in_default-clause-ok
returns-in_default-clause-ok c = is_bad c.args.line.now c.in_default.ensures.none

pub returns-in_default-next_word-clause-ok : goal.returns-in_default-next_word-clause-ok
returns-in_default-next_word-clause-ok c =
    is_read _ _ [] c.in-Some.ensures.utf8 c.in-Some.ensures.some c.in_default-next_word.ensures.none

pub returns-in-Some-command-clause-ok : goal.returns-in-Some-command-clause-ok
returns-in-Some-command-clause-ok c =
    let says : Some (action_over_i64 c.in-Some-command.command) ≡ action_from c.in-Some-next_word.name.now (words_between c.in-Some-next_word.words.now) =
    ap (λ (o : Option (Command ℤ)). option_map action_over_i64 o) (sym c.in-Some-command.is) ∙ c.in-Ok.ensures.ok in
    ap reading_from says
    ∙ is_read _ _ (c.in-Some-next_word.name.now ∷ words_between c.in-Some-next_word.words.now) c.in-Some.ensures.utf8 c.in-Some.ensures.some c.in-Some-next_word.ensures.some

pub returns-in_default-command_from-clause-ok : goal.returns-in_default-command_from-clause-ok
returns-in_default-command_from-clause-ok c =
    let same = ap reading_from (sym c.in_default-command_from.ensures.set)
    ∙ is_read _ _ (c.in-Some-next_word.name.now ∷ words_between c.in-Some-next_word.words.now) c.in-Some.ensures.utf8 c.in-Some.ensures.some c.in-Some-next_word.ensures.some in
    subst (λ (reading : Reading). IfOk c.read_unkept.result (λ read. view_of read ≡ reading)) same c.read_unkept.ensures.ok

pub returns-in_default-command_from-clause-unkept : goal.returns-in_default-command_from-clause-unkept
returns-in_default-command_from-clause-unkept c =
    let same = ap reading_from (sym c.in_default-command_from.ensures.set)
    ∙ is_read _ _ (c.in-Some-next_word.name.now ∷ words_between c.in-Some-next_word.words.now) c.in-Some.ensures.utf8 c.in-Some.ensures.some c.in-Some-next_word.ensures.some in
    subst (λ (reading : Reading). IfErr c.read_unkept.result (λ unkept. IsUnkept unkept reading)) same c.read_unkept.ensures.unkept

use Rattle.std.proofs.Common.{◌≡◌, ℕ, List, inl, inr, refl, subst}
use Rattle.std.specs.Prelude.{IsUtf8, codes}
use Rattle.std.specs.Str.{is_utf8}
use Rattle.std.specs.Str.Lines.{strip_carriage_return}
use Rattle.std.proofs.lemmas.Bool.{cases_Bool}
use Rattle.std.proofs.lemmas.Result.{on_ok_weaker}
use Rattle.std.proofs.lemmas.Str.{IsUtf8-from_is_utf8, is_utf8-from_IsUtf8}
use Rattle.ivl_lines.specs.Commands.{AnswersDecoded, AnswersSplit}
use Rattle.ivl_lines.specs.Lines.{with_newline}
use Rattle.ivl_lines.specs.Words.{words_between}
use Rattle.ivl_lines.proofs.commands.answer_line.Goals as goal

module _ {S : Type 0} (allowed : S → List ℕ → List (List ℕ) → List ℕ → S → Type 0) (old new : S) (line : List ℕ) where
  of_text : (text answer : List ℕ) → IsUtf8 line → text ≡ strip_carriage_return line → AnswersSplit allowed old (words_between text) answer new → AnswersDecoded allowed old line (is_utf8 line) answer new
  of_text text answer utf8 same h =
      rw (is_utf8-from_IsUtf8 line utf8) (subst (λ (t : List ℕ). AnswersSplit allowed old (words_between t) answer new) same h)

  no_utf8 : (IsUtf8 line → ⊥) → new ≡ old → AnswersDecoded allowed old line (is_utf8 line) (with_newline (codes "error: not UTF-8")) new
  no_utf8 never same = elim (cases_Bool (is_utf8 line)) [
    | inl holds ↦ absurd (never (IsUtf8-from_is_utf8 line holds))
    | inr fails ↦ rw fails (refl, same)
  ]

pub returns-in-Some : goal.returns-in-Some
returns-in-Some g c =
    on_ok_weaker c.answer_text.result
    (λ answered. (answered.0, of_text g.A.AnswersCommands.command_allowed c.args.answers.now c.answer_text.new.answers c.args.line.now c.in-Some.text.now answered.0 c.in-Some.ensures.utf8 c.in-Some.ensures.some answered.1, answered.2))
    c.answer_text.ensures

pub returns-in-None : goal.returns-in-None
returns-in-None g c =
    on_ok_weaker c.write_all.result
    (λ written. (with_newline (codes "error: not UTF-8"), no_utf8 g.A.AnswersCommands.command_allowed c.args.answers.now c.args.answers.now c.args.line.now c.in-None.ensures.none refl, written))
    c.write_all.ensures.bytes

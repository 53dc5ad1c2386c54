use Rattle.std.proofs.Common.{◌≡◌, ℤ, Bool, false, List, inr, refl, sym, ◌∙◌}
use Rattle.std.specs.Prelude.{◌↔◌, IsTrue, codes}
use Rattle.std.proofs.lemmas.Bool.{true≢false}
use Rattle.std.proofs.lemmas.Result.{on_ok_weaker}
use Rattle.ivl_laws.specs.Runs.{Covers}
use Rattle.ivl_laws.specs.Sets.{HasNone, Intersection, IsBetween}
use Rattle.ivl_lines.specs.Lines.{with_newline}
use Rattle.ivl_allocator.specs.Answers.{GivesRun}
use Rattle.ivl_allocator.proofs.answers.give_run.Goals as goal

some_are_free : (none : Bool) (run : ℤ × ℤ) (old : List (ℤ × ℤ)) → (IsTrue none ↔ HasNone (Intersection (Covers old) (IsBetween run))) → none ≡ false → GivesRun run old (with_newline (codes "some of them are free")) old
some_are_free none run old same fails = inr (λ empty. true≢false (sym (same.1 empty) ∙ fails), (refl, refl))

pub returns-then-not-are_taken-clause-answer : goal.returns-then-not-are_taken-clause-answer
returns-then-not-are_taken-clause-answer g c =
    on_ok_weaker c.write_all.result
    (λ written. (with_newline (codes "some of them are free"), some_are_free _ _ _ c.are_taken.ensures c.if-not-are_taken.true, written))
    c.write_all.ensures.bytes

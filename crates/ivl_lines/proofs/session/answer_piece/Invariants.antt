use Rattle.std.proofs.Common.{◌≡◌, ◌++◌, List, ℕ, length}
use Rattle.std.specs.Io.KnownBytes.{Appends}
use Rattle.ivl_lines.specs.Answered.{AnswersOrLoses}
use Rattle.ivl_lines.specs.Cut.{HasNoNewline, IsBegun, Progress}
use Rattle.ivl_lines.proofs.session.answer_piece.Given as goal

-- the piece is what has been answered or begun of it, and the rest
abbrev pub invariant-loop-bytes : goal.invariant-loop-bytes
invariant-loop-bytes g l =
    (front : List ℕ)
    × (l.piece ≡ front ++ l.rest)
    × ((line : List ℕ) → IsBegun line l.fn.begun → HasNoNewline line → (kept : List ℕ)
    × IsBegun kept l.begun
    × Progress (AnswersOrLoses g.A.Answers.lost g.A.Answers.allowed) (line ++ front) kept l.fn.answers l.answers
    (Appends (g.W.Write.contents l.fn.writer) (g.W.Write.contents l.writer)))

abbrev pub decreases-loop-bytes : goal.decreases-loop-bytes
decreases-loop-bytes g l = length l.rest

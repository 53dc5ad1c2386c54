use Rattle.std.proofs.Common.{◌≡◌, ℕ, List, length}
use Rattle.std.specs.Io.KnownBytes.{Appends, Consumes}
use Rattle.ivl_lines.specs.Answered.{AnswersOrLoses}
use Rattle.ivl_lines.specs.Cut.{IsBegun, Progress}
use Rattle.ivl_lines.proofs.session.serve.Given as goal

abbrev pub invariant-reads : goal.invariant-reads
invariant-reads g l =
    (length l.piece ≡ 65536)
    × ((front rest : List ℕ)
    × Consumes (g.R.Read.remaining l.initial.reader) (g.R.Read.remaining l.reader) front
    × IsBegun rest l.line
    × Progress (AnswersOrLoses g.A.Answers.lost g.A.Answers.allowed) front rest l.initial.answers l.answers
    (Appends (g.W.Write.contents l.initial.writer) (g.W.Write.contents l.writer)))

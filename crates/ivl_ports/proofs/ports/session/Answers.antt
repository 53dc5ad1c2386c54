use Rattle.std.proofs.lemmas.Result.{on_ok_weaker}
use Rattle.ivl_lines.specs.Answered.{AnswersOrLoses}
use Rattle.ivl_lines.specs.Commands.{no_memory}
use Rattle.ivl_lines.proofs.Sessions.{from_start, read_from_start}
use Rattle.ivl_ports.specs.Answering.{AnswersLine}
use Rattle.ivl_ports.proofs.ports.session.Goals as goal

pub returns-clause-ok : goal.returns-clause-ok
returns-clause-ok g c = on_ok_weaker c.serve.result (λ h. from_start (AnswersOrLoses no_memory AnswersLine) c.in_ok-free.free _ c.serve.new.answers c.in_ok-free.ensures _ _ _ h) c.serve.ensures.ok

pub returns-clause-read : goal.returns-clause-read
returns-clause-read g c = λ failed. read_from_start (AnswersOrLoses no_memory AnswersLine) c.in_ok-free.free _ c.serve.new.answers c.in_ok-free.ensures _ _ _ _ (c.serve.ensures.read failed)

use Rattle.std.proofs.lemmas.Result.{on_ok_weaker}
use Rattle.ivl_lines.specs.Answered.{AnswersOrLoses}
use Rattle.ivl_lines.specs.Commands.{no_memory}
use Rattle.ivl_lines.proofs.Sessions.{from_start}
use Rattle.ivl_store_lines.specs.Answering.{AnswersLine}
use Rattle.ivl_store_lines.proofs.engine.session.Goals as goal

pub returns-clause-ok : goal.returns-clause-ok
returns-clause-ok g c = on_ok_weaker c.serve.result (λ h. from_start (AnswersOrLoses no_memory AnswersLine) c.new.result _ c.serve.new.answers c.new.ensures _ _ _ h) c.serve.ensures.ok

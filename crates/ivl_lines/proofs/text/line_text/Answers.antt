use Rattle.std.proofs.Common.{subst, sym}
use Rattle.std.specs.Prelude.{IsUtf8}
use Rattle.ivl_lines.proofs.Returns.{utf8_with_return, utf8_without_return}
use Rattle.ivl_lines.proofs.text.line_text.Goals as goal

pub returns-in-Ok-clause-utf8 : goal.returns-in-Ok-clause-utf8
returns-in-Ok-clause-utf8 c = utf8_with_return c.args.line.now (subst IsUtf8 c.without_return.ensures c.in-Ok.ensures.cases.1)

pub returns-in-Err-clause-none : goal.returns-in-Err-clause-none
returns-in-Err-clause-none c = λ h. c.in-Err.ensures.cases.0 (subst IsUtf8 (sym c.without_return.ensures) (utf8_without_return c.args.line.now h))

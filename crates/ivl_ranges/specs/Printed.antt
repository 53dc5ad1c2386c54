-- The text of an answer.
--     fault_text fault      why a line is not carried out
--     reply_line told      the answer to a line that is carried out, or why it is not
use Rattle.std.specs.Prelude.{ℕ, List, [], ◌∷◌, ◌++◌, codes, Result, Ok, Err}
use Rattle.ivl_lines.specs.Lines.{with_newline}
use Rattle.ivl_lines.specs.Sets.{pairs_text}
use Rattle.ivl_ranges.specs.declared.reply.Fault.{Fault}
use Rattle.ivl_ranges.specs.declared.reply.Fault.TheVariants.{Command, Ranges, Length, Check, NoIndex, NoOffset, Memory}
use Rattle.ivl_ranges.specs.declared.reply.Reply.{Reply}
use Rattle.ivl_ranges.specs.declared.reply.Reply.TheVariants.{Done, Safe, SafeFor}

abbrev pub fault_text : Fault → List ℕ
fault_text Command = codes "unknown command"
fault_text Ranges = codes "write ranges such as -1..1 5..5, with the lower end first"
fault_text Length = codes "write length NUMBER, from 0 to 4294967295"
fault_text Check = codes "write check"
fault_text NoIndex = codes "i has no range"
fault_text NoOffset = codes "k has no range"
fault_text Memory = codes "out of memory"

abbrev pub reply_line : Result Reply Fault → List ℕ
reply_line (Ok Done) = with_newline (codes "ok")
reply_line (Ok Safe) = with_newline (codes "safe")
reply_line (Ok (SafeFor [])) = with_newline (codes "safe for no i")
reply_line (Ok (SafeFor (run ∷ runs))) = codes "safe for i in " ++ (pairs_text (run ∷ runs) ++ with_newline (codes " alone"))
reply_line (Err fault) = codes "error: " ++ with_newline (fault_text fault)

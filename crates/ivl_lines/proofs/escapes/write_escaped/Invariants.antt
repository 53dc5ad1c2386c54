use Rattle.std.proofs.Common.{flat_map}
use Rattle.std.specs.Fmt.{HasWritten, IsPlainFormatter}
use Rattle.std.specs.Str.{encode_utf8_all}
use Rattle.ivl_lines.specs.Escapes.{shown_char}
use Rattle.ivl_lines.proofs.escapes.write_escaped.Given as goal

-- the characters so far are written
abbrev pub invariant-loop-character : goal.invariant-loop-character
invariant-loop-character g l = IsPlainFormatter l.fn.f → HasWritten g.W.Write.write_str_gives l.fn.f (encode_utf8_all (flat_map shown_char l.yielded)) l.f

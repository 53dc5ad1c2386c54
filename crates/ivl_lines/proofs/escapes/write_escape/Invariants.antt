use Rattle.std.proofs.Common.{◌≡◌, ◌++◌, ◌≤◌}
use Rattle.std.specs.Char.Escape.{escape_default}
use Rattle.std.specs.Char.Iter.{escape_end, escape_rest}
use Rattle.std.specs.Fmt.{HasWritten, IsPlainFormatter}
use Rattle.std.specs.Str.{encode_utf8_all}
use Rattle.ivl_lines.proofs.escapes.write_escape.Given as goal

-- the characters so far are written, and the others are still to come
abbrev pub invariant-loop-part : goal.invariant-loop-part
invariant-loop-part g l = record {
  written : IsPlainFormatter l.fn.f → HasWritten g.W.Write.write_str_gives l.fn.f (encode_utf8_all l.yielded) l.f;
  rest : l.yielded ++ escape_rest l.part-iterator ≡ escape_default l.fn.character;
  bound : escape_end l.part-iterator ≤ 10;
}

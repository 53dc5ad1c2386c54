use Rattle.std.proofs.Common.{◌≡◌, ◌++◌, ℕ, List, [], length, map}
use Rattle.std.specs.Prelude.{string_bytes}
use denote.Text.{Utf8}
use denote.Shadow.{shadow}
use Rattle.std.specs.Io.KnownBytes.{Appends}
use Rattle.ivl_store_lines.specs.Solved.{entries}
use Rattle.ivl_store_lines.proofs.replies.points.write_point.Given as goal

-- what is written, and the entries of the variables that are left, are all entries
abbrev pub invariant-loop-name : goal.invariant-loop-name
invariant-loop-name g l =
    shadow (Utf8 l.separator) × ((text : List ℕ)
    × Appends (g.W.Write.contents l.fn.writer) (g.W.Write.contents l.writer) text
    × (text ++ entries l.separator (map string_bytes l.names) l.numbers ≡ entries [] (map string_bytes l.fn.names) l.fn.numbers))

abbrev pub decreases-loop-name : goal.decreases-loop-name
decreases-loop-name g l = length l.names

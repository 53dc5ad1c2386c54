use Rattle.std.proofs.Common.{◌≡◌, ◌++◌, ℕ, List, length, map}
use Rattle.std.specs.Prelude.{string_bytes}
use Rattle.std.specs.Io.KnownBytes.{Appends}
use Rattle.ivl_store_lines.specs.Printed.{domain_lines}
use Rattle.ivl_store_lines.proofs.replies.write_domains.Given as goal

-- what is written, and the lines of the variables that are left, are all lines
abbrev pub invariant-loop-name : goal.invariant-loop-name
invariant-loop-name g l =
    (text : List ℕ)
    × Appends (g.W.Write.contents l.fn.writer) (g.W.Write.contents l.writer) text
    × (text ++ domain_lines (map string_bytes l.names) l.domains ≡ domain_lines (map string_bytes l.fn.names) l.fn.domains)

abbrev pub decreases-loop-name : goal.decreases-loop-name
decreases-loop-name g l = length l.names

use Rattle.std.proofs.Common.{map, take}
use Rattle.std.specs.Prelude.{string_bytes}
use Rattle.std.specs.Io.KnownBytes.{Appends}
use Rattle.ivl_store_lines.specs.Solved.{point_lines}
use Rattle.ivl_store_lines.proofs.replies.points.write_points.Given as goal

-- the lines of the points so far are written
abbrev pub invariant-loop-point : goal.invariant-loop-point
invariant-loop-point g l =
    Appends (g.W.Write.contents l.fn.writer) (g.W.Write.contents l.writer) (point_lines (map string_bytes l.names) (map (λ point. point.items) (take l.point-index l.points)))

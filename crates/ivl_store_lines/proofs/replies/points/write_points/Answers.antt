use Rattle.std.proofs.Common.{ℕ, List, map, sym, subst}
use Rattle.std.specs.Prelude.{string_bytes}
use Rattle.std.specs.Io.KnownBytes.{Appends}
use Rattle.std.proofs.KnownBytes.{Appends-trans}
use Rattle.ivl_store_lines.proofs.Points.{lines_so_far}
use Rattle.ivl_store_lines.proofs.replies.points.write_points.Goals as goal

pub loop-point-preserved : goal.loop-point-preserved
loop-point-preserved g c =
    let names = map string_bytes c.args.names.now in
    let old = g.W.Write.contents c.args.writer.now in
    let new = g.W.Write.contents c.write_point.new.writer in
    subst (λ (text : List ℕ). Appends old new text)
    (sym (lines_so_far (λ point. point.items) names c.args.points.now c.loop-point.point-index c.point-item.result c.loop-point-test.true c.point-item.is))
    (Appends-trans _ _ _ _ _ c.loop-point.invariant (rw (← c.deref.ensures.value) c.in_ok-write_point.ensures))

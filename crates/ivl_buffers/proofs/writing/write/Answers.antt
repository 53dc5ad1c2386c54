use Rattle.std.proofs.Common.{◌≤◌, List, ℤ, length, length-set, sym, subst, ◌∙◌}
use Rattle.ivl_buffers.proofs.Buffers.{filled_at, wrote}
use Rattle.ivl_buffers.proofs.writing.write.Goals as goal

pub lower-requires : goal.lower-requires
lower-requires g c = filled_at c.runs-runs.result.now c.loop-i.i c.index-runs-i.result c.loop-i.invariant.1 c.loop-i-test.true c.index-runs-i.is

pub loop-i-preserved : goal.loop-i-preserved
loop-i-preserved g c =
    let inv = c.loop-i.invariant in
    let P : List (ℤ × ℤ) → Type 0 = λ L. length L ≤ length c.args.out.now in (
      inv.0,
      inv.1,
      length-set c.loop-i.out c.loop-i.i c.of.result ∙ inv.2,
      wrote g.R.Pair.pair c.loop-i.out c.args.out.now c.runs-runs.result.now c.loop-i.i c.index-runs-i.result c.of.result _ _ c.loop-i-test.true (subst P (sym inv.0) c.requires)
          c.index-runs-i.is c.of.ensures c.lower.ensures.value c.upper.ensures.value inv.3,
    )

pub of-requires : goal.of-requires
of-requires g c = ((c.in_whole.ensures _ c.lower.ensures.member).0, (c.in_whole.ensures _ c.upper.ensures.member).1)

use Rattle.std.proofs.Common.{arith}
use Rattle.std.proofs.lemmas.Int.{ints}
use Rattle.ivl_laws.specs.Runs.{Covers}
use Rattle.ivl_ranges.proofs.Windows.{safe_by_hull}
use Rattle.ivl_ranges.proofs.access.is_safe.Goals as goal

pub returns : goal.returns
returns c =
    let ends = safe_by_hull (Covers c.args.index.now) (Covers c.args.offset.now) c.args.length c.window.result c.hull.result c.hull.ensures (λ x s. c.window.ensures x (let b = c.in_whole.ensures.within x s in omega (arith, ints, b.1))) in
    ((λ yes. ends.0 (c.is_subset.ensures.0 yes)), (λ all. c.is_subset.ensures.1 (ends.1 all)))

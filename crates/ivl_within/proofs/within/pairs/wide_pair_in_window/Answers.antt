use Rattle.ivl_within.proofs.Clipping.{sum_is, difference_is, wide_sum, wide_difference}
use Rattle.ivl_within.proofs.within.pairs.wide_pair_in_window.Goals as goal

pub returns-in-Sum : goal.returns-in-Sum
returns-in-Sum g c =
    let bounds = g.met.B.Width.range in
    rw c.in-Sum.is (sum_is c.args.window c.args.a c.args.b c.clip.result _ _
    (wide_sum g.B.Width.whole bounds _ _ _ _ _ _ c.number.ensures c.lower-in-Sum.ensures.value c.lower-in-Sum.ensures.in_range c.number-lower.ensures c.lower.ensures.value c.lower.ensures.in_range)
    (wide_sum g.B.Width.whole bounds _ _ _ _ _ _ c.number-in-Sum.ensures c.upper-in-Sum.ensures.value c.upper-in-Sum.ensures.in_range c.number-upper.ensures c.upper.ensures.value c.upper.ensures.in_range)
    c.clip.ensures)

pub returns-in-Difference : goal.returns-in-Difference
returns-in-Difference g c =
    let bounds = g.met.B.Width.range in
    rw c.in-Difference.is (difference_is c.args.window c.args.a c.args.b c.clip-in-Difference.result _ _
    (wide_difference g.B.Width.whole bounds _ _ _ _ _ _ c.number-in-Difference.ensures c.lower-in-Difference.ensures.value c.lower-in-Difference.ensures.in_range c.number-upper.ensures c.upper.ensures.value c.upper.ensures.in_range)
    (wide_difference g.B.Width.whole bounds _ _ _ _ _ _ c.number-in-Difference-2.ensures c.upper-in-Difference.ensures.value c.upper-in-Difference.ensures.in_range c.number-lower.ensures c.lower.ensures.value c.lower.ensures.in_range)
    c.clip-in-Difference.ensures)

use Rattle.std.proofs.Common.{ℤ, subst}
use Rattle.ivl_laws.specs.Sets.{IsBetween, SameMembers}
use Rattle.ivl_laws.specs.Arithmetic.{interval_difference, interval_sum}
use Rattle.ivl_within.specs.Within.{Clipped}
use Rattle.ivl_within.proofs.within.rows.reach_back.Goals as goal

pub returns-in-Sum : goal.returns-in-Sum
returns-in-Sum g c =
    let P : ℤ × ℤ → Type 0 = λ whole. SameMembers (IsBetween c.pair_in_window.result) (Clipped whole (IsBetween (interval_difference c.args.window c.args.run))) in
    rw c.in-Sum.is (subst P c.whole.ensures.value c.pair_in_window.ensures)

pub returns-in-Difference : goal.returns-in-Difference
returns-in-Difference g c =
    let P : ℤ × ℤ → Type 0 = λ whole. SameMembers (IsBetween c.pair_in_window-in-Difference.result) (Clipped whole (IsBetween (interval_sum c.args.window c.args.run))) in
    rw c.in-Difference.is (subst P c.whole-in-Difference.ensures.value c.pair_in_window-in-Difference.ensures)

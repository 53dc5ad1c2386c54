use Rattle.std.proofs.Common.{◌∙◌, ℤ, ap}
use Rattle.std.specs.Int.{int_min}
use Rattle.ivl_laws.proofs.Orders.{min_number}
use Rattle.ivl_within.proofs.within.fronts.next_of.Goals as goal

pub returns-clause-at_place : goal.returns-clause-at_place
returns-clause-at_place g c = λ _.
    min_number g.met.B.Width.ordered _ _ _ c.min.ensures ∙ ap (int_min (g.B.Width.value c.args.next)) (c.lower_bound.ensures ∙ ap (λ (r : ℤ × ℤ). r.0) c.result_at.ensures)

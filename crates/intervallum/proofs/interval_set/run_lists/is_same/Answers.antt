use Rattle.std.proofs.Common.{◌∙◌, ℤ, ap, sym}
use Rattle.std.proofs.lemmas.Bool.{and_parts, and_from}
use Rattle.ivl_laws.proofs.Orders.{eq_number}
use Rattle.ivl_laws.proofs.Runs.{pair_same}
use Rattle.intervallum.proofs.interval_set.run_lists.is_same.Goals as goal

pub returns : goal.returns
returns g c =
    let low = eq_number g.met.B.Width.ordered _ _ _ c.eq-lower_is_same.ensures in
    let high = eq_number g.met.B.Width.ordered _ _ _ c.eq-upper_is_same.ensures in (
      λ t. let both = and_parts _ _ t in
          pair_same c.args.run c.args.other (sym c.lower.ensures.value ∙ low.0 both.0 ∙ c.lower-2.ensures.value) (sym c.upper.ensures.value ∙ high.0 both.1 ∙ c.upper-2.ensures.value),
      λ e. and_from _ _ (low.1 (c.lower.ensures.value ∙ ap (λ (p : ℤ × ℤ). p.0) e ∙ sym c.lower-2.ensures.value))
          (high.1 (c.upper.ensures.value ∙ ap (λ (p : ℤ × ℤ). p.1) e ∙ sym c.upper-2.ensures.value)),
    )

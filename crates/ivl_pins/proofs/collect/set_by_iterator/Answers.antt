use Rattle.std.proofs.Common.{◌∙◌, ℤ, List, length, sym, ap, subst}
use Rattle.std.proofs.lemmas.Result.{IfOk-weaker}
use Rattle.ivl_laws.specs.Runs.{Covers, IsRunsOf}
use Rattle.ivl_pins.proofs.Items.{drained_items}
use Rattle.ivl_pins.proofs.collect.set_by_iterator.Goals as goal

pub returns : goal.returns
returns g c =
    let rest = c.into_iter.ensures.rest in
    IfOk-weaker c.collect.result _ _ (λ L (items, drained, runs).
    subst (λ (M : List (ℤ × ℤ)). IsRunsOf L (Covers M))
    (sym (drained_items items c.into_iter.result (c.into_iter.ensures.len ∙ c.args.list.ok.0 ∙ ap length (sym rest)) drained) ∙ rest)
    runs) c.collect.ensures

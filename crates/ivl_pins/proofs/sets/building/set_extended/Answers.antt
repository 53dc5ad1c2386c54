use Rattle.std.proofs.Common.{◌∙◌, ℤ, List, length, sym, ap, subst}
use Rattle.std.proofs.lemmas.Result.{on_ok_weaker}
use Rattle.ivl_laws.specs.Sets.{Union}
use Rattle.ivl_laws.specs.Runs.{Covers, IsRunsOf}
use Rattle.ivl_pins.proofs.Items.{drained_items}
use Rattle.ivl_pins.proofs.sets.building.set_extended.Goals as goal

pub returns-clause-ok : goal.returns-clause-ok
returns-clause-ok g c =
    let old : List (ℤ × ℤ) = c.args.set.now in
    let rest = c.into_iter.ensures.rest in
    on_ok_weaker c.extend.result (λ (items, drained, runs).
    subst (λ (M : List (ℤ × ℤ)). IsRunsOf c.extend.new.self (Union (Covers old) (Covers M)))
    (sym (drained_items items c.into_iter.result (c.into_iter.ensures.len ∙ c.args.list.ok.0 ∙ ap length (sym rest)) drained) ∙ rest)
    runs) c.extend.ensures.ok

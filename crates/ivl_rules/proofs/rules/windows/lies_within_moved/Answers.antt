use Rattle.std.proofs.Common.{◌∙◌, inl, inr, refl, sym, subst}
use Rattle.std.proofs.lemmas.Int.{to_z-of_z}
use Rattle.std.proofs.lemmas.List.{take_all}
use Rattle.std.specs.Prelude.{◌-ℤ◌}
use Rattle.ivl_laws.specs.Runs.{Covers}
use Rattle.ivl_store.proofs.Lists.{covers_next, item_in_range}
use Rattle.ivl_rules.proofs.rules.windows.lies_within_moved.Goals as goal

pub has_moved_run-requires-clause-in_range : goal.has_moved_run-requires-clause-in_range
has_moved_run-requires-clause-in_range g c =
    (item_in_range g.B.Width.whole c.as_slice-runs.result.now c.args.x.now c.loop-run.run-index c.run-item.result (c.as_slice-runs.ensures.value ∙ c.iter.ensures.rest) c.iter.ensures.runs
    c.loop-run-test.true c.run-item.is).0

pub has_moved_run-requires-clause-in_order : goal.has_moved_run-requires-clause-in_order
has_moved_run-requires-clause-in_order g c =
    (item_in_range g.B.Width.whole c.as_slice-runs.result.now c.args.x.now c.loop-run.run-index c.run-item.result (c.as_slice-runs.ensures.value ∙ c.iter.ensures.rest) c.iter.ensures.runs
    c.loop-run-test.true c.run-item.is).1

pub loop-run-preserved : goal.loop-run-preserved
loop-run-preserved g c = λ z h.
    elim ((covers_next c.as_slice-runs.result.now c.loop-run.run-index c.run-item.result c.loop-run-test.true c.run-item.is z).0 h) [
      | inl k ↦ c.loop-run.invariant z k
      | inr b ↦ c.if-not-has_moved_run.ensures refl z b
    ]

pub returns : goal.returns
returns g c = λ _ z h.
    let runs = c.as_slice-runs.result.now in
    subst (λ by. Covers c.args.y.now (z -ℤ by)) (to_z-of_z _ c.args.by c.ranges.by)
    (c.loop-run.invariant z (subst (λ L. Covers L z) (sym (take_all c.loop-run.run-index runs c.loop-run-test.false ∙ c.as_slice-runs.ensures.value ∙ c.iter.ensures.rest)) h))

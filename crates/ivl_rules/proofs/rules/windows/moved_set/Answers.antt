use Rattle.std.proofs.Common.{◌↔◌, ◌∙◌, sym}
use Rattle.std.proofs.lemmas.Int.{to_z-of_z}
use Rattle.std.proofs.lemmas.List.{take_all}
use Rattle.std.proofs.lemmas.Result.{IfOk-weaker}
use Rattle.std.specs.Prelude.{ℤ, ◌-ℤ◌}
use Rattle.ivl_laws.specs.Runs.{Covers}
use Rattle.ivl_laws.specs.Sets.{IsBetween}
use Rattle.ivl_store.proofs.Lists.{item_in_range}
use Rattle.ivl_rules.proofs.Moved.{moved_more}
use Rattle.ivl_rules.proofs.rules.windows.moved_set.Goals as goal

pub moved_run-requires-clause-in_range : goal.moved_run-requires-clause-in_range
moved_run-requires-clause-in_range g c =
    (item_in_range g.B.Width.whole c.as_slice-runs.result.now c.args.y.now c.loop-run.run-index c.run-item.result (c.as_slice-runs.ensures.value ∙ c.iter.ensures.rest) c.iter.ensures.runs
    c.loop-run-test.true c.run-item.is).0

pub moved_run-requires-clause-in_order : goal.moved_run-requires-clause-in_order
moved_run-requires-clause-in_order g c =
    (item_in_range g.B.Width.whole c.as_slice-runs.result.now c.args.y.now c.loop-run.run-index c.run-item.result (c.as_slice-runs.ensures.value ∙ c.iter.ensures.rest) c.iter.ensures.runs
    c.loop-run-test.true c.run-item.is).1

pub loop-run-preserved : goal.loop-run-preserved
loop-run-preserved g c =
    moved_more g.B.Width.whole c.as_slice-runs.result.now c.loop-run.moved.items c.push.new.self.items c.loop-run.run-index c.run-item.result c.moved_run.result _
    c.loop-run-test.true c.run-item.is c.in_ok-push.ensures.items c.moved_run.ensures c.loop-run.invariant

pub returns : goal.returns
returns g c =
    let runs = c.as_slice-runs.result.now in
    let all = take_all c.loop-run.run-index runs c.loop-run-test.false ∙ c.as_slice-runs.ensures.value ∙ c.iter.ensures.rest in
    let is : (z : ℤ) → Covers c.loop-run.moved.items z ↔ (IsBetween g.B.Width.whole z × Covers c.args.y.now (z -ℤ c.args.by)) =
    rw (sym all, sym (to_z-of_z _ c.args.by c.ranges.by)) c.loop-run.invariant in
    IfOk-weaker c.coalesce.result _ _
    (λ L h. record { maximal = h.maximal; members = (λ z. ((λ m. (is z).0 ((h.members z).0 m)), (λ m. (h.members z).1 ((is z).1 m)))) }) c.coalesce.ensures

use Rattle.std.proofs.Common.{ℤ, ◌≤ℤ◌, List, sym, subst, ◌∙◌}
use Rattle.ivl_laws.proofs.Places.{open_at}
use Rattle.ivl_places.specs.Places.{CoversFrom}
use Rattle.ivl_places.proofs.Finding.{found_for_next, one_run_not_included}
use Rattle.intervallum.proofs.interval_set.inclusion.few_are_within.Goals as goal

pub holder-requires-clause-filled : goal.holder-requires-clause-filled
holder-requires-clause-filled g c =
    let P : ℤ × ℤ → Type 0 = λ r. r.0 ≤ℤ r.1 in
    subst P (sym c.run-item.is) (open_at c.as_runs-run-items.result.now c.loop-run.run-index c.run-item.result c.loop-run.invariant.2 c.loop-run-test.true)

pub returns-in-None : goal.returns-in-None
returns-in-None g c =
    one_run_not_included c.as_runs-run-items.result.now c.args.few.now c.loop-run.runs.runs c.args.many.now c.loop-run.run-index c.run-item.result
    c.loop-run.invariant.1 c.loop-run.invariant.0 c.loop-run-test.true c.run-item.is c.in-None.ensures.held

pub loop-run-preserved : goal.loop-run-preserved
loop-run-preserved g c =
    let inv = c.loop-run.invariant in
    let P : List (ℤ × ℤ) → Type 0 = λ R. CoversFrom c.in-Some.place c.run-item.result R in (
      c.holder.ensures.same ∙ inv.0,
      inv.1,
      inv.2,
      found_for_next c.as_runs-run-items.result.now c.args.many.now c.loop-run.run-index c.loop-run.from c.in-Some.place c.run-item.result inv.2 c.loop-run-test.true c.run-item.is
          (subst P inv.0 c.in-Some.ensures.held) inv.3,
    )

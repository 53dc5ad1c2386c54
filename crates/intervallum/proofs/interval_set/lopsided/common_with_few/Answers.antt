use Rattle.std.proofs.Common.{ℤ, ◌+◌, ◌*◌, ◌≤◌, ◌≤ℤ◌, List, length, sym, subst, arith}
use Rattle.ivl_laws.specs.Sets.{Intersection}
use Rattle.ivl_laws.specs.Runs.{Covers, IsRunsOf}
use Rattle.ivl_laws.proofs.Lengths.{length_of_intersection}
use Rattle.ivl_laws.proofs.Places.{open_at}
use Rattle.ivl_places.proofs.Lopsided.{all_looks, more_looks, shared_by_all, shared_by_next, shared_by_none, written_below}
use Rattle.intervallum.proofs.interval_set.lopsided.common_with_few.Goals as goal

pub push_shared-requires-clause-filled : goal.push_shared-requires-clause-filled
push_shared-requires-clause-filled g c =
    let P : ℤ × ℤ → Type 0 = λ r. r.0 ≤ℤ r.1 in
    subst P (sym c.run-item.is) (open_at c.as_runs-run-items.result.now c.loop-run.run-index c.run-item.result c.loop-run.invariant.2 c.loop-run-test.true)

pub push_shared-requires-clause-apart : goal.push_shared-requires-clause-apart
push_shared-requires-clause-apart g c =
    written_below c.as_runs-run-items.result.now c.args.many.now c.loop-run.set c.loop-run.run-index c.loop-run.from c.run-item.result
    c.loop-run.invariant.2 c.loop-run-test.true c.run-item.is c.loop-run.invariant.3

pub returns-in_err-from-clause-looks : goal.returns-in_err-from-clause-looks
returns-in_err-from-clause-looks g c = λ digits h.
    let inv = c.loop-run.invariant in
    let k = c.loop-run.run-index in
    let most : k + 1 ≤ length c.args.few.now = subst (λ (N : List (ℤ × ℤ)). k + 1 ≤ length N) inv.1 (let less = c.loop-run-test.true in omega (arith, less)) in
    all_looks (k + 1) (length c.args.few.now) (4 * digits) c.args.probes.now.looks c.push_shared.new.probes.looks most
    (more_looks k (4 * digits) c.args.probes.now.looks c.loop-run.probes.looks c.push_shared.new.probes.looks (inv.4 digits h) (c.push_shared.ensures.looks digits h))

pub loop-run-preserved : goal.loop-run-preserved
loop-run-preserved g c =
    let inv = c.loop-run.invariant in
    let k = c.loop-run.run-index in
    let d = c.run-item.result in
    let from = c.in_ok-from.from in
    let added = c.push_shared.new.set in (
      c.push_shared.ensures.same,
      inv.1,
      inv.2,
      shared_by_next c.as_runs-run-items.result.now c.args.many.now c.loop-run.set added k c.loop-run.from from d inv.2 c.loop-run-test.true c.run-item.is inv.3
          c.in_ok-from.ensures.members c.in_ok-from.ensures.at_most c.in_ok-from.ensures.below,
      λ digits h. more_looks k (4 * digits) c.args.probes.now.looks c.loop-run.probes.looks c.push_shared.new.probes.looks (inv.4 digits h)
          (c.in_ok-from.ensures.looks digits h),
    )

pub returns-clause-runs_at_most : goal.returns-clause-runs_at_most
returns-clause-runs_at_most g c =
    let inv = c.loop-run.invariant in
    let M = c.args.many.now in
    rw c.fitted.ensures (length_of_intersection c.args.few.now M c.loop-run.set
    (subst (λ (N : List (ℤ × ℤ)). IsRunsOf c.loop-run.set (Intersection (Covers N) (Covers M))) inv.1
    (shared_by_all c.as_runs-run-items.result.now M c.loop-run.set c.loop-run.run-index c.loop-run.from c.loop-run-test.false inv.3)))

pub loop-run-init : goal.loop-run-init
loop-run-init g c = (
  c.requires.same,
  c.as_runs-run-items.ensures.same,
  rw c.as_runs-run-items.ensures.same c.as_runs-run-items.ensures.runs.maximal,
  rw c.in_ok-set.ensures (shared_by_none c.as_runs-run-items.result.now c.args.many.now),
  λ digits h. omega arith,
)

pub push_shared-requires-clause-at_most : goal.push_shared-requires-clause-at_most
push_shared-requires-clause-at_most g c = c.loop-run.invariant.3.at_most

pub push_shared-requires-clause-below : goal.push_shared-requires-clause-below
push_shared-requires-clause-below g c = c.loop-run.invariant.3.below c.run-item.result c.loop-run-test.true c.run-item.is

pub push_shared-requires-clause-same : goal.push_shared-requires-clause-same
push_shared-requires-clause-same g c = c.loop-run.invariant.0

pub returns-clause-members : goal.returns-clause-members
returns-clause-members g c =
    let inv = c.loop-run.invariant in
    let M = c.args.many.now in
    rw c.fitted.ensures (subst (λ (N : List (ℤ × ℤ)). IsRunsOf c.loop-run.set (Intersection (Covers N) (Covers M))) inv.1
    (shared_by_all c.as_runs-run-items.result.now M c.loop-run.set c.loop-run.run-index c.loop-run.from c.loop-run-test.false inv.3))

pub returns-clause-looks : goal.returns-clause-looks
returns-clause-looks g c = λ digits h.
    let inv = c.loop-run.invariant in
    let k = c.loop-run.run-index in
    let most : k ≤ length c.args.few.now = subst (λ (N : List (ℤ × ℤ)). k ≤ length N) inv.1 (omega arith) in
    all_looks k (length c.args.few.now) (4 * digits) c.args.probes.now.looks c.loop-run.probes.looks most (inv.4 digits h)

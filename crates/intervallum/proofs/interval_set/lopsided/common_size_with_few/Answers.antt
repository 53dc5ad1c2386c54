use Rattle.std.proofs.Common.{ℕ, ℤ, ◌+◌, ◌*◌, ◌≤◌, ◌≤ℤ◌, List, length, take, sym, subst, arith}
use Rattle.ivl_laws.specs.Counts.{IsCountOf}
use Rattle.ivl_laws.specs.Sets.{Intersection}
use Rattle.ivl_laws.specs.Runs.{Covers}
use Rattle.ivl_laws.proofs.Places.{open_at}
use Rattle.ivl_places.proofs.Lopsided.{all_looks, more_looks, counted_by_next, counted_by_none, counted_more}
use Rattle.ivl_places.proofs.PartCounts.{parts_all, parts_fit}
use Rattle.intervallum.proofs.interval_set.lopsided.common_size_with_few.Goals as goal

pub loop-run-init : goal.loop-run-init
loop-run-init g c = (
  c.requires.same,
  c.as_runs-run-items.ensures.same,
  rw c.as_runs-run-items.ensures.same c.as_runs-run-items.ensures.runs,
  counted_by_none c.as_runs-run-items.result.now c.args.many.now _ c.zero-size.ensures,
  λ digits h. omega arith,
)

pub shared_runs-start-requires-clause-filled : goal.shared_runs-start-requires-clause-filled
shared_runs-start-requires-clause-filled g c =
    let P : ℤ × ℤ → Type 0 = λ r. r.0 ≤ℤ r.1 in
    subst P (sym c.run-item.is) (open_at c.as_runs-run-items.result.now c.loop-run.run-index c.run-item.result c.loop-run.invariant.2.maximal c.loop-run-test.true)

pub shared_runs-start-requires-clause-same : goal.shared_runs-start-requires-clause-same
shared_runs-start-requires-clause-same g c = c.loop-run.invariant.0

pub shared_runs-start-requires-clause-at_most : goal.shared_runs-start-requires-clause-at_most
shared_runs-start-requires-clause-at_most g c = c.loop-run.invariant.3.at_most

pub shared_runs-start-requires-clause-below : goal.shared_runs-start-requires-clause-below
shared_runs-start-requires-clause-below g c = c.loop-run.invariant.3.below c.run-item.result c.loop-run-test.true c.run-item.is

pub grown-size-requires : goal.grown-size-requires
grown-size-requires g c =
    let inv = c.loop-run.invariant in
    let L = c.as_runs-run-items.result.now in
    let M = c.args.many.now in
    let k = c.loop-run.run-index in
    parts_fit g.B.Width.whole L (k + 1) (Covers M) _ _ inv.2 g.met.B.Width.countable
    (counted_more L M c.shared_runs-start.result.1.now _ _ k c.loop-run.from c.run-item.result inv.2.maximal c.loop-run-test.true c.run-item.is inv.3
    c.shared_runs-start.ensures.members c.size_of_part.ensures)

pub loop-run-preserved : goal.loop-run-preserved
loop-run-preserved g c =
    let inv = c.loop-run.invariant in
    let L = c.as_runs-run-items.result.now in
    let M = c.args.many.now in
    let k = c.loop-run.run-index in
    let d = c.run-item.result in
    let met = c.shared_runs-start.ensures in (
      met.same,
      inv.1,
      inv.2,
      counted_by_next L M (g.B.Output.SizeNumber.size c.grown-size.result) k c.shared_runs-start.result.0 d inv.2.maximal c.loop-run-test.true c.run-item.is
          (subst (λ (n : ℕ). IsCountOf n (Intersection (Covers (take (k + 1) L)) (Covers M))) (sym c.grown-size.ensures)
          (counted_more L M c.shared_runs-start.result.1.now (g.B.Output.SizeNumber.size c.loop-run.size) (g.B.Output.SizeNumber.size c.size_of_part.result) k c.loop-run.from d
          inv.2.maximal c.loop-run-test.true c.run-item.is inv.3 met.members c.size_of_part.ensures))
          met.at_most met.below,
      λ digits h. more_looks k (4 * digits) c.args.probes.now.looks c.loop-run.probes.looks c.shared_runs-start.new.probes.looks (inv.4 digits h) (met.looks digits h),
    )

pub returns-clause-members : goal.returns-clause-members
returns-clause-members g c =
    let inv = c.loop-run.invariant in
    let M = c.args.many.now in
    let S : List (ℤ × ℤ) → Type 0 = λ L. IsCountOf (g.B.Output.SizeNumber.size c.loop-run.size) (Intersection (Covers L) (Covers M)) in
    subst S inv.1 (parts_all c.as_runs-run-items.result.now c.loop-run.run-index (Covers M) _ c.loop-run-test.false inv.3.count)

pub returns-clause-looks : goal.returns-clause-looks
returns-clause-looks g c = λ digits h.
    let inv = c.loop-run.invariant in
    let k = c.loop-run.run-index in
    let most : k ≤ length c.args.few.now = subst (λ (N : List (ℤ × ℤ)). k ≤ length N) inv.1 (omega arith) in
    all_looks k (length c.args.few.now) (4 * digits) c.args.probes.now.looks c.loop-run.probes.looks most (inv.4 digits h)

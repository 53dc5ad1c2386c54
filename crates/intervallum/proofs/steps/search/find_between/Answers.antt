use Rattle.std.proofs.Common.{rules, ◌≡◌, ℕ, ◌+◌, ◌<◌, arith, subst, true, false, Bool, ◌∙◌}
use Rattle.ivl_laws.proofs.Orders.{le_number, lt_number}
use Rattle.ivl_places.proofs.Searching.{IsFrom, gap_at, goes_on, in_at, shrink}
use Rattle.intervallum.proofs.steps.search.find_between.Goals as goal

pub search-preserved : goal.search-preserved
search-preserved g c =
    let v = g.B.Width.value c.args.v in
    let L = c.args.probes.now.runs in
    let run = c.look-run.result in
    let inv = c.search.invariant in
    let t : 0 < c.search.left = search rules in
    let on = goes_on v L c.search.probes.runs c.search.low _ c.search.left c.select_unpredictable-low.result run _ _ _ _ _ _ (omega (arith, t)) (omega (arith, t)) (omega (arith, inv.0, inv.1)) inv.3
    inv.2 c.look-run.ensures.run c.upper.ensures.value c.lower.ensures.value
    (lt_number g.met.B.Width.ordered _ _ _ c.lt-is_below.ensures) (le_number g.met.B.Width.ordered _ _ _ c.le.ensures) inv.4 inv.5
    c.select_unpredictable-low.ensures c.select_unpredictable-is_in.ensures in (
      omega (arith, inv.0, on.1),
      inv.1,
      c.look-run.ensures.same ∙ inv.2,
      inv.3,
      on.2,
      on.3,
      λ digits h.
          let p = inv.6 digits h in
          let q = shrink _ _ p.0 t p.2 (omega arith) in
          (q.0, omega (arith, p.1, q.1, c.look-run.ensures.looks), q.2),
      omega (arith, on.0, inv.7),
    )

pub returns-then-is_in-clause-place : goal.returns-then-is_in-clause-place
returns-then-is_in-clause-place g c =
    let inv = c.search.invariant in
    let v = g.B.Width.value c.args.v in
    let L = c.args.probes.now.runs in
    let e : c.search.low + c.search.left ≡ c.search.low = search rules in
    let there : IsFrom v L (c.search.low + c.search.left) true = subst (λ (t : Bool). IsFrom v L (c.search.low + c.search.left) t) c.if-is_in.true inv.5 in
    let Q : ℕ → Type 0 = λ k. IsFrom v L k true in
    in_at v L c.search.low inv.4 (subst Q e there)

pub returns-else-is_in-clause-place : goal.returns-else-is_in-clause-place
returns-else-is_in-clause-place g c =
    let inv = c.search.invariant in
    let v = g.B.Width.value c.args.v in
    let L = c.args.probes.now.runs in
    let e : c.search.low + c.search.left ≡ c.search.low = search rules in
    let there : IsFrom v L (c.search.low + c.search.left) false = subst (λ (t : Bool). IsFrom v L (c.search.low + c.search.left) t) c.if-is_in.false inv.5 in
    let Q : ℕ → Type 0 = λ k. IsFrom v L k false in
    gap_at _ _ _ (omega (arith, inv.0, inv.1)) inv.4 (subst Q e there) inv.3

use Rattle.std.proofs.Common.{◌≡◌, ℕ, suc, ◌+◌, ◌-◌, ◌<◌, ℤ, ◌<ℤ◌, List, length, slice_get, Some, take, drop, arith, sym, subst, ◌∙◌}
use Rattle.std.proofs.lemmas.Option.{get_or_from_slice_get}
use Rattle.std.specs.Prelude.{Option, IsSomeAnd}
use Rattle.ivl_laws.specs.Sets.{IsBetween}
use Rattle.std.proofs.lemmas.Int.{by_lt_z}
use Rattle.ivl_laws.proofs.Adding.{untrue}
use Rattle.ivl_laws.proofs.Orders.{lt_number}
use Rattle.ivl_places.specs.Places.{EndBelow, StartAbove}
use Rattle.ivl_places.proofs.Searching.{above_from, below_to, doubled, fewer_digits}
use Rattle.intervallum.proofs.steps.search.find_from.Goals as goal

pub find_between-requires-clause-above : goal.find_between-requires-clause-above
find_between-requires-clause-above g c =
    let v = g.B.Width.value c.args.v in
    let L = c.args.probes.now.runs in
    let i = c.search.low + (c.search.low - c.args.from) in
    let inv = c.search.invariant in
    let less : i < length L = omega (arith, inv.0, c.search-test.true, c.len-count.ensures.value) in
    let seen : slice_get L i ≡ Some c.look-run.result = subst (λ (M : List (ℤ × ℤ)). slice_get M i ≡ Some c.look-run.result) inv.2 c.look-run.ensures.run in
    let P : ℤ → Type 0 = λ z. v <ℤ z in
    let b : v <ℤ c.look-run.result.0 = subst P c.lower.ensures.value ((lt_number g.met.B.Width.ordered _ _ _ c.lt.ensures).0 c.if-lt.true) in
    let Q : ℤ × ℤ → Type 0 = λ r. v <ℤ r.0 in
    let R : List (ℤ × ℤ) → Type 0 = λ M. StartAbove v (drop i M) in
    subst R (sym (c.look-run.ensures.same ∙ inv.2)) (above_from v L i c.look-run.result less (subst Q (sym (get_or_from_slice_get L i c.look-run.result c.look-run.result seen)) b) inv.3)

pub returns-then-lt-clause-looks : goal.returns-then-lt-clause-looks
returns-then-lt-clause-looks g c = λ digits h.
    let (k, e, l) = c.search.invariant.5 in
    let a = fewer_digits k digits (c.search.low - c.args.from) _ e (omega (arith, c.find_between.ensures.onwards)) h in
    let b = c.find_between.ensures.looks k (omega (arith, e)) in
    omega (arith, a, b, l, c.look-run.ensures.looks)

pub search-preserved : goal.search-preserved
search-preserved g c =
    let v = g.B.Width.value c.args.v in
    let L = c.args.probes.now.runs in
    let i = c.search.low + (c.search.low - c.args.from) in
    let inv = c.search.invariant in
    let less : i < length L = omega (arith, inv.0, c.search-test.true, c.len-count.ensures.value) in
    let seen : slice_get L i ≡ Some c.look-run.result = subst (λ (M : List (ℤ × ℤ)). slice_get M i ≡ Some c.look-run.result) inv.2 c.look-run.ensures.run in
    let P : ℤ → Type 0 = λ z. z <ℤ v in
    let b : c.look-run.result.1 <ℤ v = subst P c.upper.ensures.value ((lt_number g.met.B.Width.ordered _ _ _ c.lt-else-lt.ensures).0 c.if-lt-2.true) in
    let Q : ℤ × ℤ → Type 0 = λ r. r.1 <ℤ v in
    let to = below_to v L i c.look-run.result less (subst Q (sym (get_or_from_slice_get L i c.look-run.result c.look-run.result seen)) b) inv.3 in
    let R : ℕ → Type 0 = λ k. EndBelow v (take k L) in
    let more : suc i ≡ i + 1 = omega arith in
    let (k, e, l) = inv.5 in
    let d = doubled k (c.search.low - c.args.from) e in (
      omega (arith, inv.0),
      omega (arith, less),
      c.look-run.ensures.same ∙ inv.2,
      inv.3,
      subst R more to,
      (k + 1, omega (arith, inv.0, d), omega (arith, l, c.look-run.ensures.looks)),
    )

pub returns-else-lt-2-clause-place : goal.returns-else-lt-2-clause-place
returns-else-lt-2-clause-place g c =
    let v = g.B.Width.value c.args.v in
    let L = c.args.probes.now.runs in
    let i = c.search.low + (c.search.low - c.args.from) in
    let inv = c.search.invariant in
    let seen : slice_get L i ≡ Some c.look-run.result = subst (λ (M : List (ℤ × ℤ)). slice_get M i ≡ Some c.look-run.result) inv.2 c.look-run.ensures.run in
    let P : Option (ℤ × ℤ) → Type 0 = λ o. IsSomeAnd o (λ run. IsBetween run v) in
    let run = c.look-run.result in
    let Below : ℤ → Type 0 = λ z. ¬ (v <ℤ z) in
    let Above : ℤ → Type 0 = λ z. ¬ (z <ℤ v) in
    let low : ¬ (v <ℤ run.0) = subst Below c.lower.ensures.value (untrue _ c.if-lt.false (lt_number g.met.B.Width.ordered _ _ _ c.lt.ensures)) in
    let high : ¬ (run.1 <ℤ v) = subst Above c.upper.ensures.value (untrue _ c.if-lt-2.false (lt_number g.met.B.Width.ordered _ _ _ c.lt-else-lt.ensures)) in
    subst P (sym seen) (by_lt_z v run.0 (λ lt. absurd (low lt)) (λ le. le), by_lt_z run.1 v (λ lt. absurd (high lt)) (λ le. le))

pub returns-else-lt-2-clause-looks : goal.returns-else-lt-2-clause-looks
returns-else-lt-2-clause-looks g c = λ digits h.
    let inv = c.search.invariant in
    let (k, e, l) = inv.5 in
    let a = fewer_digits k digits (c.search.low - c.args.from) (c.search.low + (c.search.low - c.args.from) - c.args.from) e (omega (arith, inv.0)) h in
    omega (arith, a, l, c.look-run.ensures.looks)

pub returns-clause-looks : goal.returns-clause-looks
returns-clause-looks g c = λ digits h.
    let inv = c.search.invariant in
    let (k, e, l) = inv.5 in
    let a = fewer_digits k digits (c.search.low - c.args.from) _ e (omega (arith, c.find_between-2.ensures.onwards)) h in
    let b = c.find_between-2.ensures.looks k (omega (arith, e, inv.0, c.search-test.false)) in
    omega (arith, a, b, l)

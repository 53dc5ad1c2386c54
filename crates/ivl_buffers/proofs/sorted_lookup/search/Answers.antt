use Rattle.std.proofs.Common.{◌≡◌, ◌+◌, ◌-◌, ◌/◌, ◌<◌, ◌≤ℤ◌, ◌<ℤ◌, ℕ, ℤ, suc, inl, inr, length, map, take, refl, subst, arith}
use Rattle.std.proofs.lemmas.Int.{by_lt_z}
use Rattle.ivl_laws.proofs.Adding.{untrue}
use Rattle.ivl_laws.proofs.Orders.{le_number, lt_number}
use Rattle.ivl_places.specs.Places.{EndBelow}
use Rattle.ivl_buffers.proofs.InOrder.{IsPast, IsSeen, below_to, past_next, place_found, reached}
use Rattle.ivl_buffers.proofs.sorted_lookup.search.Goals as goal

pub search-init : goal.search-init
search-init g c = record {
  at_most = omega arith;
  past = tt;
  seen = inl (refl, omega arith);
  below = λ o. tt;
}

pub search-preserved-then-lt : goal.search-preserved-then-lt
search-preserved-then-lt g c =
    let v = g.R.Bound.Width.value c.args.v in
    let L = c.args.runs.now in
    let half = c.search.left - c.search.left / 2 in
    let i = c.search.low + half - 1 in
    let inv = c.search.invariant in
    let d = c.index-runs-low.result in
    let t = c.search-test.true in
    let less : i < length L = omega (arith, t, inv.at_most) in
    let P : ℤ → Type 0 = λ z. z <ℤ v in
    let b : (g.R.Pair.pair d).1 <ℤ v = subst P c.upper.ensures ((lt_number g.met.R.Bound.Width.ordered _ _ _ c.lt.ensures).0 c.if-lt.true) in
    let R : ℕ → Type 0 = λ k. EndBelow v (take k (map g.R.Pair.pair L)) in
    let Q : ℕ → Type 0 = λ k. IsPast g.R.Pair.pair v L k in
    let S : ℕ → Type 0 = λ k. IsSeen g.R.Pair.pair v L k c.search.is_in in
    let more : suc i ≡ c.search.low + half = omega (arith, t) in
    let still : c.search.low + c.search.left ≡ c.search.low + half + (c.search.left - half) = omega (arith, t) in
    record {
      at_most = omega (arith, t, inv.at_most);
      past = subst Q more (past_next g.R.Pair.pair L v i d less c.index-runs-low.is b);
      seen = subst S still inv.seen;
      below = λ o. subst R more (below_to g.R.Pair.pair L i d v less c.index-runs-low.is b o);
    }

pub search-preserved : goal.search-preserved
search-preserved g c =
    let v = g.R.Bound.Width.value c.args.v in
    let L = c.args.runs.now in
    let half = c.search.left - c.search.left / 2 in
    let i = c.search.low + half - 1 in
    let inv = c.search.invariant in
    let d = c.index-runs-low.result in
    let t = c.search-test.true in
    let less : i < length L = omega (arith, t, inv.at_most) in
    let reaches : v ≤ℤ g.R.Bound.Width.value c.upper.result = by_lt_z (g.R.Bound.Width.value c.upper.result) v
    (λ lt. absurd (untrue _ c.if-lt.false (lt_number g.met.R.Bound.Width.ordered _ _ _ c.lt.ensures) lt)) (λ le. le) in
    let P : ℤ → Type 0 = λ z. v ≤ℤ z in
    record {
      at_most = omega (arith, t, inv.at_most);
      past = inv.past;
      seen = inr (
        i,
        omega (arith, t),
        omega (arith, t),
        reached g.R.Pair.pair L v i d _ _ less c.index-runs-low.is c.lower.ensures (le_number g.met.R.Bound.Width.ordered _ _ _ c.le-is_in.ensures) (subst P c.upper.ensures reaches),
      );
      below = inv.below;
    }

pub returns-clause-has : goal.returns-clause-has
returns-clause-has g c =
    let inv = c.search.invariant in
    let ended = c.search-test.false in
    let all : c.search.low + c.search.left ≡ c.search.low = omega (arith, ended) in
    (place_found g.R.Pair.pair c.args.runs.now _ c.search.low c.search.is_in inv.past (subst (λ (k : ℕ). IsSeen g.R.Pair.pair (g.R.Bound.Width.value c.args.v) c.args.runs.now k c.search.is_in) all inv.seen)).0

pub returns-clause-below : goal.returns-clause-below
returns-clause-below g c = c.search.invariant.below

pub returns-clause-from : goal.returns-clause-from
returns-clause-from g c =
    let inv = c.search.invariant in
    let ended = c.search-test.false in
    let all : c.search.low + c.search.left ≡ c.search.low = omega (arith, ended) in
    (place_found g.R.Pair.pair c.args.runs.now _ c.search.low c.search.is_in inv.past (subst (λ (k : ℕ). IsSeen g.R.Pair.pair (g.R.Bound.Width.value c.args.v) c.args.runs.now k c.search.is_in) all inv.seen)).1

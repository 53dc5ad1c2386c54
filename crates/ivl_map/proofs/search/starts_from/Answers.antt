use Rattle.std.proofs.Common.{◌≡◌, ℕ, suc, ◌+◌, ◌-◌, ◌<◌, ◌≤ℤ◌, ◌<ℤ◌, take, get_or, length, refl, subst, arith}
use Rattle.std.proofs.lemmas.Int.{ints, by_lt_z}
use Rattle.ivl_laws.proofs.Adding.{untrue}
use Rattle.ivl_laws.proofs.Orders.{lt_number}
use Rattle.ivl_map.specs.Entries.{AllStartBy}
use Rattle.ivl_map.proofs.Reading.{above_end}
use Rattle.ivl_map.proofs.Searching.{above_at, starts_to}
use Rattle.ivl_map.proofs.search.starts_from.Goals as goal

pub starts_between-requires-clause-above : goal.starts_between-requires-clause-above
starts_between-requires-clause-above g c =
    let v = g.B.Width.value c.args.value in
    let E = c.args.entries.now in
    let i = c.search.low + (c.search.low - c.args.from) in
    let e = c.index-entries-next.result in
    let inv = c.search.invariant in
    let test = c.search-test.true in
    let less : i < length E = omega (arith, inv.0, test) in
    let low : g.B.Width.value c.lower_bound.result ≡ (get_or E i e).0.0 = c.lower_bound.ensures in
    let lt : v <ℤ g.B.Width.value c.lower_bound.result = (lt_number g.met.B.Width.ordered _ _ _ c.lt.ensures).0 c.if-lt.true in
    above_at v E i e less (omega (arith, ints, lt, low))

pub search-preserved : goal.search-preserved
search-preserved g c =
    let v = g.B.Width.value c.args.value in
    let E = c.args.entries.now in
    let i = c.search.low + (c.search.low - c.args.from) in
    let e = c.index-entries-next.result in
    let inv = c.search.invariant in
    let test = c.search-test.true in
    let less : i < length E = omega (arith, inv.0, test) in
    let low : g.B.Width.value c.lower_bound.result ≡ (get_or E i e).0.0 = c.lower_bound.ensures in
    let le : g.B.Width.value c.lower_bound.result ≤ℤ v = by_lt_z v (g.B.Width.value c.lower_bound.result) (λ lt. absurd (untrue _ c.if-lt.false (lt_number g.met.B.Width.ordered _ _ _ c.lt.ensures) lt)) (λ ge. ge) in
    let Q : ℕ → Type 0 = λ k. AllStartBy v (take k E) in
    let more : suc i ≡ i + 1 = omega arith in
    (omega (arith, inv.0), omega (arith, less), subst Q more (starts_to g.V.PartialEq.eq v E i e less (omega (arith, ints, le, low)) c.requires.entries))

pub starts_between-requires-2-clause-above : goal.starts_between-requires-2-clause-above
starts_between-requires-2-clause-above g c = above_end (g.B.Width.value c.args.value) c.args.entries.now _ refl

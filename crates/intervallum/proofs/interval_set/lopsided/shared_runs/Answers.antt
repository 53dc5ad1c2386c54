use Rattle.std.proofs.Common.{◌∙◌, ◌≤◌, ℤ, List, length, take, ap, subst, sym, arith}
use Rattle.std.proofs.lemmas.Int.{ints}
use Rattle.ivl_places.specs.Places.{EndBelow}
use Rattle.ivl_places.proofs.Lopsided.{is_shared}
use Rattle.ivl_places.proofs.Finding.{EndBelow-more}
use Rattle.intervallum.proofs.interval_set.lopsided.shared_runs.Goals as goal

pub first_from-start-requires-clause-at_most : goal.first_from-start-requires-clause-at_most
first_from-start-requires-clause-at_most g c = rw c.requires.same c.requires.at_most

pub first_from-start-requires-clause-below : goal.first_from-start-requires-clause-below
first_from-start-requires-clause-below g c = rw (c.requires.same, c.lower.ensures.value) c.requires.below

pub last_up_to-end-requires-clause-below : goal.last_up_to-end-requires-clause-below
last_up_to-end-requires-clause-below g c =
    let low = c.lower.ensures.value in
    let high = c.upper.ensures.value in
    let filled = c.requires.filled in
    EndBelow-more (take c.first_from-start.result c.first_from-start.new.probes.runs) (g.B.Width.value c.lower.result) (g.B.Width.value c.upper.result) (omega (arith, ints, low, high, filled))
    (rw c.first_from-start.ensures.same c.first_from-start.ensures.below)

pub slice_bounds-result-count : goal.slice_bounds-result-count
slice_bounds-result-count g c =
    let first = c.first_from-start.ensures in
    let last = c.last_up_to-end.ensures in
    let seen = ap (λ (L : List (ℤ × ℤ)). length L) (first.same ∙ c.requires.same ∙ sym c.as_runs-runs.ensures.same) in
    omega (arith, seen, last.at_most, last.onwards)

pub slice_bounds-result-start : goal.slice_bounds-result-start
slice_bounds-result-start g c =
    let first = c.first_from-start.ensures in
    let last = c.last_up_to-end.ensures in
    let seen = ap (λ (L : List (ℤ × ℤ)). length L) (first.same ∙ c.requires.same ∙ sym c.as_runs-runs.ensures.same) in
    omega (arith, seen, last.at_most, last.onwards)

pub returns : goal.returns
returns g c =
    let first = c.first_from-start.ensures in
    let last = c.last_up_to-end.ensures in
    let shared = is_shared g.B.Width.whole c.args.many.now c.as_runs-runs.result.now c.args.probes.now.runs c.first_from-start.new.probes.runs c.args.run.now _ _ c.first_from-start.result c.last_up_to-end.result
    c.as_runs-runs.ensures.runs c.as_runs-runs.ensures.same c.requires.same first.same c.requires.filled c.lower.ensures.value c.upper.ensures.value
    first.at_most first.below first.ends last.starts last.above in
    record {
      runs = shared.runs;
      first = shared.first;
      last = shared.last;
      members = shared.members;
      below = (
          let P : List (ℤ × ℤ) → Type 0 = λ L. EndBelow c.args.run.now.0 (take c.first_from-start.result L) in
          subst P c.requires.same (rw (sym c.lower.ensures.value) first.below));
      at_most = (
          let P : List (ℤ × ℤ) → Type 0 = λ L. c.first_from-start.result ≤ length L in
          subst P c.requires.same first.at_most);
      same = last.same ∙ first.same ∙ c.requires.same;
      looks = λ digits h.
          let all = ap (λ (L : List (ℤ × ℤ)). length L) c.requires.same in
          let same = ap (λ (L : List (ℤ × ℤ)). length L) first.same in
          let a = first.looks digits (omega (arith, h, all, first.at_most)) in
          let b = last.looks digits (omega (arith, h, all, same, last.at_most)) in
          omega (arith, a, b);
    }

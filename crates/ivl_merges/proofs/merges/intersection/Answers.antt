use Rattle.std.proofs.Common.{◌+◌, length, ◌∙◌, ap, ap₂, refl, sym, ℤ, ℕ, arith}
use Rattle.std.proofs.lemmas.Option.{slice_get_within}
use Rattle.std.specs.Prelude.{slice_get}
use Rattle.std.specs.Option.{option_zip}
use Rattle.ivl_laws.proofs.Orders.{le_number, max_number, min_number}
use Rattle.ivl_walks.proofs.HeldRun.{zip_some}
use Rattle.ivl_walks.proofs.Unions.{both_ends}
use Rattle.ivl_walks.proofs.Laying.{merged}
use Rattle.ivl_walks.proofs.IntersectionSteps.{both_starts, common_of, intersection_at_most, meeting_begins, meeting_ends, meeting_next, both_in_range}
use Rattle.ivl_walks.proofs.Suffixes.{one_moves, run_at_place}
use Rattle.ivl_merges.proofs.merges.intersection.Goals as goal

pub walk-init : goal.walk-init
walk-init g c = record {
  first = omega arith;
  second = omega arith;
  heads = c.zip-heads.ensures ∙ ap₂ option_zip c.pair_at.ensures c.pair_at-2.ensures;
  repeats = c.requires.repeats;
  count = omega arith;
  room = refl;
  state = meeting_begins g.R.Pair.pair c.args.a.now c.args.b.now (g.S.Sink.holds c.args.out.now c.args.out.now) c.requires.empty;
}

pub walk-smaller : goal.walk-smaller
walk-smaller g c =
    let inv = c.walk.invariant in
    let held = zip_some (slice_get c.args.a.now c.walk.i) (slice_get c.args.b.now c.walk.j) c.in-Some.runs (sym inv.heads ∙ c.in-Some.is) in
    let h = slice_get_within c.args.a.now c.walk.i c.in-Some.runs.0 held.0 in
    let k = slice_get_within c.args.b.now c.walk.j c.in-Some.runs.1 held.1 in
    let one = one_moves c.le-ends_first.result _ _ c.from-i.ensures c.from-j.ensures in
    omega (arith, h, k, one)

pub next_heads-heads-requires-clause-first : goal.next_heads-heads-requires-clause-first
next_heads-heads-requires-clause-first g c =
    slice_get_within c.args.a.now c.walk.i c.in-Some.runs.0 (zip_some _ _ c.in-Some.runs (sym c.walk.invariant.heads ∙ c.in-Some.is)).0

pub next_heads-heads-requires-clause-second : goal.next_heads-heads-requires-clause-second
next_heads-heads-requires-clause-second g c =
    slice_get_within c.args.b.now c.walk.j c.in-Some.runs.1 (zip_some _ _ c.in-Some.runs (sym c.walk.invariant.heads ∙ c.in-Some.is)).1

pub next_heads-heads-requires-clause-first_head : goal.next_heads-heads-requires-clause-first_head
next_heads-heads-requires-clause-first_head g c = (zip_some _ _ c.in-Some.runs (sym c.walk.invariant.heads ∙ c.in-Some.is)).0

pub next_heads-heads-requires-clause-second_head : goal.next_heads-heads-requires-clause-second_head
next_heads-heads-requires-clause-second_head g c = (zip_some _ _ c.in-Some.runs (sym c.walk.invariant.heads ∙ c.in-Some.is)).1

pub walk-preserved : goal.walk-preserved
walk-preserved g c =
    let inv = c.walk.invariant in
    let held = zip_some (slice_get c.args.a.now c.walk.i) (slice_get c.args.b.now c.walk.j) c.in-Some.runs (sym inv.heads ∙ c.in-Some.is) in
    let at = held.0 in
    let by = held.1 in
    let h = slice_get_within c.args.a.now c.walk.i c.in-Some.runs.0 at in
    let k = slice_get_within c.args.b.now c.walk.j c.in-Some.runs.1 by in
    let o = g.met.R.Bound.Width.ordered in
    let starts = ap (λ (p : ℤ × ℤ). p.0) c.of.ensures ∙ max_number o _ _ _ c.max-start.ensures ∙ both_ends c.lower.ensures c.lower-in-Some.ensures in
    let ends = ap (λ (p : ℤ × ℤ). p.1) c.of.ensures ∙ min_number o _ _ _ c.min-end.ensures ∙ both_starts c.upper.ensures c.upper-in-Some.ensures in
    let more = c.push_filled.ensures.count in
    let n = inv.count in
    let r = inv.room in
    let r' = c.push_filled.ensures.room in
    let start = c.args.out.now in
    let one = one_moves c.le-ends_first.result _ _ c.from-i.ensures c.from-j.ensures in
    record {
      first = omega (arith, h, one);
      second = omega (arith, k, one);
      heads = c.next_heads-heads.ensures ∙ ap₂ (λ (n m : ℕ). option_zip (slice_get c.args.a.now (c.walk.i + n)) (slice_get c.args.b.now (c.walk.j + m))) (sym c.from-i.ensures) (sym c.from-j.ensures);
      repeats = c.push_filled.ensures.repeats;
      count = omega (arith, more, n, one);
      room = omega (arith, r, r');
      state = meeting_next g.R.Pair.pair c.args.a.now c.args.b.now c.walk.i c.walk.j c.in-Some.runs.0 c.in-Some.runs.1 (g.R.Pair.pair c.of.result)
          (g.S.Sink.holds start c.walk.out) (g.S.Sink.holds start c.push_filled.new.self) c.requires.first.maximal c.requires.second.maximal at by starts ends (c.push_filled.ensures.list start) inv.state
          c.le-ends_first.result _ _ _ _ c.upper-in-Some-2.ensures c.upper-in-Some-3.ensures (le_number o _ _ _ c.le-ends_first.ensures) c.from-i.ensures c.from-j.ensures;
    }

pub of-requires : goal.of-requires
of-requires g c =
    let inv = c.walk.invariant in
    let held = zip_some (slice_get c.args.a.now c.walk.i) (slice_get c.args.b.now c.walk.j) c.in-Some.runs (sym inv.heads ∙ c.in-Some.is) in
    let o = g.met.R.Bound.Width.ordered in
    let whole = g.R.Bound.Width.whole in
    let pair = g.R.Pair.pair in
    both_in_range whole (pair c.in-Some.runs.0) (pair c.in-Some.runs.1) _ _
    (run_at_place pair whole c.args.a.now c.walk.i c.in-Some.runs.0 held.0 c.requires.first) (run_at_place pair whole c.args.b.now c.walk.j c.in-Some.runs.1 held.1 c.requires.second)
    (max_number o _ _ _ c.max-start.ensures ∙ both_ends c.lower.ensures c.lower-in-Some.ensures) (min_number o _ _ _ c.min-end.ensures ∙ both_starts c.upper.ensures c.upper-in-Some.ensures)

pub push_filled-requires : goal.push_filled-requires
push_filled-requires g c =
    let inv = c.walk.invariant in
    let held = zip_some (slice_get c.args.a.now c.walk.i) (slice_get c.args.b.now c.walk.j) c.in-Some.runs (sym inv.heads ∙ c.in-Some.is) in
    let h = slice_get_within c.args.a.now c.walk.i c.in-Some.runs.0 held.0 in
    let k = slice_get_within c.args.b.now c.walk.j c.in-Some.runs.1 held.1 in
    let n = inv.count in
    let r = inv.room in
    let few = c.requires.room in
    record { room = omega (arith, h, k, n, r, few); repeats = inv.repeats }

pub returns : goal.returns
returns g c =
    let inv = c.walk.invariant in
    let a = c.args.a.now in
    let b = c.args.b.now in
    let pair = g.R.Pair.pair in
    merged (common_of pair a b) _ (length a + length b) (intersection_at_most pair a b)
    (meeting_ends pair a b c.walk.i c.walk.j (slice_get a c.walk.i) (slice_get b c.walk.j) (g.S.Sink.holds c.args.out.now c.walk.out) refl refl (sym inv.heads ∙ c.in_default.is) inv.state)

use Rattle.std.proofs.Common.{◌+◌, length, refl, arith}
use Rattle.ivl_laws.proofs.Orders.{lt_number}
use Rattle.ivl_interval.proofs.Pairs.{not_below}
use Rattle.ivl_walks.proofs.Intersections.{ends_before, ends_by}
use Rattle.ivl_walks.proofs.Laying.{adds_filled, merged}
use Rattle.ivl_walks.proofs.DifferenceSteps.{cut_list, difference_at_most, held_ended, held_is_run, held_list, held_place, left_of, parting_alone, parting_begins, parting_ends, parting_first, parting_second}
use Rattle.ivl_walks.proofs.Suffixes.{run_at}
use Rattle.ivl_merges.proofs.merges.difference.Goals as goal

pub walk-init : goal.walk-init
walk-init g c =
    let pair = g.R.Pair.pair in
    let a = c.args.a.now in
    let b = c.args.b.now in
    let e = c.pair_at-held.ensures in
    record {
      place = held_place pair a b _ 0 e;
      ended = held_ended pair a b _ 0 e;
      first = omega arith;
      second = omega arith;
      count = omega arith;
      room = refl;
      list = held_list pair a b g.R.Bound.Width.whole _ 0 e c.requires.first;
      state = parting_begins pair a b _ (g.S.Sink.holds c.args.out.now c.args.out.now) e c.requires.empty;
    }

pub push_below-requires-clause-other : goal.push_below-requires-clause-other
push_below-requires-clause-other g c = run_at g.R.Pair.pair g.R.Bound.Width.whole c.args.b.now c.walk.j c.index-b-j.result c.if-j-b.true c.index-b-j.is c.requires.second

pub above-requires-clause-other : goal.above-requires-clause-other
above-requires-clause-other g c = run_at g.R.Pair.pair g.R.Bound.Width.whole c.args.b.now c.walk.j c.index-b-j.result c.if-j-b.true c.index-b-j.is c.requires.second

pub walk-preserved-then-lt : goal.walk-preserved-then-lt
walk-preserved-then-lt g c =
    let pair = g.R.Pair.pair in
    let a = c.args.a.now in
    let b = c.args.b.now in
    let inv = c.walk.invariant in
    let h = inv.place _ c.in-Some.is in
    let k = c.if-j-b.true in
    let test = (lt_number g.met.R.Bound.Width.ordered _ _ _ c.lt.ensures).0 c.if-lt.true in
    let less = ends_before _ _ _ _ c.upper.ensures c.upper-then-j-b.ensures test in
    let more = c.push_below.ensures.count in
    let n = inv.count in
    let r = inv.room in
    let r' = c.push_below.ensures.room in
    let start = c.args.out.now in
    record {
      place = λ x _. h;
      ended = λ t. absurd (cc);
      first = inv.first;
      second = omega (arith, k);
      count = omega (arith, more, n);
      room = omega (arith, r, r');
      list = cut_list pair a b c.walk.held c.walk.i c.walk.j c.in-Some.run' (g.S.Sink.holds start c.walk.out) (g.S.Sink.holds start c.push_below.new.out) g.R.Bound.Width.whole c.in-Some.is inv.list inv.state c.index-b-j.result k c.index-b-j.is c.requires.second
          (c.push_below.ensures.list start) less c.above.result c.above.ensures;
      state = parting_second pair a b c.walk.held c.walk.i c.walk.j c.in-Some.run' (g.S.Sink.holds start c.walk.out) (g.S.Sink.holds start c.push_below.new.out) g.R.Bound.Width.whole c.in-Some.is inv.list inv.state c.index-b-j.result k c.index-b-j.is c.requires.second
          (c.push_below.ensures.list start) less c.above.result c.above.ensures;
    }

pub walk-preserved-else-lt : goal.walk-preserved-else-lt
walk-preserved-else-lt g c =
    let pair = g.R.Pair.pair in
    let a = c.args.a.now in
    let b = c.args.b.now in
    let inv = c.walk.invariant in
    let h = inv.place _ c.in-Some.is in
    let e = c.pair_at-held-else-lt.ensures in
    let test = not_below _ _ _ (lt_number g.met.R.Bound.Width.ordered _ _ _ c.lt.ensures) c.if-lt.false in
    let more = c.push_below.ensures.count in
    let n = inv.count in
    let r = inv.room in
    let r' = c.push_below.ensures.room in
    let start = c.args.out.now in
    record {
      place = held_place pair a b _ (c.walk.i + 1) e;
      ended = held_ended pair a b _ (c.walk.i + 1) e;
      first = omega (arith, h);
      second = inv.second;
      count = omega (arith, more, n);
      room = omega (arith, r, r');
      list = held_list pair a b g.R.Bound.Width.whole _ (c.walk.i + 1) e c.requires.first;
      state = parting_first pair a b c.walk.held c.walk.i c.walk.j c.in-Some.run' (g.S.Sink.holds start c.walk.out) (g.S.Sink.holds start c.push_below.new.out) g.R.Bound.Width.whole c.in-Some.is inv.list inv.state c.index-b-j.result c.if-j-b.true c.index-b-j.is
          c.requires.second (c.push_below.ensures.list start) (ends_by _ _ _ _ c.upper-then-j-b.ensures c.upper.ensures test) _ e;
    }

pub walk-preserved : goal.walk-preserved
walk-preserved g c =
    let pair = g.R.Pair.pair in
    let a = c.args.a.now in
    let b = c.args.b.now in
    let inv = c.walk.invariant in
    let h = inv.place _ c.in-Some.is in
    let e = c.pair_at-held-else-j-b.ensures in
    let start = c.args.out.now in
    let is_run = held_is_run pair a b c.walk.held c.walk.i c.walk.j c.in-Some.run' (g.S.Sink.holds start c.walk.out) (g.S.Sink.holds start c.walk.out) g.R.Bound.Width.whole c.in-Some.is inv.list inv.state in
    let n = inv.count in
    let more = c.push.ensures.count in
    let r = inv.room in
    let r' = c.push.ensures.room in
    let adds = adds_filled (pair c.in-Some.run') (pair c.in-Some.run') _ _ refl is_run.0 (c.push.ensures.list start) in
    record {
      place = held_place pair a b _ (c.walk.i + 1) e;
      ended = held_ended pair a b _ (c.walk.i + 1) e;
      first = omega (arith, h);
      second = inv.second;
      count = omega (arith, n, more);
      room = omega (arith, r, r');
      list = held_list pair a b g.R.Bound.Width.whole _ (c.walk.i + 1) e c.requires.first;
      state = parting_alone pair a b c.walk.held c.walk.i c.walk.j c.in-Some.run' (g.S.Sink.holds start c.walk.out) (g.S.Sink.holds start c.push.new.self) g.R.Bound.Width.whole c.in-Some.is inv.list inv.state c.if-j-b.false adds _ e;
    }

pub push_below-requires-clause-run : goal.push_below-requires-clause-run
push_below-requires-clause-run g c =
    let inv = c.walk.invariant in
    let H = g.S.Sink.holds c.args.out.now c.walk.out in
    held_is_run g.R.Pair.pair c.args.a.now c.args.b.now c.walk.held c.walk.i c.walk.j c.in-Some.run' H H g.R.Bound.Width.whole c.in-Some.is inv.list inv.state

pub above-requires-clause-run : goal.above-requires-clause-run
above-requires-clause-run g c =
    let inv = c.walk.invariant in
    let H = g.S.Sink.holds c.args.out.now c.walk.out in
    held_is_run g.R.Pair.pair c.args.a.now c.args.b.now c.walk.held c.walk.i c.walk.j c.in-Some.run' H H g.R.Bound.Width.whole c.in-Some.is inv.list inv.state

pub push_below-requires-clause-room : goal.push_below-requires-clause-room
push_below-requires-clause-room g c =
    let inv = c.walk.invariant in
    let h = inv.place _ c.in-Some.is in
    let k = inv.second in
    let n = inv.count in
    let r = inv.room in
    let few = c.requires.room in
    omega (arith, h, k, n, r, few)

pub push-requires : goal.push-requires
push-requires g c =
    let inv = c.walk.invariant in
    let h = inv.place _ c.in-Some.is in
    let k = inv.second in
    let n = inv.count in
    let r = inv.room in
    let few = c.requires.room in
    omega (arith, h, k, n, r, few)

pub returns : goal.returns
returns g c =
    let inv = c.walk.invariant in
    let a = c.args.a.now in
    let b = c.args.b.now in
    let pair = g.R.Pair.pair in
    merged (left_of pair a b) _ (length a + length b) (difference_at_most pair a b)
    (parting_ends pair a b c.walk.held c.walk.i c.walk.j (g.S.Sink.holds c.args.out.now c.walk.out) c.in_default.is inv.ended inv.state)

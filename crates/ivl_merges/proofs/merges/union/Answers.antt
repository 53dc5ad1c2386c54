use Rattle.std.proofs.Common.{◌+◌, length, arith}
use Rattle.ivl_walks.proofs.Laying.{merged}
use Rattle.ivl_walks.proofs.UnionSteps.{next_is_run, union_at_most, union_of, united_ends, united_first, united_next, united_none}
use Rattle.ivl_merges.proofs.merges.union.Goals as goal

pub returns-in_default : goal.returns-in_default
returns-in_default g c =
    let pair = g.R.Pair.pair in
    let a = c.args.a.now in
    let b = c.args.b.now in
    let taken = c.in_default.ensures.taken in
    merged (union_of pair a b) _ (length a + length b) (union_at_most pair a b)
    (united_none pair a b g.R.Bound.Width.whole (g.S.Sink.holds c.args.out.now c.args.out.now) c.requires.first c.requires.second taken.0 taken.1 c.requires.empty)

pub walk-init : goal.walk-init
walk-init g c =
    let pair = g.R.Pair.pair in
    let a = c.args.a.now in
    let b = c.args.b.now in
    let whole = g.R.Bound.Width.whole in
    let one = c.in-Some.ensures.one in
    let more = c.push.ensures.count in
    let taken = c.in-Some.ensures.taken in
    let start = c.args.out.now in
    record {
      first = c.in-Some.ensures.first;
      second = c.in-Some.ensures.second;
      some = omega (arith, more);
      count = omega (arith, one, more);
      room = c.push.ensures.room;
      last = next_is_run pair a b whole 0 0 _ _ _ c.requires.first c.requires.second taken;
      state = united_first pair a b whole _ _ (pair c.in-Some.last) (g.S.Sink.holds start start) (g.S.Sink.holds start c.push.new.self) c.requires.first c.requires.second taken c.requires.empty (c.push.ensures.list start);
    }

pub walk-preserved : goal.walk-preserved
walk-preserved g c =
    let pair = g.R.Pair.pair in
    let a = c.args.a.now in
    let b = c.args.b.now in
    let whole = g.R.Bound.Width.whole in
    let inv = c.walk.invariant in
    let taken = c.in-Some-take_first.ensures.taken in
    let one = c.in-Some-take_first.ensures.one in
    let start = c.args.out.now in
    let n = inv.count in
    let m = c.push_joined-last.ensures.count in
    let r = inv.room in
    let r' = c.push_joined-last.ensures.room in
    record {
      first = c.in-Some-take_first.ensures.first;
      second = c.in-Some-take_first.ensures.second;
      some = c.push_joined-last.ensures.some;
      count = omega (arith, one, n, m);
      room = omega (arith, r, r');
      last = c.push_joined-last.ensures.last;
      state = united_next _ _ _ _ (union_of pair a b) (g.S.Sink.holds start c.walk.out) (g.S.Sink.holds start c.push_joined-last.new.out) (pair c.walk.last) (pair c.in-Some-take_first.run') (pair c.push_joined-last.result)
          taken (c.push_joined-last.ensures.adds start) inv.state;
    }

pub returns : goal.returns
returns g c =
    let pair = g.R.Pair.pair in
    let a = c.args.a.now in
    let b = c.args.b.now in
    let taken = c.in_default-take_first.ensures.taken in
    merged (union_of pair a b) _ (length a + length b) (union_at_most pair a b)
    (united_ends _ _ (union_of pair a b) (g.S.Sink.holds c.args.out.now c.walk.out) (pair c.walk.last) taken.0 taken.1 c.walk.invariant.state)

pub push_joined-last-requires-clause-run : goal.push_joined-last-requires-clause-run
push_joined-last-requires-clause-run g c =
    next_is_run g.R.Pair.pair c.args.a.now c.args.b.now g.R.Bound.Width.whole c.walk.i c.walk.j _ _ _ c.requires.first c.requires.second c.in-Some-take_first.ensures.taken

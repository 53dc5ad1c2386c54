use Rattle.std.proofs.Common.{◌∙◌, ◌+◌, ◌++◌, ◌∷◌, [], inr, ℤ, List, ◌+ℤ◌, ◌-ℤ◌, pos, length, map, ap, subst, arith}
use Rattle.std.proofs.lemmas.Int.{ints}
use Rattle.ivl_laws.specs.Sets.{Complement}
use Rattle.ivl_laws.specs.Runs.{Covers, IsRunListIn}
use Rattle.ivl_laws.proofs.Runs.{pair_same}
use Rattle.ivl_walks.proofs.ComplementSteps.{IsLeaving, complement_at_most, leaving_after, leaving_all, leaving_before, leaving_begins, leaving_ends, leaving_next, leaving_within}
use Rattle.ivl_walks.proofs.Laying.{merged}
use Rattle.ivl_walks.proofs.Suffixes.{first_is_run, none_split, rest_all, rest_at, rest_list, rest_none}
use Rattle.ivl_merges.proofs.merges.complement.Goals as goal

pub returns-in_default : goal.returns-in_default
returns-in_default g c =
    let whole = g.R.Bound.Width.whole in
    let pair = g.R.Pair.pair in
    let start = c.args.out.now in
    let is = c.of.ensures ∙ pair_same _ whole c.min_value.ensures c.max_value.ensures in
    merged _ _ (length c.args.runs.now + 1) (complement_at_most pair whole c.args.runs.now)
    (leaving_all whole (map pair c.args.runs.now) (g.S.Sink.holds start c.push.new.self) g.met.R.Bound.Width.range (none_split pair c.args.runs.now c.in_default.ensures.cases)
    (subst (λ (p : ℤ × ℤ). g.S.Sink.holds start c.push.new.self (p ∷ [])) is (c.push.ensures.list start [] c.requires.empty)))

pub push_under-requires-clause-run : goal.push_under-requires-clause-run
push_under-requires-clause-run g c =
    let pair = g.R.Pair.pair in
    first_is_run g.R.Bound.Width.whole (pair c.in-Some.first.now) (map pair c.in-Some.more.now)
    (subst (IsRunListIn g.R.Bound.Width.whole) (ap (λ L. map pair L) c.in-Some.ensures.cases.0) c.requires.runs)

pub loop-run-init : goal.loop-run-init
loop-run-init g c =
    let whole = g.R.Bound.Width.whole in
    let pair = g.R.Pair.pair in
    let start = c.args.out.now in
    let p = pair c.in-Some.first.now in
    let more = map pair c.in-Some.more.now in
    let opened = ap (λ L. map pair L) c.in-Some.ensures.cases.0 in
    let list : IsRunListIn whole (p ∷ more) = subst (IsRunListIn whole) opened c.requires.runs in
    let n = c.push_under.ensures.count in
    record {
      index = omega arith;
      count = omega (arith, n);
      room = c.push_under.ensures.room;
      list = record { maximal = list.maximal.2; within = λ z x. list.within z (inr x) };
      state = rw (c.upper-end.ensures, rest_all pair c.in-Some.more.now, opened)
          (leaving_begins whole p more (g.S.Sink.holds start start) (g.S.Sink.holds start c.push_under.new.out) list c.requires.empty (c.push_under.ensures.list start));
    }

pub add_in_range-start-requires : goal.add_in_range-start-requires
add_in_range-start-requires g c =
    let whole = g.R.Bound.Width.whole in
    let pair = g.R.Pair.pair in
    let inv = c.loop-run.invariant in
    let opened = rest_at pair c.in-Some.more.now c.loop-run.run-index c.run-item.result c.loop-run-test.true c.run-item.is in
    let H = g.S.Sink.holds c.args.out.now c.loop-run.out in
    let list = subst (IsRunListIn whole) opened (rest_list pair whole c.in-Some.more.now c.loop-run.run-index inv.list) in
    rw c.one.ensures (leaving_after whole (pair c.run-item.result) _ H H list _ _
    (subst (λ M. (W : List (ℤ × ℤ)) × IsLeaving whole (g.R.Bound.Width.value c.loop-run.end) M (Complement whole (Covers (map pair c.args.runs.now))) H W) opened inv.state))

pub sub_in_range-requires : goal.sub_in_range-requires
sub_in_range-requires g c =
    let whole = g.R.Bound.Width.whole in
    let pair = g.R.Pair.pair in
    let inv = c.loop-run.invariant in
    let opened = rest_at pair c.in-Some.more.now c.loop-run.run-index c.run-item.result c.loop-run-test.true c.run-item.is in
    let H = g.S.Sink.holds c.args.out.now c.loop-run.out in
    let list = subst (IsRunListIn whole) opened (rest_list pair whole c.in-Some.more.now c.loop-run.run-index inv.list) in
    rw (c.one-in-loop-run.ensures, c.lower.ensures) (leaving_before whole (pair c.run-item.result) _ H H list _ _
    (subst (λ M. (W : List (ℤ × ℤ)) × IsLeaving whole (g.R.Bound.Width.value c.loop-run.end) M (Complement whole (Covers (map pair c.args.runs.now))) H W) opened inv.state))

pub loop-run-preserved : goal.loop-run-preserved
loop-run-preserved g c =
    let whole = g.R.Bound.Width.whole in
    let V = g.R.Bound.Width.value in
    let pair = g.R.Pair.pair in
    let inv = c.loop-run.invariant in
    let start = c.args.out.now in
    let k = c.loop-run-test.true in
    let opened = rest_at pair c.in-Some.more.now c.loop-run.run-index c.run-item.result k c.run-item.is in
    let list = subst (IsRunListIn whole) opened (rest_list pair whole c.in-Some.more.now c.loop-run.run-index inv.list) in
    let H = g.S.Sink.holds start c.loop-run.out in
    let H' = g.S.Sink.holds start c.push-in-loop-run.new.self in
    let q = pair c.run-item.result in
    let low = c.add_in_range-start.ensures ∙ ap (λ (n : ℤ). V c.loop-run.end +ℤ n) c.one.ensures in
    let high = c.sub_in_range.ensures ∙ ap (λ (n : ℤ). V c.lower.result -ℤ n) c.one-in-loop-run.ensures ∙ ap (λ (n : ℤ). n -ℤ pos 1) c.lower.ensures in
    let is = c.of-in-loop-run.ensures ∙ pair_same _ (V c.loop-run.end +ℤ pos 1, q.0 -ℤ pos 1) low high in
    let n = inv.count in
    let more = c.push-in-loop-run.ensures.count in
    let r = inv.room in
    let r' = c.push-in-loop-run.ensures.room in
    record {
      index = omega (arith, k);
      count = omega (arith, n, more);
      room = omega (arith, r, r');
      list = inv.list;
      state = rw c.upper-end-in-loop-run.ensures (leaving_next whole q _ H H' list _ _
          (subst (λ M. (W : List (ℤ × ℤ)) × IsLeaving whole (V c.loop-run.end) M (Complement whole (Covers (map pair c.args.runs.now))) H W) opened inv.state)
          (λ L x. subst (λ (p : ℤ × ℤ). H' (L ++ p ∷ [])) is (c.push-in-loop-run.ensures.list start L x)));
    }

pub push-requires-in-loop-run : goal.push-requires-in-loop-run
push-requires-in-loop-run g c =
    let inv = c.loop-run.invariant in
    let k = c.loop-run-test.true in
    let n = inv.count in
    let r = inv.room in
    let few = c.requires.room in
    let rest = c.in-Some.ensures.cases.1 in
    omega (arith, k, n, r, few, rest)

pub of-requires-in-loop-run : goal.of-requires-in-loop-run
of-requires-in-loop-run g c =
    let whole = g.R.Bound.Width.whole in
    let V = g.R.Bound.Width.value in
    let pair = g.R.Pair.pair in
    let inv = c.loop-run.invariant in
    let opened = rest_at pair c.in-Some.more.now c.loop-run.run-index c.run-item.result c.loop-run-test.true c.run-item.is in
    let H = g.S.Sink.holds c.args.out.now c.loop-run.out in
    let list = subst (IsRunListIn whole) opened (rest_list pair whole c.in-Some.more.now c.loop-run.run-index inv.list) in
    let state = subst (λ M. (W : List (ℤ × ℤ)) × IsLeaving whole (V c.loop-run.end) M (Complement whole (Covers (map pair c.args.runs.now))) H W) opened inv.state in
    let (a, a') = leaving_after whole (pair c.run-item.result) _ H H list _ _ state in
    let (b, b') = leaving_before whole (pair c.run-item.result) _ H H list _ _ state in
    let low = c.add_in_range-start.ensures in
    let one = c.one.ensures in
    let high = c.sub_in_range.ensures in
    let one' = c.one-in-loop-run.ensures in
    let start = c.lower.ensures in
    (omega (arith, ints, a, low, one), omega (arith, ints, b', high, one', start))

pub push_past-requires-clause-end : goal.push_past-requires-clause-end
push_past-requires-clause-end g c = leaving_within g.R.Bound.Width.whole _ _ _ _ c.loop-run.invariant.state

pub push_past-requires-clause-room : goal.push_past-requires-clause-room
push_past-requires-clause-room g c =
    let inv = c.loop-run.invariant in
    let k = inv.index in
    let n = inv.count in
    let r = inv.room in
    let few = c.requires.room in
    let rest = c.in-Some.ensures.cases.1 in
    omega (arith, k, n, r, few, rest)

pub returns : goal.returns
returns g c =
    let whole = g.R.Bound.Width.whole in
    let pair = g.R.Pair.pair in
    let start = c.args.out.now in
    let h = c.loop-run-test.false in
    let none = rest_none pair c.in-Some.more.now c.loop-run.run-index (omega (arith, h)) in
    merged _ _ (length c.args.runs.now + 1) (complement_at_most pair whole c.args.runs.now)
    (leaving_ends whole (g.R.Bound.Width.value c.loop-run.end) _ _ (g.S.Sink.holds start c.loop-run.out) (g.S.Sink.holds start c.push_past.new.out) none (c.push_past.ensures start) c.loop-run.invariant.state)

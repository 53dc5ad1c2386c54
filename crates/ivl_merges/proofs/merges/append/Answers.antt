use Rattle.std.proofs.Common.{◌++◌, map, refl, subst, take_all, arith}
use Rattle.ivl_walks.proofs.Laying.{added_next, added_none}
use Rattle.ivl_merges.proofs.merges.append.Goals as goal

pub loop-run-init : goal.loop-run-init
loop-run-init g c = record {
  index = omega arith;
  count = omega arith;
  room = refl;
  held = λ start L h. added_none g.R.Pair.pair c.args.runs.now (g.S.Sink.holds start c.args.out.now) L h;
}

pub push-requires : goal.push-requires
push-requires g c =
    let inv = c.loop-run.invariant in
    let h = c.loop-run-test.true in
    let n = inv.count in
    let r = inv.room in
    let few = c.requires in
    omega (arith, h, n, r, few)

pub loop-run-preserved : goal.loop-run-preserved
loop-run-preserved g c =
    let inv = c.loop-run.invariant in
    let h = c.loop-run-test.true in
    let n = inv.count in
    let more = c.push.ensures.count in
    let r = inv.room in
    let r' = c.push.ensures.room in
    record {
      index = omega (arith, h);
      count = omega (arith, n, more);
      room = omega (arith, r, r');
      held = λ start L x. added_next g.R.Pair.pair c.args.runs.now (g.S.Sink.holds start c.push.new.self) c.loop-run.run-index c.run-item.result L h c.run-item.is (c.push.ensures.list start _ (inv.held start L x));
    }

pub returns : goal.returns
returns g c =
    let all = take_all c.loop-run.run-index c.args.runs.now (let h = c.loop-run-test.false in omega (arith, h)) in
    λ start L x. subst (λ M. g.S.Sink.holds start c.loop-run.out (L ++ map g.R.Pair.pair M)) all (c.loop-run.invariant.held start L x)

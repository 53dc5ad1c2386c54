use Rattle.std.proofs.Common.{refl, get_or, arith}
use Rattle.ivl_paged.proofs.Bounding.{all_passed, length_bounds, next_part, none_passed, passed_more, total_more, total_part}
use Rattle.ivl_paged.proofs.longests.next_group.Goals as goal

pub loop-group-init : goal.loop-group-init
loop-group-init g c = (refl, none_passed g.N.SizeNumber.size c.args.counts.now c.args.mosts.now c.requires.same c.args.from (g.N.SizeNumber.size c.args.count))

pub overflow_add-end : goal.overflow_add-end
overflow_add-end g c =
    let le = total_part c.args.counts.now c.loop-group.group c.loop-group-test.true in
    let is = c.loop-group.invariant.0 in
    omega (arith, le, is, c.requires.all)

pub returns-then-may_have : goal.returns-then-may_have
returns-then-may_have g c = next_part g.N.SizeNumber.size c.args.counts.now c.args.mosts.now c.requires.same c.args.from (g.N.SizeNumber.size c.args.count) c.loop-group.start c.loop-group.group (get_or c.args.counts.now c.loop-group.group 0) c.max.result c.loop-group-test.true c.loop-group.invariant.0 refl c.max.ensures
    (c.may_have.ensures.on c.if-may_have.true) c.loop-group.invariant.1

pub loop-group-preserved : goal.loop-group-preserved
loop-group-preserved g c =
    let more = total_more c.args.counts.now c.loop-group.group c.loop-group-test.true in
    let is = c.loop-group.invariant.0 in (
      omega (arith, more, is),
      passed_more g.N.SizeNumber.size c.args.counts.now c.args.mosts.now c.requires.same c.args.from (g.N.SizeNumber.size c.args.count) c.loop-group.start c.loop-group.group (get_or c.args.counts.now c.loop-group.group 0) c.index-mosts-group.result c.loop-group-test.true is refl c.index-mosts-group.is c.loop-group.invariant.1
          (c.may_have.ensures.none c.if-may_have.false),
    )

pub returns : goal.returns
returns g c = all_passed g.N.SizeNumber.size c.args.counts.now c.args.mosts.now c.requires.same c.args.from (g.N.SizeNumber.size c.args.count) c.loop-group.start c.loop-group.group c.loop-group-test.false c.loop-group.invariant.0 c.loop-group.invariant.1

pub returns-then-places-from : goal.returns-then-places-from
returns-then-places-from g c k low less =
    let all = length_bounds g.N.SizeNumber.size c.args.counts.now c.args.mosts.now c.requires.same in
    let past = c.if-places-from.true in
    absurd (omega (arith, all, past, low, less, c.requires.all))

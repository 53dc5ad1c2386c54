use Rattle.std.proofs.Common.{ap, arith, length, length-append, subst}
use Rattle.std.proofs.lemmas.Bool.{false≢true}
use Rattle.std.proofs.lemmas.List.{length_push}
use Rattle.ivl_network.specs.Settled.{claimed_flags}
use Rattle.ivl_network.specs.Trail.{ArePresentIn}
use Rattle.ivl_network.proofs.Reverting.{all_past, all_taken, next_past, none_reverted, one_reverted}
use Rattle.ivl_network.proofs.network.trail.revert_to.Goals as goal

pub take_back-requires-clause-present : goal.take_back-requires-clause-present
take_back-requires-clause-present g c =
    let s = c.loop-trail.invariant.0 in
    let n = length_push c.pop.new.self.items c.in-Some.change in
    let l = ap length c.in-Some.ensures.items in
    let t = c.loop-trail-test.true in
    let e = c.len.ensures in
    let a = ap length s.all_are in
    let b = length-append c.loop-trail.trail.items s.rest in
    subst ArePresentIn (next_past c.args.trail.now.items c.loop-trail.trail.items c.pop.new.self.items c.in-Some.change _ _ c.args.start (claimed_flags c.args.wakes c.loop-trail.queue.settled.items) s c.in-Some.ensures.items)
    (c.requires.present (length c.pop.new.self.items) (omega (arith, n, l, t, e)) (omega (arith, n, l, a, b)))

pub returns-clause-trail : goal.returns-clause-trail
returns-clause-trail g c =
    all_taken c.args.trail.now.items c.loop-trail.trail.items _ _ c.args.start (claimed_flags c.args.wakes c.loop-trail.queue.settled.items) c.loop-trail.invariant.0
    (let t = c.loop-trail-test.false in let e = c.len.ensures in omega (arith, t, e))

pub returns-clause-past : goal.returns-clause-past
returns-clause-past g c =
    all_past c.args.trail.now.items c.loop-trail.trail.items _ _ c.args.start (claimed_flags c.args.wakes c.loop-trail.queue.settled.items) c.loop-trail.invariant.0
    (let t = c.loop-trail-test.false in let e = c.len.ensures in omega (arith, t, e))

pub loop-trail-init : goal.loop-trail-init
loop-trail-init g c = (none_reverted c.args.trail.now.items _ c.args.start (claimed_flags c.args.wakes c.args.queue.now.settled.items) c.requires.in_trail c.requires.sound, c.requires.index, c.requires.queue)

pub loop-trail-preserved : goal.loop-trail-preserved
loop-trail-preserved g c = absurd (false≢true (c.in_default.ensures.variant.1 (let t = c.loop-trail-test.true in let e = c.len.ensures in omega (arith, t, e))))

pub loop-trail-preserved-in-Some : goal.loop-trail-preserved-in-Some
loop-trail-preserved-in-Some g c =
    let t = c.loop-trail-test.true in
    let e = c.len.ensures in (
      one_reverted c.args.trail.now.items c.loop-trail.trail.items c.pop.new.self.items c.in-Some.change _ _ _ c.args.start (claimed_flags c.args.wakes c.loop-trail.queue.settled.items) (claimed_flags c.args.wakes c.take_back.new.queue.settled.items)
          c.loop-trail.invariant.0 c.in-Some.ensures.items (omega (arith, t, e)) c.take_back.ensures.past c.take_back.ensures.sound,
      c.take_back.ensures.index,
      c.take_back.ensures.queue,
    )

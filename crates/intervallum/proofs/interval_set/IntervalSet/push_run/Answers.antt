use Rattle.ivl_laws.proofs.Intervals.{within_is_in_range}
use Rattle.ivl_places.proofs.Pushing.{pushed_run}
use Rattle.intervallum.proofs.interval_set.IntervalSet.push_run.Goals as goal

pub grown-size-requires : goal.grown-size-requires
grown-size-requires g c =
    (pushed_run g.B.Width.whole _ c.args.self.now c.args.run _ _ _ c.self.invariant.0 c.self.invariant.1 c.self.view_is c.requires.apart c.requires.filled
    (within_is_in_range g.B.Width.whole c.args.run c.requires.filled c.in_whole.ensures) c.size.ensures.members g.met.B.Width.countable).fits

pub invariant_of-self : goal.invariant_of-self
invariant_of-self g c = rw c.in_err-push.ensures.items c.self.invariant

pub invariant_of-self-2 : goal.invariant_of-self-2
invariant_of-self-2 g c =
    let added = pushed_run g.B.Width.whole _ c.args.self.now c.args.run _ _ _ c.self.invariant.0 c.self.invariant.1 c.self.view_is c.requires.apart c.requires.filled
    (within_is_in_range g.B.Width.whole c.args.run c.requires.filled c.in_whole.ensures) c.size.ensures.members g.met.B.Width.countable in
    rw (c.grown-size.ensures, c.in_ok-push.ensures.items) (added.list, added.counts)

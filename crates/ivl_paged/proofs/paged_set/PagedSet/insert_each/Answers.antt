use Rattle.std.proofs.Common.{List, ℤ, inl, subst, take_all}
use Rattle.ivl_laws.specs.Sets.{HasSome, Intersection, IsBetween, Union}
use Rattle.ivl_laws.specs.Runs.{Covers, IsRunsOf}
use Rattle.ivl_places.specs.Edits.{widened}
use Rattle.ivl_paged.proofs.InPlace.{added_next, all_there, none_added, touching_still}
use Rattle.ivl_paged.proofs.Removing.{on_ok_holds}
use Rattle.ivl_paged.proofs.paged_set.PagedSet.insert_each.Goals as goal

pub loop-interval-init : goal.loop-interval-init
loop-interval-init g c = none_added c.args.self.now c.args.intervals.now c.in_whole.ensures.maximal

pub unwrap-requires : goal.unwrap-requires
unwrap-requires g c =
    c.insert_interval.ensures.in_place
    (touching_still (Covers c.args.self.now) (Covers c.loop-interval.self) c.interval-item.result (λ z s. (c.loop-interval.invariant.members z).1 (inl s))
    (all_there c.args.intervals.now c.loop-interval.interval-index c.interval-item.result c.loop-interval-test.true c.interval-item.is (λ p. HasSome (Intersection (Covers c.args.self.now) (IsBetween (widened p)))) c.requires))

pub loop-interval-preserved : goal.loop-interval-preserved
loop-interval-preserved g c =
    added_next c.args.intervals.now c.loop-interval.interval-index c.interval-item.result c.loop-interval-test.true c.interval-item.is c.loop-interval.self c.insert_interval.new.self (Covers c.args.self.now) c.loop-interval.invariant
    (on_ok_holds (IsRunsOf c.insert_interval.new.self (Union (Covers c.loop-interval.self) (IsBetween c.interval-item.result))) c.insert_interval.result c.unwrap.result c.unwrap.ensures c.insert_interval.ensures.ok)

pub returns : goal.returns
returns g c =
    subst (λ (L : List (ℤ × ℤ)). IsRunsOf c.loop-interval.self (Union (Covers c.args.self.now) (Covers L))) (take_all c.loop-interval.interval-index c.args.intervals.now c.loop-interval-test.false) c.loop-interval.invariant

use Rattle.std.proofs.Common.{◌≡◌, ◌+◌, ◌-◌, arith, drop, subst, sym}
use Rattle.ivl_laws.specs.Sets.{IsBetween, IsSubset, Without}
use Rattle.ivl_laws.specs.Runs.{Covers, IsRunsOf}
use Rattle.ivl_places.specs.Edits.{widened}
use Rattle.ivl_paged.proofs.InPlace.{all_there, cut_still, removed_next}
use Rattle.ivl_paged.proofs.Removing.{on_ok_holds}
use Rattle.ivl_paged.proofs.paged_set.PagedSet.remove_each.Goals as goal

pub unwrap-requires : goal.unwrap-requires
unwrap-requires g c =
    let L = c.args.intervals.now in
    let inv = c.intervals.invariant in
    let some = c.intervals-test.true in
    let most = inv.0 in
    c.remove_interval.ensures.in_place
    (cut_still (Covers c.intervals.self) (Covers c.args.self.now) c.index-intervals-left.result (λ z s. ((inv.1.members z).0 s).0)
    (all_there L (c.intervals.left - 1) c.index-intervals-left.result (omega (arith, some, most)) c.index-intervals-left.is (λ p. ¬ (IsSubset (IsBetween (widened p)) (Covers c.args.self.now))) c.requires))

pub intervals-preserved : goal.intervals-preserved
intervals-preserved g c =
    let L = c.args.intervals.now in
    let inv = c.intervals.invariant in
    let some = c.intervals-test.true in
    let most = inv.0 in
    let same : c.intervals.left - 1 + 1 ≡ c.intervals.left = omega (arith, some) in (
      omega (arith, most),
      removed_next L (c.intervals.left - 1) c.index-intervals-left.result (omega (arith, some, most)) c.index-intervals-left.is c.intervals.self c.remove_interval.new.self (Covers c.args.self.now)
          (subst (λ n. IsRunsOf c.intervals.self (Without (Covers c.args.self.now) (Covers (drop n L)))) (sym same) inv.1)
          (on_ok_holds (IsRunsOf c.remove_interval.new.self (Without (Covers c.intervals.self) (IsBetween c.index-intervals-left.result))) c.remove_interval.result c.unwrap.result c.unwrap.ensures c.remove_interval.ensures.ok),
    )

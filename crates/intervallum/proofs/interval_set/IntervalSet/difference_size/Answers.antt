use Rattle.ivl_laws.specs.Runs.{Covers}
use Rattle.ivl_laws.proofs.Lengths.{decide_covers}
use Rattle.ivl_places.proofs.SetSizes.{common_at_most, without_count}
use Rattle.intervallum.proofs.interval_set.IntervalSet.difference_size.Goals as goal

pub unwrap-requires : goal.unwrap-requires
unwrap-requires g c = c.checked_sub.ensures.known.1 (common_at_most (Covers c.args.self.now) (Covers c.args.other.now) _ _ c.size.ensures c.intersection_size-shared.ensures)

pub returns : goal.returns
returns g c =
    without_count (Covers c.args.self.now) (Covers c.args.other.now) _ _ _ (decide_covers c.args.other.now) c.size.ensures c.intersection_size-shared.ensures
    (rw c.unwrap.ensures at c.checked_sub.ensures.same_number)

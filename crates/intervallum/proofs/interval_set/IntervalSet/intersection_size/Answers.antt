use Rattle.ivl_laws.specs.Sets.{Intersection}
use Rattle.ivl_laws.specs.Runs.{Covers}
use Rattle.ivl_laws.proofs.Counts.{IsCountOf-same}
use Rattle.intervallum.proofs.interval_set.IntervalSet.intersection_size.Goals as goal

-- the few are the second set
pub returns-then-is_far_shorter-2 : goal.returns-then-is_far_shorter-2
returns-then-is_far_shorter-2 g c =
    IsCountOf-same (Intersection (Covers c.args.other.now) (Covers c.args.self.now)) (Intersection (Covers c.args.self.now) (Covers c.args.other.now)) _
    (λ z. ((λ i. (i.1, i.0)), (λ i. (i.1, i.0)))) c.common_size_with_few-then-is_far_shorter-2.ensures.members

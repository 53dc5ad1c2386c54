use Rattle.std.proofs.Common.{◌≡◌, ◌-◌, length}
use Rattle.ivl_paged.specs.Longests.{bounds_of}
use Rattle.ivl_paged.proofs.longests.remove_empty.Given as goal

-- the groups stay as many as their numbers, and so does what they say
abbrev pub invariant-groups : goal.invariant-groups
invariant-groups g l = (length l.counts.items ≡ length l.mosts.items) × (bounds_of g.N.SizeNumber.size l.counts.items l.mosts.items ≡ bounds_of g.N.SizeNumber.size l.fn.counts.items l.fn.mosts.items)

abbrev pub decreases-groups : goal.decreases-groups
decreases-groups g l = length l.counts.items - l.group

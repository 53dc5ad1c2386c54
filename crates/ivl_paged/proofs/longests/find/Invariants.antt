use Rattle.std.proofs.Common.{◌≡◌, ◌+◌, ◌-◌, length, take}
use Rattle.ivl_paged.specs.Longests.{place_count}
use Rattle.ivl_paged.proofs.longests.find.Given as goal

-- the places before the group, and those of it before the place
abbrev pub invariant-groups : goal.invariant-groups
invariant-groups l = l.fn.i ≡ place_count (take l.group l.counts) + l.left

abbrev pub decreases-groups : goal.decreases-groups
decreases-groups l = length l.counts - l.group

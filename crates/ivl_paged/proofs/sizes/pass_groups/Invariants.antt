use Rattle.std.proofs.Common.{◌≡◌, ◌+◌, ◌-◌, ◌*◌, ◌/◌, ◌%◌, ◌^◌, ◌≤◌, length, take}
use Rattle.ivl_paged.specs.Sizes.{member_total}
use Rattle.ivl_paged.proofs.sizes.pass_groups.Given as goal

-- the members of the groups so far are counted, and those behind page `from` are passed
abbrev pub invariant-groups : goal.invariant-groups
invariant-groups g l =
    (l.reached ≡ member_total (take (64 * l.group) l.pages) % 2 ^ 128)
    × (l.from / 64 ≤ l.group)
    × (l.from ≤ l.place)
    × (l.place ≤ length l.pages)
    × (member_total (take l.place l.pages) + l.left ≡ member_total (take l.from l.pages) + l.count)

abbrev pub decreases-groups : goal.decreases-groups
decreases-groups g l = length l.sizes - l.group

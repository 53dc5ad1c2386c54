use Rattle.std.proofs.Common.{◌≡◌, ◌*◌, ◌%◌, ◌^◌, take}
use Rattle.ivl_paged.specs.Sizes.{member_total}
use Rattle.ivl_paged.proofs.sizes.total_to.Given as goal

-- the members of the groups so far are counted
abbrev pub invariant-loop-group : goal.invariant-loop-group
invariant-loop-group g l = l.total ≡ member_total (take (64 * l.group) l.pages) % 2 ^ 128

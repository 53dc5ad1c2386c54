use Rattle.std.proofs.Common.{◌≡◌, ◌%◌, ◌^◌, take}
use Rattle.ivl_paged.specs.Sizes.{member_total}
use Rattle.ivl_paged.proofs.sizes.total_of.Given as goal

-- the members of the pages so far are counted
abbrev pub invariant-loop-page : goal.invariant-loop-page
invariant-loop-page g l = l.total ≡ member_total (take l.page-index l.pages) % 2 ^ 128

use Rattle.std.proofs.Common.{◌≡◌, take}
use Rattle.ivl_paged.specs.Longests.{place_count}
use Rattle.ivl_paged.proofs.Bounding.{Passed}
use Rattle.ivl_paged.proofs.longests.next_group.Given as goal

-- the places of the groups so far are passed
abbrev pub invariant-loop-group : goal.invariant-loop-group
invariant-loop-group g l = (l.start ≡ place_count (take l.group l.counts)) × Passed g.N.SizeNumber.size l.counts l.mosts l.from (g.N.SizeNumber.size l.count) l.start

use Rattle.std.proofs.Common.{◌≡◌, ◌-◌, ◌^◌, ◌+◌, length, min, take}
use Rattle.ivl_laws.specs.Bounds.{width_of}
use Rattle.ivl_places.specs.Members.{members_of}
use Rattle.intervallum.proofs.interval_set.members.count_of.Given as goal

abbrev pub invariant-loop-run : goal.invariant-loop-run
invariant-loop-run g l = l.count ≡ min ((width_of l.first + width_of l.last) + length (members_of (take l.run-index l.between))) (2 ^ 128 - 1)

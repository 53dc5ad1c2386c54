use Rattle.std.proofs.Common.{◌-◌, ◌+◌, length}
use Rattle.ivl_laws.specs.Runs.{Covers}
use Rattle.ivl_within.specs.Moved.{image_by, image_count}
use Rattle.ivl_within.specs.Within.{SumsBy}
use Rattle.ivl_within.proofs.Moved.{IsCommonAdded}
use Rattle.ivl_within.proofs.within.moved.push_common.Given as goal

abbrev pub invariant-walk : goal.invariant-walk
invariant-walk g l = IsCommonAdded (image_by l.op l.a l.b) (image_count l.a l.b) (SumsBy l.op (Covers l.a) (Covers l.b)) l.runs l.fn.entries.items l.entries.items l.next l.place

abbrev pub decreases-walk : goal.decreases-walk
decreases-walk g l = (length l.runs - l.next) + (l.count - l.place)

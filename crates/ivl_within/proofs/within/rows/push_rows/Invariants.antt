use Rattle.std.proofs.Common.{take}
use Rattle.ivl_laws.specs.Sets.{SameMembers, Union}
use Rattle.ivl_laws.specs.Runs.{Covers}
use Rattle.ivl_laws.specs.Arithmetic.{pairwise}
use Rattle.ivl_within.specs.Within.{Clipped, pair_by}
use Rattle.ivl_within.proofs.within.rows.push_rows.Given as goal

abbrev pub invariant-loop-run : goal.invariant-loop-run
invariant-loop-run g l = SameMembers (Covers l.entries.items) (Union (Covers l.fn.entries.items) (Clipped l.window (Covers (pairwise (pair_by l.op) (take l.run-index l.left) l.right))))

use Rattle.std.proofs.Common.{arith}
use Rattle.std.proofs.lemmas.Int.{ints}
use Rattle.std.proofs.lemmas.Result.{IfOk-weaker}
use Rattle.ivl_laws.specs.Runs.{Covers}
use Rattle.ivl_ranges.proofs.Windows.{safe_is}
use Rattle.ivl_ranges.proofs.access.safe_indexes.Goals as goal

pub returns : goal.returns
returns c = IfOk-weaker c.intersection.result _ _
    (λ L r. safe_is (Covers c.args.index.now) (Covers c.args.offset.now) c.args.length c.window-window.result L (λ x s. c.window-window.ensures x (let b = c.in_whole.ensures.within x s in omega (arith, ints, b.1))) r)
    c.intersection.ensures.members

use Rattle.std.proofs.lemmas.Result.{IfOk-weaker}
use Rattle.ivl_buffers.proofs.SumLists.{added_same}
use Rattle.ivl_buffers.proofs.sums.added.Goals as goal

pub returns : goal.returns
returns g c =
    IfOk-weaker c.combined.result _ _ (λ N n. added_same g.R.Bound.Width.whole c.args.adding _ _ c.in_ok-left.left c.in_ok-right.right N c.in_ok-left.ensures c.in_ok-right.ensures n) c.combined.ensures

use Rattle.std.proofs.lemmas.Result.{IfOk-weaker}
use Rattle.ivl_buffers.proofs.ProductLists.{multiplied_same}
use Rattle.ivl_buffers.proofs.products.multiplied.Goals as goal

pub returns : goal.returns
returns g c =
    IfOk-weaker c.product.result _ _ (λ o h. multiplied_same g.R.Bound.Width.whole _ _ c.in_ok-left.left c.in_ok-right.right o c.in_ok-left.ensures c.in_ok-right.ensures h) c.product.ensures

use Rattle.std.proofs.Common.{ℤ, ◌<ℤ◌, ◌↔◌, IsTrue, subst}
use Rattle.ivl_laws.proofs.Orders.{lt_number}
use Rattle.ivl_buffers.proofs.reading.is_crossed.Goals as goal

pub returns : goal.returns
returns g c =
    let P : ℤ → Type 0 = λ x. IsTrue c.lt.result ↔ (x <ℤ g.R.Bound.Width.value c.lower.result) in
    let Q : ℤ → Type 0 = λ x. IsTrue c.lt.result ↔ ((g.R.Pair.pair c.args.run).1 <ℤ x) in
    subst Q c.lower.ensures (subst P c.upper.ensures (lt_number g.met.R.Bound.Width.ordered _ _ _ c.lt.ensures))

use Rattle.std.proofs.Common.{◌↔◌, IsTrue, map, sym, subst}
use Rattle.ivl_laws.specs.Runs.{Covers}
use Rattle.ivl_buffers.specs.Operations.{HoldsOf}
use Rattle.ivl_buffers.proofs.comparisons.holds.Goals as goal

pub returns-in-Within : goal.returns-in-Within
returns-in-Within g c =
    subst (λ asking. IsTrue c.is_within.result ↔ HoldsOf asking (Covers (map g.R.Pair.pair c.args.a.now)) (Covers (map g.R.Pair.pair c.args.b.now))) (sym c.in-Within.is) c.is_within.ensures

pub returns-then-is_within : goal.returns-then-is_within
returns-then-is_within g c =
    let there = c.is_within-in-Alike.ensures.0 c.if-is_within.true in
    let back = c.is_within-then-is_within.ensures in
    subst (λ asking. IsTrue c.is_within-then-is_within.result ↔ HoldsOf asking (Covers (map g.R.Pair.pair c.args.a.now)) (Covers (map g.R.Pair.pair c.args.b.now))) (sym c.in-Alike.is) (
      (λ t z. (there z, back.0 t z)),
      (λ h. back.1 (λ z b. (h z).1 b)),
    )

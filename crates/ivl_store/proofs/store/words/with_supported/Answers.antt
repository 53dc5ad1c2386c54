use Rattle.std.proofs.Common.{inl, inr}
use Rattle.ivl_store.proofs.Words.{met_at_x, met_at_y, met_at_z}
use Rattle.ivl_store.proofs.store.words.with_supported.Goals as goal
use Rattle.ivl_store.proofs.store.words.with_supported.Goals.{then-met-eq0, else-met-eq0}

pub returns-clause-at_x : goal.returns-clause-at_x
returns-clause-at_x c = λ p.
    met_at_x c.args.y c.args.z c.args.place c.ranges.y.fits c.ranges.z.fits c.requires c.args.kept.x c.if-met-eq0.one p
    (elim c.if-met-eq0.branch [
      | then-met-eq0 w ↦ inl (w.if-met-eq0.true, w.one-is)
      | else-met-eq0 w ↦ inr (w.if-met-eq0.false, w.one-is)
    ])

pub returns-clause-at_y : goal.returns-clause-at_y
returns-clause-at_y c = λ q. met_at_y c.args.y c.args.z c.args.place c.ranges.y.fits c.ranges.z.fits c.requires c.args.kept.y q

pub returns-clause-at_z : goal.returns-clause-at_z
returns-clause-at_z c = λ r. met_at_z c.args.y c.args.z c.args.place c.ranges.y.fits c.ranges.z.fits c.requires c.args.kept.z r

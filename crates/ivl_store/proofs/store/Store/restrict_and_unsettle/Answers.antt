use Rattle.ivl_store.proofs.Settled.{settled_cut}
use Rattle.ivl_store.proofs.store.Store.restrict_and_unsettle.Goals as goal

pub returns-clause-settled : goal.returns-clause-settled
returns-clause-settled g c =
    let cut = c.in_ok-lost.ensures.cut in
    settled_cut c.args.constraints.now c.args.settled.now.items c.unsettle.new.settled.items c.args.i c.in_ok-lost.lost c.args.self.now c.restrict.new.self
    c.requires.settled c.unsettle.ensures c.in_ok-lost.ensures.lost
    (λ j v h. ((cut j v).0 h).0)
    (λ j v ne was. (cut j v).1 (was, λ e. absurd (ne e)))

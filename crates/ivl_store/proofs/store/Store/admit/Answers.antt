use Rattle.ivl_store.proofs.Settled.{settled_push}
use Rattle.ivl_store.proofs.store.Store.admit.Goals as goal

pub returns-in_ok-push-in-Require-2-clause-settled : goal.returns-in_ok-push-in-Require-2-clause-settled
returns-in_ok-push-in-Require-2-clause-settled g c =
    settled_push c.args.constraints.now.items c.push.new.self.items c.args.settled.now.items c.push-in-Require.new.self.items _ _
    c.in_ok-push-in-Require.ensures.items c.in_ok-push-in-Require-2.ensures.items c.requires.settled

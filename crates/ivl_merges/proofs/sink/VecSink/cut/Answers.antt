use Rattle.std.proofs.Common.{arith}
use Rattle.ivl_walks.proofs.Places.{vec_cut}
use Rattle.ivl_merges.proofs.sink.VecSink.cut.Goals as goal

pub returns-clause-list : goal.returns-clause-list
returns-clause-list g c = λ start L h e.
    (vec_cut g.R.Pair.pair c.args.self.now.items c.truncate.new.self.items c.args.kept L c.truncate.ensures.items h.0 e, omega (arith, h.1, e, c.truncate.ensures.len))

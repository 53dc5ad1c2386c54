use Rattle.std.proofs.Common.{◌≡◌, ◌-◌, length, arith}
use Rattle.std.specs.Int.{from_bool}
use Rattle.ivl_walks.proofs.Places.{vec_over}
use Rattle.ivl_merges.proofs.sink.VecSink.push_over.Goals as goal

pub returns-clause-list : goal.returns-clause-list
returns-clause-list g c = λ start L h.
    let at : c.len.result - c.from.result ≡ length c.args.self.now.items - from_bool c.args.is_over = omega (arith, c.args.self.now.ok.0, c.len.ensures, c.from.ensures) in
    vec_over g.R.Pair.pair c.args.self.now.items c.truncate.new.self.items c.push_reserved.new.self.items (c.len.result - c.from.result) c.args.run c.push_reserved.ensures.items c.truncate.ensures.items c.args.is_over L at h

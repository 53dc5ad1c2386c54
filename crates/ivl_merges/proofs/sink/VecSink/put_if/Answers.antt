use Rattle.std.proofs.Common.{◌≡◌, length, arith}
use Rattle.std.specs.Vec.{vec_len}
use Rattle.ivl_walks.proofs.Places.{vec_put}
use Rattle.ivl_merges.proofs.sink.VecSink.put_if.Goals as goal

pub returns-clause-list : goal.returns-clause-list
returns-clause-list g c = λ start L h a b e.
    let n : vec_len c.push_reserved.new.self ≡ length c.push_reserved.new.self.items = omega (arith, c.push_reserved.new.self.ok.0) in
    vec_put g.R.Pair.pair c.args.self.now.items c.truncate.new.self.items c.push_reserved.new.self.items c.args.place c.args.run c.push_reserved.ensures.items c.truncate.ensures.items c.args._is_filled L
    (vec_len c.push_reserved.new.self) n h.0 a e

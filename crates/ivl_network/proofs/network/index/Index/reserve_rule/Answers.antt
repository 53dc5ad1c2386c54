use Rattle.std.proofs.Common.{refl}
use Rattle.ivl_network.proofs.Indexes.{known_same, of_both, same_index}
use Rattle.ivl_network.proofs.network.index.Index.reserve_rule.Goals as goal

pub returns-clause-same : goal.returns-clause-same
returns-clause-same c = λ count cs s.
    same_index count cs c.args.self.now (record c.args.self.now { links = c.reserve.new.self; leaves = c.reserve-2.new.self; hashes = c.reserve-3.new.self }) (of_both (λ t. _) refl refl)
    c.in_ok-reserve.ensures.items (known_same cs c.args.self.now.hashes c.reserve-3.new.self c.reserve-3.ensures.lists c.reserve-3.ensures.same) s

pub returns-in_err-reserve-clause-same : goal.returns-in_err-reserve-clause-same
returns-in_err-reserve-clause-same c = λ count cs s.
    same_index count cs c.args.self.now (record c.args.self.now { links = c.reserve.new.self }) (of_both (λ t. _) refl refl) c.in_err-reserve.ensures.items (λ k. k) s

pub returns-in_err-reserve-2-clause-same : goal.returns-in_err-reserve-2-clause-same
returns-in_err-reserve-2-clause-same c = λ count cs s.
    same_index count cs c.args.self.now (record c.args.self.now { links = c.reserve.new.self; leaves = c.reserve-2.new.self }) (of_both (λ t. _) refl refl) c.in_ok-reserve.ensures.items (λ k. k) s

pub returns-in_err-reserve-3-clause-same : goal.returns-in_err-reserve-3-clause-same
returns-in_err-reserve-3-clause-same c = λ count cs s.
    same_index count cs c.args.self.now (record c.args.self.now { links = c.reserve.new.self; leaves = c.reserve-2.new.self; hashes = c.reserve-3.new.self }) (of_both (λ t. _) refl refl)
    c.in_ok-reserve.ensures.items (known_same cs c.args.self.now.hashes c.reserve-3.new.self c.reserve-3.ensures.lists c.reserve-3.ensures.same) s

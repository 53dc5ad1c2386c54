use Rattle.std.proofs.Common.{◌≡◌}
use Rattle.ivl_network.specs.Queue.{lasts_of}
use Rattle.ivl_network.specs.declared.network.index.Index.{Index}
use Rattle.ivl_network.proofs.Indexes.{known_same, of_both, same_index}
use Rattle.ivl_network.proofs.network.index.Index.reserve.Goals as goal

pub returns : goal.returns
returns c =
    let old = c.args.self.now in
    let new : Index = record { lasts = c.reserve.new.self; single_lasts = c.reserve-2.new.self; links = c.reserve-3.new.self; leaves = c.reserve-4.new.self; hashes = c.reserve-5.new.self } in
    record {
      same = (λ count cs s. same_index count cs old new (of_both (λ t. lasts_of t new ≡ lasts_of t old) c.reserve-2.ensures.items c.reserve.ensures.items) c.reserve-3.ensures.items
          (known_same cs old.hashes c.reserve-5.new.self c.reserve-5.ensures.lists c.reserve-5.ensures.same) s);
    }

pub returns-in_err-reserve-3 : goal.returns-in_err-reserve-3
returns-in_err-reserve-3 c =
    let old = c.args.self.now in
    let new : Index = record old { lasts = c.reserve.new.self; single_lasts = c.reserve-2.new.self; links = c.reserve-3.new.self } in
    record {
      same = (λ count cs s. same_index count cs old new (of_both (λ t. lasts_of t new ≡ lasts_of t old) c.reserve-2.ensures.items c.reserve.ensures.items) c.reserve-3.ensures.items (λ k. k) s);
    }

pub returns-in_err-reserve-4 : goal.returns-in_err-reserve-4
returns-in_err-reserve-4 c =
    let old = c.args.self.now in
    let new : Index = record old { lasts = c.reserve.new.self; single_lasts = c.reserve-2.new.self; links = c.reserve-3.new.self; leaves = c.reserve-4.new.self } in
    record {
      same = (λ count cs s. same_index count cs old new (of_both (λ t. lasts_of t new ≡ lasts_of t old) c.reserve-2.ensures.items c.reserve.ensures.items) c.reserve-3.ensures.items (λ k. k) s);
    }

pub returns-in_err-reserve-5 : goal.returns-in_err-reserve-5
returns-in_err-reserve-5 c =
    let old = c.args.self.now in
    let new : Index = record { lasts = c.reserve.new.self; single_lasts = c.reserve-2.new.self; links = c.reserve-3.new.self; leaves = c.reserve-4.new.self; hashes = c.reserve-5.new.self } in
    record {
      same = (λ count cs s. same_index count cs old new (of_both (λ t. lasts_of t new ≡ lasts_of t old) c.reserve-2.ensures.items c.reserve.ensures.items) c.reserve-3.ensures.items
          (known_same cs old.hashes c.reserve-5.new.self c.reserve-5.ensures.lists c.reserve-5.ensures.same) s);
    }

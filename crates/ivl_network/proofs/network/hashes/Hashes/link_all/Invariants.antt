use Rattle.std.proofs.Common.{◌≡◌, length}
use Rattle.std.specs.Vec.{vec_capacity}
use Rattle.ivl_network.specs.Hashes.{AreInBuckets}
use Rattle.ivl_network.proofs.network.hashes.Hashes.link_all.Given as goal

abbrev pub invariant-loop-k : goal.invariant-loop-k
invariant-loop-k l = AreInBuckets l.k l.self.hashes.items l.self.links.items l.self.lasts.items × (l.self.hashes ≡ l.fn.self.hashes) × (vec_capacity l.self.links ≡ vec_capacity l.fn.self.links)
    × (length l.self.lasts.items ≡ length l.fn.self.lasts.items)

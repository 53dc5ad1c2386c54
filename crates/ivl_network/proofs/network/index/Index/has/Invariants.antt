use Rattle.std.proofs.Common.{length}
use Rattle.ivl_network.proofs.Finding.{IsNoneFrom}
use Rattle.ivl_network.proofs.network.index.Index.has.Given as goal

abbrev pub invariant-loop-place : goal.invariant-loop-place
invariant-loop-place l = IsNoneFrom l.rules l.self.hashes.hashes.items (length l.self.hashes.lasts.items) l.rule l.place

abbrev pub decreases-loop-place : goal.decreases-loop-place
decreases-loop-place l = l.place

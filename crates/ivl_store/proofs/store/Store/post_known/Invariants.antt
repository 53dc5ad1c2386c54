use Rattle.std.proofs.Common.{◌≡◌, ◌≤◌, length}
use Rattle.std.specs.Vec.{vec_len, vec_capacity}
use Rattle.ivl_laws.specs.Families.{set_at}
use Rattle.ivl_store.specs.Settled.{AreSettled}
use Rattle.ivl_store.proofs.Posting.{PostedSoFar}
use Rattle.ivl_store.proofs.store.Store.post_known.Given as goal

abbrev pub invariant-loop-post : goal.invariant-loop-post
invariant-loop-post g l =
    PostedSoFar l.posts l.fn.self l.self l.constraints.items l.replies.items l.post-index
    × AreSettled l.constraints.items l.settled.items (set_at l.self)
    × (vec_len l.replies ≡ l.post-index)
    × (length l.posts ≤ vec_capacity l.replies)

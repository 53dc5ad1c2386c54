use Rattle.std.proofs.Common.{◌≡◌, drop}
use Rattle.ivl_store.specs.Posts.{first_unknown_post}
use Rattle.ivl_store.proofs.store.post.first_unknown_post.Given as goal

abbrev pub invariant-loop-post : goal.invariant-loop-post
invariant-loop-post g l = first_unknown_post l.count l.posts ≡ first_unknown_post l.count (drop l.post-index l.posts)

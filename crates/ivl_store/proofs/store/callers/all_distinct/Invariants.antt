use Rattle.std.proofs.Common.{take}
use Rattle.std.specs.Prelude.{All}
use Rattle.ivl_store.specs.Solutions.{AreDistinct}
use Rattle.ivl_store.specs.Posts.{OfConstraint}
use Rattle.ivl_store.proofs.store.callers.all_distinct.Given as goal

abbrev pub invariant-loop-post : goal.invariant-loop-post
invariant-loop-post g l = All (OfConstraint AreDistinct) (take l.post-index l.posts)

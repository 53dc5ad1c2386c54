use Rattle.std.proofs.Common.{◌≡◌, take}
use Rattle.std.specs.Prelude.{All}
use Rattle.ivl_laws.specs.Runs.{IsRunListIn}
use Rattle.ivl_store.specs.Posts.{empty_count}
use Rattle.ivl_store.proofs.store.Store.new.Given as goal

abbrev pub invariant-loop-domain : goal.invariant-loop-domain
invariant-loop-domain g l = All (IsRunListIn g.B.Width.whole) (take l.domain-index l.domain-items) × (l.empties ≡ empty_count (take l.domain-index l.domain-items))

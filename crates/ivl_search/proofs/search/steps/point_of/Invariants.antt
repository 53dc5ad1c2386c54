use Rattle.std.proofs.Common.{◌≡◌, ◌<◌, ℕ, length, map}
use Rattle.ivl_laws.specs.Families.{set_at}
use Rattle.ivl_laws.specs.Sets.{Only, SameMembers}
use Rattle.ivl_search.specs.Points.{coordinate}
use Rattle.ivl_search.proofs.search.steps.point_of.Given as goal

abbrev pub invariant-loop-domain : goal.invariant-loop-domain
invariant-loop-domain g l = (length l.point.items ≡ l.domain-index) × ((i : ℕ) → i < l.domain-index → SameMembers (set_at l.domains i) (Only (coordinate (map g.B.Width.value l.point.items) i)))

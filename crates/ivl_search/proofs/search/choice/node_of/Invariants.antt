use Rattle.std.proofs.Common.{◌≡◌, ◌<◌, ℕ, length}
use Rattle.std.specs.Prelude.{ℤ, IfSome, None}
use Rattle.ivl_laws.specs.Families.{set_at}
use Rattle.ivl_laws.specs.Sets.{HasSome, Only, SameMembers}
use Rattle.ivl_network.specs.Settled.{HasTwo}
use Rattle.ivl_search.proofs.search.choice.node_of.Given as goal

abbrev pub invariant-loop-i : goal.invariant-loop-i
invariant-loop-i g l = record {
  filled : (i : ℕ) → i < l.i → HasSome (set_at l.domains i);
  known : IfSome l.best (λ j. (j < length l.domains) × HasTwo (set_at l.domains j));
  single : l.best ≡ None → (i : ℕ) → i < l.i → (x : ℤ) × SameMembers (set_at l.domains i) (Only x);
}

-- When two intervals have the same numbers.
use Rattle.std.proofs.Common.{ℤ}
use Rattle.ivl_laws.specs.Sets.{IsBetween, SameMembers}

-- each has the members of one set
pub same_by_set : (S : ℤ → Type 0) (p q : ℤ × ℤ) → SameMembers (IsBetween p) S → SameMembers (IsBetween q) S → SameMembers (IsBetween p) (IsBetween q)
same_by_set S p q h k z = ((λ m. (k z).1 ((h z).0 m)), (λ m. (h z).1 ((k z).0 m)))

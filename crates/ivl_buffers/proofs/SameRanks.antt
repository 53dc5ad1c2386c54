-- Members by the number of members below them, where two sets have the same members.
use Rattle.std.proofs.Common.{◌≤◌, ℕ, ℤ, Option, None, Some}
use Rattle.std.specs.Prelude.{MatchOption}
use Rattle.ivl_laws.specs.Counts.{IsCountOf}
use Rattle.ivl_laws.specs.Sets.{Below, SameMembers}
use Rattle.ivl_laws.proofs.Counts.{IsCountOf-same}
use Rattle.ivl_laws.proofs.SetLaws.{same_members_sym}

pub same_nth : {X : Type 0} (S T : ℤ → Type 0) (i : ℕ) (value : X → ℤ) (found : Option X) → SameMembers S T
    → MatchOption found ((n : ℕ) → IsCountOf n S → n ≤ i) (λ x. S (value x) × IsCountOf i (Below (value x) S))
    → MatchOption found ((n : ℕ) → IsCountOf n T → n ≤ i) (λ x. T (value x) × IsCountOf i (Below (value x) T))
same_nth S T i value None same most = λ n count. most n (IsCountOf-same T S n (same_members_sym S T same) count)
same_nth S T i value (Some x) same h = (
  (same (value x)).0 h.0,
  IsCountOf-same (Below (value x) S) (Below (value x) T) i (λ z. ((λ b. ((same z).0 b.0, b.1)), (λ b. ((same z).1 b.0, b.1)))) h.1,
)

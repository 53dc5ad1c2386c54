-- The runs of a set with the numbers of a pair, or without them.
use Rattle.std.proofs.Common.{ℤ, List, ⊎_elim, inl, inr}
use Rattle.ivl_laws.specs.Sets.{IsBetween, SameMembers, Union, Without}
use Rattle.ivl_laws.specs.Runs.{IsRunsOf}
use Rattle.ivl_laws.proofs.SetLaws.{IsRunsOf-same}

-- the interval has the numbers of the pair
pub with_pair : (M : List (ℤ × ℤ)) (S : ℤ → Type 0) (p q : ℤ × ℤ) → SameMembers (IsBetween q) (IsBetween p) → IsRunsOf M (Union S (IsBetween q)) → IsRunsOf M (Union S (IsBetween p))
with_pair M S p q same = IsRunsOf-same (Union S (IsBetween q)) (Union S (IsBetween p)) M (λ z. (⊎_elim (λ s. inl s) (λ b. inr ((same z).0 b)), ⊎_elim (λ s. inl s) (λ b. inr ((same z).1 b))))

pub without_pair : (M : List (ℤ × ℤ)) (S : ℤ → Type 0) (p q : ℤ × ℤ) → SameMembers (IsBetween q) (IsBetween p) → IsRunsOf M (Without S (IsBetween q)) → IsRunsOf M (Without S (IsBetween p))
without_pair M S p q same = IsRunsOf-same (Without S (IsBetween q)) (Without S (IsBetween p)) M (λ z. ((λ h. (h.0, λ b. h.1 ((same z).1 b))), (λ h. (h.0, λ b. h.1 ((same z).0 b)))))

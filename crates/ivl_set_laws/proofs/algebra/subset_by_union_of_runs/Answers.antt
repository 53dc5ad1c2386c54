use Rattle.std.proofs.Common.{inl, inr, ⊎_elim, subst}
use Rattle.ivl_laws.specs.Runs.{Covers}
use Rattle.ivl_laws.proofs.Runs.{runs_are_unique}
use Rattle.ivl_set_laws.proofs.algebra.subset_by_union_of_runs.Goals as goal

pub returns : goal.returns
returns c = λ L M R maximal runs. (
  (λ within. runs_are_unique R M runs.maximal maximal (λ z. ((λ r. ⊎_elim (within z) (λ m. m) ((runs.members z).0 r)), (λ m. (runs.members z).1 (inr m))))),
  (λ same z l. subst (λ N. Covers N z) same ((runs.members z).1 (inl l))),
)

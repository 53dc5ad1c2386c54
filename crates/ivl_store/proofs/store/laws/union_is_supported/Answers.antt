use Rattle.std.proofs.Common.{◌⊎◌}
use Rattle.ivl_laws.specs.Families.{set_at}
use Rattle.ivl_store.proofs.Families.{union_supported, supported_same}
use Rattle.ivl_store.proofs.store.laws.union_is_supported.Goals as goal

pub returns : goal.returns
returns c = λ constraints both first second is_union s t.
    supported_same constraints (λ i v. set_at first i v ⊎ set_at second i v) (set_at both) is_union (union_supported constraints (set_at first) (set_at second) s t)

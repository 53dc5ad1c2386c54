-- The sums and differences of sets with the same members are the same.
use Rattle.std.proofs.Common.{ℤ, List}
use Rattle.ivl_laws.specs.Sets.{SameMembers}
use Rattle.ivl_laws.specs.Runs.{Covers, IsRunsOf}
use Rattle.ivl_laws.proofs.SetLaws.{IsRunsOf-same, same_members_sym}
use Rattle.ivl_buffers.specs.declared.sums.Adding.{Adding}
use Rattle.ivl_buffers.specs.declared.sums.Adding.TheVariants.{Sum, Difference}
use Rattle.ivl_buffers.specs.Sums.{AddedBy}

goes : (whole : ℤ × ℤ) (adding : Adding) (S S' T T' : ℤ → Type 0) → SameMembers S S' → SameMembers T T' → (z : ℤ) → AddedBy whole adding S T z → AddedBy whole adding S' T' z
goes whole Sum S S' T T' h k z ((x, y, s, t, e), i) = ((x, y, (h x).0 s, (k y).0 t, e), i)
goes whole Difference S S' T T' h k z ((x, y, s, t, e), i) = ((x, y, (h x).0 s, (k y).0 t, e), i)

pub added_same : (whole : ℤ × ℤ) (adding : Adding) (A B : ℤ → Type 0) (L M N : List (ℤ × ℤ)) → IsRunsOf L A → IsRunsOf M B →
    IsRunsOf N (AddedBy whole adding (Covers L) (Covers M)) → IsRunsOf N (AddedBy whole adding A B)
added_same whole adding A B L M N l m n =
    let same : SameMembers (AddedBy whole adding (Covers L) (Covers M)) (AddedBy whole adding A B) = λ z. (
      goes whole adding (Covers L) A (Covers M) B l.members m.members z,
      goes whole adding A (Covers L) B (Covers M) (same_members_sym (Covers L) A l.members) (same_members_sym (Covers M) B m.members) z,
    ) in
    IsRunsOf-same (AddedBy whole adding (Covers L) (Covers M)) (AddedBy whole adding A B) N same n

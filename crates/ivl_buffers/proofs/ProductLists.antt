-- The products of sets with the same members are the same.
use Rattle.std.proofs.Common.{ℤ, List}
use Rattle.std.specs.Prelude.{Option, Some, None}
use Rattle.ivl_laws.specs.Sets.{ExactProducts, InOneRun, IsSubset, Products, SameMembers}
use Rattle.ivl_laws.specs.Runs.{Covers, IsRunsOf}
use Rattle.ivl_laws.proofs.SetLaws.{IsRunsOf-same, same_members_sym}
use Rattle.ivl_buffers.specs.Products.{Multiplies}

exactly : (S S' T T' : ℤ → Type 0) → SameMembers S S' → SameMembers T T' → IsSubset (ExactProducts S T) (ExactProducts S' T')
exactly S S' T T' h k z (x, y, s, t, e) = (x, y, (h x).0 s, (k y).0 t, e)

one_run : (S S' : ℤ → Type 0) (x y : ℤ) → SameMembers S S' → InOneRun S x y → InOneRun S' x y
one_run S S' x y h r z b = (h z).0 (r z b)

goes : (S S' T T' : ℤ → Type 0) → SameMembers S S' → SameMembers T T' → IsSubset (Products S T) (Products S' T')
goes S S' T T' h k z (x, x', y, y', s, t, l, u) = (x, x', y, y', one_run S S' x x' h s, one_run T T' y y' k t, l, u)

same_products : (S S' T T' : ℤ → Type 0) → SameMembers S S' → SameMembers T T' → SameMembers (Products S T) (Products S' T')
same_products S S' T T' h k z = (goes S S' T T' h k z, goes S' S T' T (same_members_sym S S' h) (same_members_sym T T' k) z)

multiplies : (whole : ℤ × ℤ) (S S' T T' : ℤ → Type 0) (o : Option (List (ℤ × ℤ))) → SameMembers S S' → SameMembers T T' → Multiplies whole S T o → Multiplies whole S' T' o
multiplies whole S S' T T' None h k n = λ fits. n (λ z p. fits z (exactly S S' T T' h k z p))
multiplies whole S S' T T' (Some L) h k m = (
  λ z p. m.0 z (exactly S' S T' T (same_members_sym S S' h) (same_members_sym T T' k) z p),
  IsRunsOf-same (Products S T) (Products S' T') L (same_products S S' T T' h k) m.1,
)

pub multiplied_same : (whole : ℤ × ℤ) (A B : ℤ → Type 0) (L M : List (ℤ × ℤ)) (o : Option (List (ℤ × ℤ))) → IsRunsOf L A → IsRunsOf M B →
    Multiplies whole (Covers L) (Covers M) o → Multiplies whole A B o
multiplied_same whole A B L M o l m = multiplies whole (Covers L) A (Covers M) B o l.members m.members

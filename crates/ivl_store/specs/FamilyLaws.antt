-- The laws by which replies and domains go from post to post, and solutions with the families.
--     IsUnionOf both first second      domain by domain, the first family is the union of the two others
--     UnionIsSupported      the union of two supported families is supported
--     LaterLiesWithin posts      the greatest family for one more post lies within that for the posts before it
--     LeftIsOne posts      two families that the posts leave have the same members
--     OrderPlaysNoPart posts others      what the posts leave, the same posts leave in another order
--     ListOrderPlaysNoPart cs others      the greatest families for a list of constraints, and for it in another order, have the same members
--     IsFamilyOf cs point family      the family has at each variable that the constraints name the point's number, and no other
--     SolutionIsFamily      a common solution within some domains is a supported family within them
--     SolutionsStay      where no supported family loses a member, no common solution is lost
use Rattle.std.specs.Prelude.{◌≡◌, ◌↔◌, ◌⊎◌, ◌+◌, ℕ, ℤ, List, take}
use Rattle.std.specs.List.Sorted.{IsPermutation}
use Rattle.ivl_laws.specs.Families.{set_at}
use Rattle.ivl_store.specs.declared.store.constraint.Constraint.{Constraint}
use Rattle.ivl_store.specs.declared.store.post.Post.{Post}
use Rattle.ivl_store.specs.Solutions.{SupportedBy, LiesWithin, IsCommonSolution, IsGreatestFamily}
use Rattle.ivl_store.specs.Posts.{IsLeftBy}

abbrev pub IsUnionOf : List (List (ℤ × ℤ)) → List (List (ℤ × ℤ)) → List (List (ℤ × ℤ)) → Type 0
IsUnionOf both first second = (i : ℕ) (v : ℤ) → set_at both i v ↔ (set_at first i v ⊎ set_at second i v)

abbrev pub UnionIsSupported : Type 0
UnionIsSupported = (constraints : List Constraint) (both first second : List (List (ℤ × ℤ))) → IsUnionOf both first second
    → SupportedBy constraints (set_at first) → SupportedBy constraints (set_at second) → SupportedBy constraints (set_at both)

abbrev pub LaterLiesWithin : {B O : Type 0} → List (Post B O) → Type 0
LaterLiesWithin posts = (k : ℕ) (old earlier later : List (List (ℤ × ℤ))) → IsLeftBy (take k posts) (set_at old) (set_at earlier)
    → IsLeftBy (take (k + 1) posts) (set_at old) (set_at later) → LiesWithin (set_at later) (set_at earlier)

abbrev pub LeftIsOne : {B O : Type 0} → List (Post B O) → Type 0
LeftIsOne posts = (old first second : List (List (ℤ × ℤ))) → IsLeftBy posts (set_at old) (set_at first) → IsLeftBy posts (set_at old) (set_at second)
    → (i : ℕ) (v : ℤ) → set_at first i v ↔ set_at second i v

abbrev pub OrderPlaysNoPart : {B O : Type 0} → List (Post B O) → List (Post B O) → Type 0
OrderPlaysNoPart posts others = IsPermutation posts others
    → (old family : List (List (ℤ × ℤ))) → IsLeftBy posts (set_at old) (set_at family) → IsLeftBy others (set_at old) (set_at family)

abbrev pub ListOrderPlaysNoPart : List Constraint → List Constraint → Type 0
ListOrderPlaysNoPart constraints others = IsPermutation constraints others → (old first second : List (List (ℤ × ℤ)))
    → IsGreatestFamily constraints (set_at old) (set_at first) → IsGreatestFamily others (set_at old) (set_at second)
    → (i : ℕ) (v : ℤ) → set_at first i v ↔ set_at second i v

pub record IsFamilyOf (constraints : List Constraint) (point : ℕ → ℤ) (family : List (List (ℤ × ℤ))) : Type 0 where
  pub solved : IsCommonSolution constraints (set_at family) point
  pub only : (i : ℕ) (v : ℤ) → set_at family i v → point i ≡ v

abbrev pub SolutionIsFamily : Type 0
SolutionIsFamily = (constraints : List Constraint) (domains : List (List (ℤ × ℤ))) (point : ℕ → ℤ) → IsCommonSolution constraints (set_at domains) point
    → (family : List (List (ℤ × ℤ))) × IsFamilyOf constraints point family × SupportedBy constraints (set_at family) × LiesWithin (set_at family) (set_at domains)

abbrev pub SolutionsStay : Type 0
SolutionsStay = (constraints : List Constraint) (old new : List (List (ℤ × ℤ)))
    → ((family : List (List (ℤ × ℤ))) → SupportedBy constraints (set_at family) → LiesWithin (set_at family) (set_at old) → LiesWithin (set_at family) (set_at new))
    → (point : ℕ → ℤ) → IsCommonSolution constraints (set_at old) point → IsCommonSolution constraints (set_at new) point

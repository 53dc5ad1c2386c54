-- What is made of the members of one list, or of two.
--     MadeOfOne whole making S      the members; the numbers of the range that are no members
--     MadeOfTwo making S T      the members of either, of both, of the first alone, of exactly one
--     HoldsOf asking S T      what is asked of the members of two lists
use Rattle.std.specs.Prelude.{ℤ}
use Rattle.ivl_laws.specs.Sets.{Complement, HasSome, Intersection, IsSubset, SameMembers, SymmetricDifference, Union, Without}
use Rattle.ivl_buffers.specs.declared.set_calls.OfOne.{OfOne}
use Rattle.ivl_buffers.specs.declared.set_calls.OfOne.TheVariants.{Same, Rest}
use Rattle.ivl_buffers.specs.declared.set_calls.OfTwo.{OfTwo}
use Rattle.ivl_buffers.specs.declared.set_calls.OfTwo.TheVariants.{Either, Both, FirstAlone, OneAlone}
use Rattle.ivl_buffers.specs.declared.comparisons.Asking.{Asking}
use Rattle.ivl_buffers.specs.declared.comparisons.Asking.TheVariants.{Within, Meets, Alike}

abbrev pub MadeOfOne : ℤ × ℤ → OfOne → (ℤ → Type 0) → ℤ → Type 0
MadeOfOne whole Same S = S
MadeOfOne whole Rest S = Complement whole S

abbrev pub MadeOfTwo : OfTwo → (ℤ → Type 0) → (ℤ → Type 0) → ℤ → Type 0
MadeOfTwo Either S T = Union S T
MadeOfTwo Both S T = Intersection S T
MadeOfTwo FirstAlone S T = Without S T
MadeOfTwo OneAlone S T = SymmetricDifference S T

abbrev pub HoldsOf : Asking → (ℤ → Type 0) → (ℤ → Type 0) → Type 0
HoldsOf Within S T = IsSubset S T
HoldsOf Meets S T = HasSome (Intersection S T)
HoldsOf Alike S T = SameMembers S T

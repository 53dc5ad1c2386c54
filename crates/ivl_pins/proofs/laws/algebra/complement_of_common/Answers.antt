use Rattle.ivl_pins.proofs.Algebra.{complement_of_common}
use Rattle.ivl_pins.proofs.laws.algebra.complement_of_common.Goals as goal

pub same_members_are_equal-requires : goal.same_members_are_equal-requires
same_members_are_equal-requires g c =
    complement_of_common _ _ _ _ _ _ _ _ c.in_ok-common.ensures.members c.in_ok-rest.ensures.members c.in_ok-rest_a.ensures.members c.in_ok-rest_b.ensures.members c.in_ok-all.ensures.members

use Rattle.ivl_pins.proofs.Algebra.{complement_of_complement}
use Rattle.ivl_pins.proofs.laws.algebra.complement_twice.Goals as goal

pub same_members_are_equal-requires : goal.same_members_are_equal-requires
same_members_are_equal-requires g c =
    complement_of_complement _ _ _ _ c.in_whole.ensures c.in_ok-rest.ensures.members c.in_ok-again.ensures.members

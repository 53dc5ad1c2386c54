use Rattle.ivl_laws.specs.Sets.{Sums}
use Rattle.ivl_laws.specs.Runs.{Covers}
use Rattle.ivl_laws.proofs.SetLaws.{sums-only}
use Rattle.ivl_pins.proofs.Algebra.{results_with_one_agree, results_with_one_fit}
use Rattle.ivl_pins.proofs.laws.algebra.sums_with_value_alone.Goals as goal

pub add-requires-2 : goal.add-requires-2
add-requires-2 g c = results_with_one_fit Sums _ _ _ c.in_ok-one.ensures (sums-only (Covers c.args.a.now) _) _ c.requires.fits

pub same_members_are_equal-requires : goal.same_members_are_equal-requires
same_members_are_equal-requires g c =
    results_with_one_agree Sums _ _ _ c.in_ok-one.ensures (sums-only (Covers c.args.a.now) _) _ _ c.in_ok-by_value.ensures.members c.in_ok-by_set.ensures

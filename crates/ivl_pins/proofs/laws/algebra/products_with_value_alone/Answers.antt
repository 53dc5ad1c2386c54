use Rattle.ivl_laws.specs.Sets.{ExactProducts, Products}
use Rattle.ivl_laws.specs.Runs.{Covers}
use Rattle.ivl_laws.proofs.SetLaws.{exact_products-only, products-only}
use Rattle.ivl_pins.proofs.Algebra.{results_with_one_agree, results_with_one_fit}
use Rattle.ivl_pins.proofs.laws.algebra.products_with_value_alone.Goals as goal

pub mul-requires-2 : goal.mul-requires-2
mul-requires-2 g c = results_with_one_fit ExactProducts _ _ _ c.in_ok-one.ensures (exact_products-only (Covers c.args.a.now) _) _ c.requires.fits

pub same_members_are_equal-requires : goal.same_members_are_equal-requires
same_members_are_equal-requires g c =
    results_with_one_agree Products _ _ _ c.in_ok-one.ensures (products-only (Covers c.args.a.now) _) _ _ c.in_ok-by_value.ensures.members c.in_ok-by_set.ensures

use Rattle.std.proofs.Common.{rules, refl}
use Rattle.ivl_interval.proofs.Arithmetic.{lower_of, upper_of, differences_with_by_ends}
use Rattle.ivl_interval.proofs.interval.arithmetic.differences_with.Goals as goal

pub difference-requires : goal.difference-requires
difference-requires g c = c.requires _ (_, _, lower_of _ _ _ c.a.view_is (search rules), refl, refl)

pub difference-requires-2 : goal.difference-requires-2
difference-requires-2 g c = c.requires _ (_, _, upper_of _ _ _ c.a.view_is (search rules), refl, refl)

pub new-requires : goal.new-requires
new-requires g c =
    let low = c.requires _ (_, _, lower_of _ _ _ c.a.view_is (search rules), refl, refl) in
    let high = c.requires _ (_, _, upper_of _ _ _ c.a.view_is (search rules), refl, refl) in
    (rw c.difference.ensures low.0, rw c.difference-2.ensures high.1)

pub returns : goal.returns
returns g c = differences_with_by_ends _ _ _ _ _ _ _ c.a.view_is c.new.ensures.value c.difference.ensures c.difference-2.ensures

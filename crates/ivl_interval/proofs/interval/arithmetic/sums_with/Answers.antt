use Rattle.std.proofs.Common.{rules, refl}
use Rattle.ivl_interval.proofs.Arithmetic.{lower_of, upper_of, sums_with_by_ends}
use Rattle.ivl_interval.proofs.interval.arithmetic.sums_with.Goals as goal

pub sum-requires : goal.sum-requires
sum-requires g c = c.requires _ (_, _, lower_of _ _ _ c.a.view_is (search rules), refl, refl)

pub sum-requires-2 : goal.sum-requires-2
sum-requires-2 g c = c.requires _ (_, _, upper_of _ _ _ c.a.view_is (search rules), refl, refl)

pub new-requires : goal.new-requires
new-requires g c =
    let low = c.requires _ (_, _, lower_of _ _ _ c.a.view_is (search rules), refl, refl) in
    let high = c.requires _ (_, _, upper_of _ _ _ c.a.view_is (search rules), refl, refl) in
    (rw c.sum.ensures low.0, rw c.sum-2.ensures high.1)

pub returns : goal.returns
returns g c = sums_with_by_ends _ _ _ _ _ _ _ c.a.view_is c.new.ensures.value c.sum.ensures c.sum-2.ensures

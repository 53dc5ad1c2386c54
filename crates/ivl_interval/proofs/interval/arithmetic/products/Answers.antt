use Rattle.std.proofs.Common.{refl}
use Rattle.ivl_laws.proofs.Orders.{max_number, min_number}
use Rattle.ivl_interval.proofs.Arithmetic.{lower_of, upper_of, corners_in_range, greatest_corner, least_corner, products_by_ends}
use Rattle.ivl_interval.proofs.Pairs.{not_that}
use Rattle.ivl_interval.proofs.interval.arithmetic.products.Goals as goal

pub product-low_low-requires : goal.product-low_low-requires
product-low_low-requires g c =
    let empty_a = not_that _ c.is_empty.ensures.crossed c.if-is_empty.false in
    let empty_b = not_that _ c.is_empty-else-is_empty.ensures.crossed c.if-is_empty-2.false in
    c.requires _ (_, _, lower_of _ _ _ c.a.view_is empty_a, lower_of _ _ _ c.b.view_is empty_b, refl)

pub product-low_high-requires : goal.product-low_high-requires
product-low_high-requires g c =
    let empty_a = not_that _ c.is_empty.ensures.crossed c.if-is_empty.false in
    let empty_b = not_that _ c.is_empty-else-is_empty.ensures.crossed c.if-is_empty-2.false in
    c.requires _ (_, _, lower_of _ _ _ c.a.view_is empty_a, upper_of _ _ _ c.b.view_is empty_b, refl)

pub product-high_low-requires : goal.product-high_low-requires
product-high_low-requires g c =
    let empty_a = not_that _ c.is_empty.ensures.crossed c.if-is_empty.false in
    let empty_b = not_that _ c.is_empty-else-is_empty.ensures.crossed c.if-is_empty-2.false in
    c.requires _ (_, _, upper_of _ _ _ c.a.view_is empty_a, lower_of _ _ _ c.b.view_is empty_b, refl)

pub product-high_high-requires : goal.product-high_high-requires
product-high_high-requires g c =
    let empty_a = not_that _ c.is_empty.ensures.crossed c.if-is_empty.false in
    let empty_b = not_that _ c.is_empty-else-is_empty.ensures.crossed c.if-is_empty-2.false in
    c.requires _ (_, _, upper_of _ _ _ c.a.view_is empty_a, upper_of _ _ _ c.b.view_is empty_b, refl)

pub new-requires : goal.new-requires
new-requires g c =
    let v = g.B.Width.value in
    let o = g.met.B.Width.ordered in
    let empty_a = not_that _ c.is_empty.ensures.crossed c.if-is_empty.false in
    let empty_b = not_that _ c.is_empty-else-is_empty.ensures.crossed c.if-is_empty-2.false in
    corners_in_range _ (v c.a.inside.lb) (v c.a.inside.ub) (v c.b.inside.lb) (v c.b.inside.ub) _ _
    (least_corner (v c.a.inside.lb) (v c.a.inside.ub) (v c.b.inside.lb) (v c.b.inside.ub) _ _ _ _ _ _ _ c.product-low_low.ensures c.product-low_high.ensures c.product-high_low.ensures c.product-high_high.ensures
    (min_number o _ _ _ c.min.ensures) (min_number o _ _ _ c.min-2.ensures) (min_number o _ _ _ c.min-least.ensures))
    (greatest_corner (v c.a.inside.lb) (v c.a.inside.ub) (v c.b.inside.lb) (v c.b.inside.ub) _ _ _ _ _ _ _ c.product-low_low.ensures c.product-low_high.ensures c.product-high_low.ensures c.product-high_high.ensures
    (max_number o _ _ _ c.max.ensures) (max_number o _ _ _ c.max-2.ensures) (max_number o _ _ _ c.max-greatest.ensures))
    (c.requires _ (_, _, lower_of _ _ _ c.a.view_is empty_a, lower_of _ _ _ c.b.view_is empty_b, refl))
    (c.requires _ (_, _, lower_of _ _ _ c.a.view_is empty_a, upper_of _ _ _ c.b.view_is empty_b, refl))
    (c.requires _ (_, _, upper_of _ _ _ c.a.view_is empty_a, lower_of _ _ _ c.b.view_is empty_b, refl))
    (c.requires _ (_, _, upper_of _ _ _ c.a.view_is empty_a, upper_of _ _ _ c.b.view_is empty_b, refl))

pub returns : goal.returns
returns g c =
    let v = g.B.Width.value in
    let o = g.met.B.Width.ordered in
    products_by_ends _ _ _ _ _ _ _ _ _ c.a.view_is c.b.view_is
    (not_that _ c.is_empty.ensures.crossed c.if-is_empty.false)
    (not_that _ c.is_empty-else-is_empty.ensures.crossed c.if-is_empty-2.false)
    c.new.ensures.value
    (least_corner (v c.a.inside.lb) (v c.a.inside.ub) (v c.b.inside.lb) (v c.b.inside.ub) _ _ _ _ _ _ _ c.product-low_low.ensures c.product-low_high.ensures c.product-high_low.ensures c.product-high_high.ensures
    (min_number o _ _ _ c.min.ensures) (min_number o _ _ _ c.min-2.ensures) (min_number o _ _ _ c.min-least.ensures))
    (greatest_corner (v c.a.inside.lb) (v c.a.inside.ub) (v c.b.inside.lb) (v c.b.inside.ub) _ _ _ _ _ _ _ c.product-low_low.ensures c.product-low_high.ensures c.product-high_low.ensures c.product-high_high.ensures
    (max_number o _ _ _ c.max.ensures) (max_number o _ _ _ c.max-2.ensures) (max_number o _ _ _ c.max-greatest.ensures))

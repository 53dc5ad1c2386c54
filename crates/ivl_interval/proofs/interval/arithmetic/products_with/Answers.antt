use Rattle.std.specs.Int.{int_max, int_min}
use Rattle.std.proofs.Common.{refl, ◌≡◌, ◌*ℤ◌, ◌∙◌}
use Rattle.ivl_laws.proofs.Orders.{max_number, min_number}
use Rattle.ivl_interval.proofs.Arithmetic.{lower_of, upper_of, products_with_by_ends, two_in_range}
use Rattle.ivl_interval.proofs.Pairs.{not_that}
use Rattle.ivl_interval.proofs.interval.arithmetic.products_with.Goals as goal

pub product-low-requires : goal.product-low-requires
product-low-requires g c = c.requires _ (_, _, lower_of _ _ _ c.a.view_is (not_that _ c.is_empty.ensures.crossed c.if-is_empty.false), refl, refl)

pub product-high-requires : goal.product-high-requires
product-high-requires g c = c.requires _ (_, _, upper_of _ _ _ c.a.view_is (not_that _ c.is_empty.ensures.crossed c.if-is_empty.false), refl, refl)

pub new-requires : goal.new-requires
new-requires g c =
    let v = g.B.Width.value in
    let l = v c.a.inside.lb *ℤ v c.args.x in
    let u = v c.a.inside.ub *ℤ v c.args.x in
    let least : v c.min.result ≡ int_min l u = min_number g.met.B.Width.ordered _ _ _ c.min.ensures ∙ rw (c.product-low.ensures, c.product-high.ensures) in
    let greatest : v c.max.result ≡ int_max l u = max_number g.met.B.Width.ordered _ _ _ c.max.ensures ∙ rw (c.product-low.ensures, c.product-high.ensures) in
    two_in_range _ _ _ _ _ least greatest
    (c.requires _ (_, _, lower_of _ _ _ c.a.view_is (not_that _ c.is_empty.ensures.crossed c.if-is_empty.false), refl, refl))
    (c.requires _ (_, _, upper_of _ _ _ c.a.view_is (not_that _ c.is_empty.ensures.crossed c.if-is_empty.false), refl, refl))

pub returns : goal.returns
returns g c =
    let v = g.B.Width.value in
    let l = v c.a.inside.lb *ℤ v c.args.x in
    let u = v c.a.inside.ub *ℤ v c.args.x in
    let least : v c.min.result ≡ int_min l u = min_number g.met.B.Width.ordered _ _ _ c.min.ensures ∙ rw (c.product-low.ensures, c.product-high.ensures) in
    let greatest : v c.max.result ≡ int_max l u = max_number g.met.B.Width.ordered _ _ _ c.max.ensures ∙ rw (c.product-low.ensures, c.product-high.ensures) in
    products_with_by_ends _ _ _ _ _ _ _ c.a.view_is (not_that _ c.is_empty.ensures.crossed c.if-is_empty.false) c.new.ensures.value least greatest

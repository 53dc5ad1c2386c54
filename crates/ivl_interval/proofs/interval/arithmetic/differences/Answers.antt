use Rattle.std.proofs.Common.{refl}
use Rattle.ivl_interval.proofs.Arithmetic.{lower_of, upper_of, differences_by_ends}
use Rattle.ivl_interval.proofs.Pairs.{not_that}
use Rattle.ivl_interval.proofs.interval.arithmetic.differences.Goals as goal

pub difference-requires : goal.difference-requires
difference-requires g c =
    let empty_a = not_that _ c.is_empty.ensures.crossed c.if-is_empty.false in
    let empty_b = not_that _ c.is_empty-else-is_empty.ensures.crossed c.if-is_empty-2.false in
    c.requires _ (_, _, lower_of _ _ _ c.a.view_is empty_a, upper_of _ _ _ c.b.view_is empty_b, refl)

pub difference-requires-2 : goal.difference-requires-2
difference-requires-2 g c =
    let empty_a = not_that _ c.is_empty.ensures.crossed c.if-is_empty.false in
    let empty_b = not_that _ c.is_empty-else-is_empty.ensures.crossed c.if-is_empty-2.false in
    c.requires _ (_, _, upper_of _ _ _ c.a.view_is empty_a, lower_of _ _ _ c.b.view_is empty_b, refl)

pub new-requires : goal.new-requires
new-requires g c =
    let empty_a = not_that _ c.is_empty.ensures.crossed c.if-is_empty.false in
    let empty_b = not_that _ c.is_empty-else-is_empty.ensures.crossed c.if-is_empty-2.false in
    let low = c.requires _ (_, _, lower_of _ _ _ c.a.view_is empty_a, upper_of _ _ _ c.b.view_is empty_b, refl) in
    let high = c.requires _ (_, _, upper_of _ _ _ c.a.view_is empty_a, lower_of _ _ _ c.b.view_is empty_b, refl) in
    (rw c.difference.ensures low.0, rw c.difference-2.ensures high.1)

pub returns : goal.returns
returns g c =
    let empty_a = not_that _ c.is_empty.ensures.crossed c.if-is_empty.false in
    let empty_b = not_that _ c.is_empty-else-is_empty.ensures.crossed c.if-is_empty-2.false in
    differences_by_ends _ _ _ _ _ _ _ _ _ c.a.view_is c.b.view_is empty_a empty_b
    c.new.ensures.value c.difference.ensures c.difference-2.ensures

use Rattle.ivl_interval.proofs.Ends.{both_inside, both_outside, lower_inside, lower_is_left, next_at_least, next_in_range, previous_at_most, previous_in_range, upper_inside, upper_is_left}
use Rattle.ivl_interval.proofs.Pairs.{not_that}
use Rattle.ivl_interval.proofs.interval.sets.cut_away.Goals as goal

pub returns-then-at_upper : goal.returns-then-at_upper
returns-then-at_upper g c =
    both_inside _ _ _ _ _ c.first.view_is (c.contains-at_lower.ensures.0 c.if-at_lower.true) (c.contains-at_upper.ensures.0 c.if-at_upper.true) c.empty.ensures.crossed

pub successor-requires : goal.successor-requires
successor-requires g c =
    let ends = lower_inside _ _ _ _ _ _ c.first.view_is c.other.view_is c.requires (c.contains-at_lower.ensures.0 c.if-at_lower.true)
    (not_that _ c.contains-at_upper.ensures c.if-at_upper.false) in
    next_in_range _ _ _ _ c.first.invariant.0 ends.1 ends.2

pub new-requires : goal.new-requires
new-requires g c =
    let ends = lower_inside _ _ _ _ _ _ c.first.view_is c.other.view_is c.requires (c.contains-at_lower.ensures.0 c.if-at_lower.true)
    (not_that _ c.contains-at_upper.ensures c.if-at_upper.false) in
    (next_at_least _ _ _ _ c.first.invariant.0.0 ends.1 c.successor.ensures, c.first.invariant.0.1)

pub returns-then-at_lower : goal.returns-then-at_lower
returns-then-at_lower g c =
    upper_is_left _ _ _ _ _ _ _ _ c.first.view_is c.other.view_is c.new.ensures.value c.successor.ensures
    (lower_inside _ _ _ _ _ _ c.first.view_is c.other.view_is c.requires (c.contains-at_lower.ensures.0 c.if-at_lower.true)
    (not_that _ c.contains-at_upper.ensures c.if-at_upper.false))

pub predecessor-requires : goal.predecessor-requires
predecessor-requires g c =
    let ends = upper_inside _ _ _ _ _ _ c.first.view_is c.other.view_is c.requires (not_that _ c.contains-at_lower.ensures c.if-at_lower.false)
    (c.contains-at_upper.ensures.0 c.if-at_upper-2.true) in
    previous_in_range _ _ _ _ c.first.invariant.0 ends.0 ends.1

pub new-requires-then-at_upper-2 : goal.new-requires-then-at_upper-2
new-requires-then-at_upper-2 g c =
    let ends = upper_inside _ _ _ _ _ _ c.first.view_is c.other.view_is c.requires (not_that _ c.contains-at_lower.ensures c.if-at_lower.false)
    (c.contains-at_upper.ensures.0 c.if-at_upper-2.true) in
    (c.first.invariant.0.0, previous_at_most _ _ _ _ c.first.invariant.0.1 ends.1 c.predecessor.ensures)

pub returns-then-at_upper-2 : goal.returns-then-at_upper-2
returns-then-at_upper-2 g c =
    lower_is_left _ _ _ _ _ _ _ _ c.first.view_is c.other.view_is c.new-then-at_upper-2.ensures.value c.predecessor.ensures
    (upper_inside _ _ _ _ _ _ c.first.view_is c.other.view_is c.requires (not_that _ c.contains-at_lower.ensures c.if-at_lower.false)
    (c.contains-at_upper.ensures.0 c.if-at_upper-2.true))

pub returns : goal.returns
returns g c =
    both_outside _ _ _ _ c.first.view_is (not_that _ c.contains-at_lower.ensures c.if-at_lower.false)
    (not_that _ c.contains-at_upper.ensures c.if-at_upper-2.false)

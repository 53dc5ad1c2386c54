use Rattle.std.proofs.Common.{◌∙◌}
use Rattle.ivl_interval.proofs.Numbers.{Fits-next_difference, SFits-difference, difference_casts, next_difference, next_difference_at_most}
use Rattle.ivl_interval.proofs.width.Width.width.Goals as goal

pub overflow_sub-last : goal.overflow_sub-last
overflow_sub-last g c =
    SFits-difference _ _ _ _ _ g.met.Self.Width.range c.requires.in_range c.requires.in_order c.number.ensures c.number-2.ensures
    (record { sfits = c.number.type_inv }) (record { sfits = c.number-2.type_inv })

pub overflow_cast-last : goal.overflow_cast-last
overflow_cast-last g c =
    difference_casts _ _ _ _ _ g.met.Self.Width.range c.requires.in_range c.requires.in_order c.number.ensures c.number-2.ensures
    (record { sfits = c.number.type_inv }) (record { sfits = c.number-2.type_inv })

pub overflow_add-last : goal.overflow_add-last
overflow_add-last g c =
    Fits-next_difference _ _ _ _ _ g.met.Self.Width.range c.requires.in_range c.requires.in_order c.number.ensures c.number-2.ensures
    (record { sfits = c.number.type_inv }) (record { sfits = c.number-2.type_inv })

pub unwrap-requires : goal.unwrap-requires
unwrap-requires g c =
    c.from_number.ensures.known.1
    (next_difference_at_most _ _ _ _ _ g.met.Self.Width.range c.requires.in_range c.requires.in_order c.number.ensures c.number-2.ensures
    (record { sfits = c.number.type_inv }) (record { sfits = c.number-2.type_inv })
    _ g.met.Self.Width.countable)

pub returns : goal.returns
returns g c =
    let size = rw c.unwrap.ensures at c.from_number.ensures.same_number in
    size ∙ next_difference _ _ _ _ _ g.met.Self.Width.range c.requires.in_range c.requires.in_order c.number.ensures c.number-2.ensures
    (record { sfits = c.number.type_inv }) (record { sfits = c.number-2.type_inv })

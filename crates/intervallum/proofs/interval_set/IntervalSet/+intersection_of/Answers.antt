use Rattle.std.proofs.Common.{◌/◌, length}
use Rattle.std.proofs.lemmas.Result.{IfOk-weaker}
use Rattle.ivl_places.proofs.Many.{common_of_parts, common_of_three}
use Rattle.intervallum.proofs.interval_set.IntervalSet.+intersection_of.Goals as goal

pub returns-in_ok-upper-in_default : goal.returns-in_ok-upper-in_default
returns-in_ok-upper-in_default g t c = IfOk-weaker c.intersection-in_default.result _ _ (λ L r.
    common_of_parts (λ s. s.now) g.B.Width.whole c.args.sets.now (length c.args.sets.now / 2) c.in_ok-lower-in_default.lower c.in_ok-upper-in_default.upper L
    c.in_ok-lower-in_default.ensures c.in_ok-upper-in_default.ensures r) c.intersection-in_default.ensures.members

pub returns-in_ok-intersection-in-len3 : goal.returns-in_ok-intersection-in-len3
returns-in_ok-intersection-in-len3 g t c = IfOk-weaker c.intersection-in-len3-3.result _ _ (λ L r.
    common_of_three (λ s. s.now) g.B.Width.whole c.args.sets.now c.one-item-then-sets-lt4.result c.other-item-then-sets-lt4.result c.last-item.result c.in_ok-intersection-in-len3.field-0 L
    c.one-item-then-sets-lt4.is c.other-item-then-sets-lt4.is c.last-item.is c.in-len3.len_at_least c.in-len3.len_below c.in_whole-in-len3.ensures.within
    c.in_ok-intersection-in-len3.ensures.members r) c.intersection-in-len3-3.ensures.members

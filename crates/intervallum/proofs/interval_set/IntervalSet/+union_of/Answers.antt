use Rattle.std.proofs.Common.{◌/◌, length}
use Rattle.std.proofs.lemmas.Result.{IfOk-weaker}
use Rattle.ivl_places.proofs.Many.{union_of_parts}
use Rattle.intervallum.proofs.interval_set.IntervalSet.+union_of.Goals as goal

pub returns-in_ok-upper-in_default : goal.returns-in_ok-upper-in_default
returns-in_ok-upper-in_default g t c = IfOk-weaker c.union-in_default.result _ _ (λ L r.
    union_of_parts (λ s. s.now) c.args.sets.now (length c.args.sets.now / 2) c.in_ok-lower-in_default.lower c.in_ok-upper-in_default.upper L
    c.in_ok-lower-in_default.ensures c.in_ok-upper-in_default.ensures r) c.union-in_default.ensures.members

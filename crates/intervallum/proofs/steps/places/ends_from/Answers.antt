use Rattle.ivl_laws.proofs.Intervals.{some_is_not_crossed}
use Rattle.intervallum.proofs.steps.places.ends_from.Goals as goal

pub upper-requires : goal.upper-requires
upper-requires g c = (some_is_not_crossed c.look.result).1 c.look.ensures.has_member

use Rattle.ivl_laws.proofs.Adding.{untrue}
use Rattle.ivl_laws.proofs.Intervals.{not_crossed}
use Rattle.ivl_paged.proofs.paged_set.PagedSet.remove_interval.Goals as goal

pub take_away-requires : goal.take_away-requires
take_away-requires g c = not_crossed c.args.interval (untrue _ c.if-is_empty.false c.is_empty.ensures.crossed)

pub returns-then-is_empty-clause-ok : goal.returns-then-is_empty-clause-ok
returns-then-is_empty-clause-ok g c =
    let none = c.is_empty.ensures.members.0 c.if-is_empty.true in
    record { maximal = c.in_whole.ensures.maximal; members = λ z. ((λ s. (s, none z)), λ s. s.0) }

use Rattle.ivl_map.specs.Entries.{HasAt, IsEntriesOf, WrittenAll}
use Rattle.ivl_map.proofs.interval_map.IntervalMap.extend.Given as goal

abbrev pub invariant-loop-interval : goal.invariant-loop-interval
invariant-loop-interval g l = IsEntriesOf g.V.PartialEq.eq l.self (WrittenAll g.V.PartialEq.eq l.yielded (HasAt g.V.PartialEq.eq l.fn.self))

use Rattle.std.proofs.Common.{take}
use Rattle.std.specs.Fn.{CalledAt}
use Rattle.ivl_map.proofs.Asking.{IsAsked}
use Rattle.ivl_map.proofs.interval_map.IntervalMap.numbers_with.Given as goal

abbrev pub invariant-loop-entry : goal.invariant-loop-entry
invariant-loop-entry g l = goal.F-IsAlwaysCallable g l.test × IsAsked (λ f e is u. CalledAt g.F.FnMut f e.1 is u) l.fn.test l.test (take l.entry-index l.entry-items) l.numbers

use Rattle.std.proofs.Common.{◌≡◌, ◌∙◌, false, sym}
use Rattle.intervallum.specs.Equality.{same_runs}
use Rattle.intervallum.proofs.Equality.{same_runs_seen, same_runs-counts, sizes_differ, tells_same_runs}
use Rattle.intervallum.proofs.interval_set.IntervalSetPartialEq.eq.Goals as goal

pub returns-then-eq-clause-value : goal.returns-then-eq-clause-value
returns-then-eq-clause-value g c =
    rw (← c.self.view_is, ← c.other.view_is)
    (tells_same_runs _ _ _ _ _ c.self.invariant.0.maximal c.deref.ensures.value c.deref-then-eq.ensures.value c.are_the_same.ensures)

pub returns-then-eq-clause-members : goal.returns-then-eq-clause-members
returns-then-eq-clause-members g c =
    same_runs_seen _ _ _ _ _ c.self.view_is c.other.view_is c.self.invariant.0.maximal c.other.invariant.0.maximal
    (tells_same_runs _ _ _ _ _ c.self.invariant.0.maximal c.deref.ensures.value c.deref-then-eq.ensures.value c.are_the_same.ensures)

pub returns-else-eq-clause-value : goal.returns-else-eq-clause-value
returns-else-eq-clause-value g c =
    let none : same_runs c.self.inside.intervals.items c.other.inside.intervals.items ≡ false =
    same_runs-counts _ _ _ _ c.self.invariant.0.maximal c.self.invariant.1 c.other.invariant.1
    (sizes_differ g.met.B.Output.SizeNumber.ordered _ _ _ c.eq.ensures c.if-eq.false) in
    rw (← c.self.view_is, ← c.other.view_is) (c.if-eq.false ∙ sym none)

pub returns-else-eq-clause-members : goal.returns-else-eq-clause-members
returns-else-eq-clause-members g c =
    let none : same_runs c.self.inside.intervals.items c.other.inside.intervals.items ≡ false =
    same_runs-counts _ _ _ _ c.self.invariant.0.maximal c.self.invariant.1 c.other.invariant.1
    (sizes_differ g.met.B.Output.SizeNumber.ordered _ _ _ c.eq.ensures c.if-eq.false) in
    same_runs_seen _ _ _ _ _ c.self.view_is c.other.view_is c.self.invariant.0.maximal c.other.invariant.0.maximal (c.if-eq.false ∙ sym none)

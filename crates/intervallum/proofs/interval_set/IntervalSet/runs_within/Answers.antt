use Rattle.std.proofs.Common.{◌-◌, ◌≤ℤ◌, ℤ, List, drop, take, sym, subst}
use Rattle.ivl_laws.specs.Sets.{IsBetween}
use Rattle.ivl_laws.specs.Runs.{Covers, IsMaximal, IsRunListIn, IsRunsOf}
use Rattle.ivl_laws.proofs.Adding.{untrue}
use Rattle.ivl_laws.proofs.Intervals.{not_crossed}
use Rattle.ivl_places.specs.Places.{EndBelow, StartAbove}
use Rattle.ivl_places.specs.Windows.{OfRunsThatMeet}
use Rattle.ivl_places.proofs.Finding.{EndBelow-more}
use Rattle.ivl_places.proofs.WholeRuns.{each_meets, met_runs}
use Rattle.ivl_places.proofs.Windows.{first_of_kept, is_window, part_is_run_list, starts_of_kept}
use Rattle.intervallum.proofs.interval_set.IntervalSet.runs_within.Goals as goal

pub last_up_to-end-requires-clause-below : goal.last_up_to-end-requires-clause-below
last_up_to-end-requires-clause-below g c =
    let L = c.runs_before-start.new.probes.runs in
    let o = not_crossed c.args.window.now (untrue _ c.if-is_empty.false c.is_empty.ensures.crossed) in
    let le = subst (λ (u : ℤ). g.B.Width.value c.lower.result ≤ℤ u) (sym c.upper.ensures.value) (subst (λ (u : ℤ). u ≤ℤ c.args.window.now.1) (sym c.lower.ensures.value) o) in
    EndBelow-more (take c.runs_before-start.result L) (g.B.Width.value c.lower.result) (g.B.Width.value c.upper.result) le (rw c.runs_before-start.ensures.same c.runs_before-start.ensures.below)

pub returns-clause-within : goal.returns-clause-within
returns-clause-within g c =
    part_is_run_list g.B.Width.whole c.as_runs-runs.result.now c.runs_before-start.result (c.last_up_to-end.result - c.runs_before-start.result)
    (subst (IsRunListIn g.B.Width.whole) (sym c.as_runs-runs.ensures.same) c.as_runs-runs.ensures.runs)

pub returns-clause-overlap : goal.returns-clause-overlap
returns-clause-overlap g c =
    each_meets c.args.window.now (take (c.last_up_to-end.result - c.runs_before-start.result) (drop c.runs_before-start.result c.as_runs-runs.result.now))
    (not_crossed c.args.window.now (untrue _ c.if-is_empty.false c.is_empty.ensures.crossed)) (returns-clause-within g c).maximal
    (first_of_kept c.as_runs-runs.result.now c.args.self.now c.new-probes.result.runs c.runs_before-start.result (c.last_up_to-end.result - c.runs_before-start.result) _ _
    c.as_runs-runs.ensures.same c.new-probes.ensures.runs c.lower.ensures.value c.runs_before-start.ensures.ends)
    (starts_of_kept c.as_runs-runs.result.now c.args.self.now c.new-probes.result.runs c.runs_before-start.new.probes.runs c.runs_before-start.result c.last_up_to-end.result _ _
    c.as_runs-runs.ensures.same c.new-probes.ensures.runs c.runs_before-start.ensures.same c.upper.ensures.value c.last_up_to-end.ensures.starts)

pub returns-clause-members : goal.returns-clause-members
returns-clause-members g c =
    let o = not_crossed c.args.window.now (untrue _ c.if-is_empty.false c.is_empty.ensures.crossed) in
    let K = take (c.last_up_to-end.result - c.runs_before-start.result) (drop c.runs_before-start.result c.as_runs-runs.result.now) in
    let w = is_window c.args.self.now c.new-probes.result.runs c.runs_before-start.new.probes.runs c.args.window.now _ _ c.runs_before-start.result c.last_up_to-end.result
    c.as_runs-runs.ensures.runs.maximal c.new-probes.ensures.runs c.runs_before-start.ensures.same o c.lower.ensures.value c.upper.ensures.value
    c.runs_before-start.ensures.at_most c.runs_before-start.ensures.below c.last_up_to-end.ensures.above in
    let same = sym c.as_runs-runs.ensures.same in
    subst (λ (M : List (ℤ × ℤ)). IsRunsOf K (OfRunsThatMeet (IsBetween c.args.window.now) (Covers M))) c.as_runs-runs.ensures.same
    (met_runs c.as_runs-runs.result.now c.args.window.now c.runs_before-start.result c.last_up_to-end.result w.in_order o
    (subst IsMaximal same c.as_runs-runs.ensures.runs.maximal) (returns-clause-within g c).maximal
    (subst (λ (M : List (ℤ × ℤ)). EndBelow c.args.window.now.0 (take c.runs_before-start.result M)) same w.below)
    (first_of_kept c.as_runs-runs.result.now c.args.self.now c.new-probes.result.runs c.runs_before-start.result (c.last_up_to-end.result - c.runs_before-start.result) _ _
    c.as_runs-runs.ensures.same c.new-probes.ensures.runs c.lower.ensures.value c.runs_before-start.ensures.ends)
    (starts_of_kept c.as_runs-runs.result.now c.args.self.now c.new-probes.result.runs c.runs_before-start.new.probes.runs c.runs_before-start.result c.last_up_to-end.result _ _
    c.as_runs-runs.ensures.same c.new-probes.ensures.runs c.runs_before-start.ensures.same c.upper.ensures.value c.last_up_to-end.ensures.starts)
    (subst (λ (M : List (ℤ × ℤ)). StartAbove c.args.window.now.1 (drop c.last_up_to-end.result M)) same w.above))

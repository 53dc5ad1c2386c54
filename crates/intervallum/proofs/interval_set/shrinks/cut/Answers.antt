use Rattle.std.proofs.Common.{◌-◌, sym, subst, zero-le}
use Rattle.ivl_laws.specs.Runs.{IsRunListIn}
use Rattle.ivl_laws.proofs.Adding.{untrue}
use Rattle.ivl_laws.proofs.Intervals.{not_crossed, some_is_not_crossed}
use Rattle.std.proofs.lemmas.Result.{IfOk-weaker}
use Rattle.ivl_laws.proofs.Ranges.{IsRunsOf-none}
use Rattle.ivl_places.proofs.Windows.{is_window, cut_from_part, first_of_kept, part_is_run_list, starts_of_kept}
use Rattle.intervallum.proofs.interval_set.shrinks.cut.Goals as goal

pub lower-requires : goal.lower-requires
lower-requires g c = (some_is_not_crossed c.args.window.now).1 (not_crossed c.args.window.now (untrue _ c.if-is_empty.false c.is_empty.ensures.crossed))

pub slice_bounds-kept-count : goal.slice_bounds-kept-count
slice_bounds-kept-count g c =
    (is_window c.args.set.now c.new-probes.result.runs c.runs_before-start.new.probes.runs c.args.window.now _ _ c.runs_before-start.result c.runs_up_to-end.result
    c.as_runs-runs.ensures.runs.maximal c.new-probes.ensures.runs c.runs_before-start.ensures.same
    (not_crossed c.args.window.now (untrue _ c.if-is_empty.false c.is_empty.ensures.crossed)) c.lower.ensures.value c.upper.ensures.value
    c.runs_before-start.ensures.at_most c.runs_before-start.ensures.below c.runs_up_to-end.ensures.above).in_order

pub slice_bounds-kept-start : goal.slice_bounds-kept-start
slice_bounds-kept-start g c =
    (is_window c.args.set.now c.new-probes.result.runs c.runs_before-start.new.probes.runs c.args.window.now _ _ c.runs_before-start.result c.runs_up_to-end.result
    c.as_runs-runs.ensures.runs.maximal c.new-probes.ensures.runs c.runs_before-start.ensures.same
    (not_crossed c.args.window.now (untrue _ c.if-is_empty.false c.is_empty.ensures.crossed)) c.lower.ensures.value c.upper.ensures.value
    c.runs_before-start.ensures.at_most c.runs_before-start.ensures.below c.runs_up_to-end.ensures.above).in_order

pub cut_runs-requires-clause-window : goal.cut_runs-requires-clause-window
cut_runs-requires-clause-window g c = not_crossed c.args.window.now (untrue _ c.if-is_empty.false c.is_empty.ensures.crossed)

pub cut_runs-requires-clause-first : goal.cut_runs-requires-clause-first
cut_runs-requires-clause-first g c =
    first_of_kept c.as_runs-runs.result.now c.args.set.now c.new-probes.result.runs c.runs_before-start.result (c.runs_up_to-end.result - c.runs_before-start.result) _ _
    c.as_runs-runs.ensures.same c.new-probes.ensures.runs c.lower.ensures.value c.runs_before-start.ensures.ends

pub cut_runs-requires-clause-last : goal.cut_runs-requires-clause-last
cut_runs-requires-clause-last g c =
    starts_of_kept c.as_runs-runs.result.now c.args.set.now c.new-probes.result.runs c.runs_before-start.new.probes.runs c.runs_before-start.result c.runs_up_to-end.result _ _
    c.as_runs-runs.ensures.same c.new-probes.ensures.runs c.runs_before-start.ensures.same c.upper.ensures.value c.runs_up_to-end.ensures.starts

pub cut_runs-requires-clause-runs : goal.cut_runs-requires-clause-runs
cut_runs-requires-clause-runs g c =
    part_is_run_list g.B.Width.whole c.as_runs-runs.result.now c.runs_before-start.result (c.runs_up_to-end.result - c.runs_before-start.result)
    (subst (IsRunListIn g.B.Width.whole) (sym c.as_runs-runs.ensures.same) c.as_runs-runs.ensures.runs)

pub returns-clause-members : goal.returns-clause-members
returns-clause-members g c =
    cut_from_part c.cut_runs.result c.as_runs-runs.result.now c.args.set.now c.args.window.now c.runs_before-start.result c.runs_up_to-end.result c.as_runs-runs.ensures.same
    (is_window c.args.set.now c.new-probes.result.runs c.runs_before-start.new.probes.runs c.args.window.now _ _ c.runs_before-start.result c.runs_up_to-end.result
    c.as_runs-runs.ensures.runs.maximal c.new-probes.ensures.runs c.runs_before-start.ensures.same
    (not_crossed c.args.window.now (untrue _ c.if-is_empty.false c.is_empty.ensures.crossed)) c.lower.ensures.value c.upper.ensures.value
    c.runs_before-start.ensures.at_most c.runs_before-start.ensures.below c.runs_up_to-end.ensures.above)
    c.cut_runs.ensures.members

pub returns-then-is_empty-clause-members : goal.returns-then-is_empty-clause-members
returns-then-is_empty-clause-members g c = IfOk-weaker c.with_room.result _ _ (λ L e. rw e (IsRunsOf-none _ (λ z i. c.is_empty.ensures.members.0 c.if-is_empty.true z i.1))) c.with_room.ensures

pub returns-then-is_empty-clause-runs_at_most : goal.returns-then-is_empty-clause-runs_at_most
returns-then-is_empty-clause-runs_at_most g c = IfOk-weaker c.with_room.result _ _ (λ L e. rw e (zero-le)) c.with_room.ensures

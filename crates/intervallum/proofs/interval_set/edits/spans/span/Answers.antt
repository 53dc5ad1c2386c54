use Rattle.std.proofs.Common.{◌+◌, ◌≤◌, ℤ, length, List, take, subst, sym}
use Rattle.ivl_laws.specs.Runs.{IsMaximal}
use Rattle.ivl_places.specs.Places.{EndBelow}
use Rattle.ivl_places.proofs.Finding.{EndBelow-more}
use Rattle.ivl_places.proofs.SpanEnds.{span_of_split}
use Rattle.ivl_places.proofs.Windows.{split_by_gap, split_by_run}
use Rattle.intervallum.proofs.interval_set.edits.spans.span.Goals as goal

pub last_from_run-requires-clause-below : goal.last_from_run-requires-clause-below
last_from_run-requires-clause-below g c =
    let L = c.new-probes.result.runs in
    let open_runs : IsMaximal L = subst IsMaximal (sym c.new-probes.ensures.runs) c.in_whole.ensures.maximal in
    let split = split_by_run L c.in-In.i (g.B.Width.value c.args.lower) open_runs c.in-In.ensures.place in
    subst (λ (M : List (ℤ × ℤ)). EndBelow (g.B.Width.value c.args.upper) (take c.in-In.i M)) (sym c.in-In.ensures.same)
    (EndBelow-more (take c.in-In.i L) (g.B.Width.value c.args.lower) (g.B.Width.value c.args.upper) c.requires split.below)

pub last_up_to-requires-clause-at_most : goal.last_up_to-requires-clause-at_most
last_up_to-requires-clause-at_most g c =
    let L = c.new-probes.result.runs in
    let open_runs : IsMaximal L = subst IsMaximal (sym c.new-probes.ensures.runs) c.in_whole.ensures.maximal in
    let split = split_by_gap L c.in-Gap.i (g.B.Width.value c.args.lower) open_runs c.in-Gap.ensures.place.0 c.in-Gap.ensures.place.1 in
    subst (λ (M : List (ℤ × ℤ)). c.in-Gap.i ≤ length M) (sym c.in-Gap.ensures.same) split.at_most

pub last_up_to-requires-clause-below : goal.last_up_to-requires-clause-below
last_up_to-requires-clause-below g c =
    let L = c.new-probes.result.runs in
    let open_runs : IsMaximal L = subst IsMaximal (sym c.new-probes.ensures.runs) c.in_whole.ensures.maximal in
    let split = split_by_gap L c.in-Gap.i (g.B.Width.value c.args.lower) open_runs c.in-Gap.ensures.place.0 c.in-Gap.ensures.place.1 in
    subst (λ (M : List (ℤ × ℤ)). EndBelow (g.B.Width.value c.args.upper) (take c.in-Gap.i M)) (sym c.in-Gap.ensures.same)
    (EndBelow-more (take c.in-Gap.i L) (g.B.Width.value c.args.lower) (g.B.Width.value c.args.upper) c.requires split.below)

pub returns-in-In : goal.returns-in-In
returns-in-In g c =
    let L = c.new-probes.result.runs in
    let open_runs : IsMaximal L = subst IsMaximal (sym c.new-probes.ensures.runs) c.in_whole.ensures.maximal in
    span_of_split L c.find_near.new.probes.runs c.args.set.now (g.B.Width.value c.args.lower) (g.B.Width.value c.args.upper) c.in-In.i (c.in-In.i + 1) c.last_from_run.result c.in-In.ensures.same c.new-probes.ensures.runs
    (split_by_run L c.in-In.i (g.B.Width.value c.args.lower) open_runs c.in-In.ensures.place)
    c.last_from_run.ensures.onwards c.last_from_run.ensures.at_most c.last_from_run.ensures.starts c.last_from_run.ensures.above

pub returns-in-Gap : goal.returns-in-Gap
returns-in-Gap g c =
    let L = c.new-probes.result.runs in
    let open_runs : IsMaximal L = subst IsMaximal (sym c.new-probes.ensures.runs) c.in_whole.ensures.maximal in
    span_of_split L c.find_near.new.probes.runs c.args.set.now (g.B.Width.value c.args.lower) (g.B.Width.value c.args.upper) c.in-Gap.i c.in-Gap.i c.last_up_to.result c.in-Gap.ensures.same c.new-probes.ensures.runs
    (split_by_gap L c.in-Gap.i (g.B.Width.value c.args.lower) open_runs c.in-Gap.ensures.place.0 c.in-Gap.ensures.place.1)
    c.last_up_to.ensures.onwards c.last_up_to.ensures.at_most c.last_up_to.ensures.starts c.last_up_to.ensures.above

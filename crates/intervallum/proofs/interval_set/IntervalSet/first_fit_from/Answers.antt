use Rattle.std.proofs.Common.{◌∙◌, ◌-◌, ◌<◌, ℤ, List, length, subst, sym}
use Rattle.std.specs.Prelude.{IsSomeAnd, slice_get}
use Rattle.ivl_laws.specs.Sets.{AtLeast, IsBetween}
use Rattle.ivl_laws.specs.Runs.{Covers, IsRunListIn}
use Rattle.ivl_places.specs.Neighbours.{IsGapAt}
use Rattle.ivl_places.proofs.FirstFit.{IsFitOf, fit_from_gap}
use Rattle.ivl_laws.proofs.Slices.{from_place}
use Rattle.ivl_places.proofs.Finding.{place_is_less}
use Rattle.ivl_places.proofs.Windows.{part_is_run_list}
use Rattle.intervallum.proofs.interval_set.IntervalSet.first_fit_from.Goals as goal

pub fit_in-requires-clause-runs : goal.fit_in-requires-clause-runs
fit_in-requires-clause-runs g c =
    part_is_run_list g.B.Width.whole c.as_runs-runs.result.now c.in-Gap.i (length c.as_runs-runs.result.now - c.in-Gap.i)
    (subst (IsRunListIn g.B.Width.whole) (sym c.as_runs-runs.ensures.same) c.as_runs-runs.ensures.runs)

pub fit_from_run-requires-clause-less : goal.fit_from_run-requires-clause-less
fit_from_run-requires-clause-less g c =
    subst (λ (M : List (ℤ × ℤ)). c.in-In.i < length M) (c.new-probes.ensures.runs ∙ sym c.as_runs-runs.ensures.same) (place_is_less _ _ _ c.in-In.ensures.place)

pub fit_from_run-requires-clause-runs : goal.fit_from_run-requires-clause-runs
fit_from_run-requires-clause-runs g c = subst (IsRunListIn g.B.Width.whole) (sym c.as_runs-runs.ensures.same) c.as_runs-runs.ensures.runs

pub fit_from_run-requires-clause-holds : goal.fit_from_run-requires-clause-holds
fit_from_run-requires-clause-holds g c =
    subst (λ (M : List (ℤ × ℤ)). IsSomeAnd (slice_get M c.in-In.i) (λ run. IsBetween run (g.B.Width.value c.args.v))) (c.new-probes.ensures.runs ∙ sym c.as_runs-runs.ensures.same) c.in-In.ensures.place

pub returns-in-Gap : goal.returns-in-Gap
returns-in-Gap g c =
    let L = c.as_runs-runs.result.now in
    let n = g.B.Output.SizeNumber.size c.args.count in
    let v = g.B.Width.value c.args.v in
    let gap : IsGapAt L v c.in-Gap.i = subst (λ (M : List (ℤ × ℤ)). IsGapAt M v c.in-Gap.i) (c.new-probes.ensures.runs ∙ sym c.as_runs-runs.ensures.same) c.in-Gap.ensures.beside in
    subst (λ (M : List (ℤ × ℤ)). IsFitOf n (AtLeast v (Covers M)) c.fit_in.result) c.as_runs-runs.ensures.same
    (fit_from_gap n L c.in-Gap.i v c.fit_in.result gap (subst (λ (M : List (ℤ × ℤ)). IsFitOf n (Covers M) c.fit_in.result) (from_place L c.in-Gap.i) c.fit_in.ensures))

pub returns-in-In : goal.returns-in-In
returns-in-In g c =
    let n = g.B.Output.SizeNumber.size c.args.count in
    let v = g.B.Width.value c.args.v in
    subst (λ (M : List (ℤ × ℤ)). IsFitOf n (AtLeast v (Covers M)) c.fit_from_run.result) c.as_runs-runs.ensures.same c.fit_from_run.ensures

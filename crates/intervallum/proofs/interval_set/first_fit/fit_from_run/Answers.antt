use Rattle.std.proofs.Common.{◌∙◌, ◌+◌, ◌-◌, ◌<◌, ◌≤◌, ℕ, ℤ, List, length, subst, refl}
use Rattle.ivl_laws.specs.Runs.{Covers}
use Rattle.ivl_laws.proofs.Runs.{pair_same}
use Rattle.ivl_places.proofs.FirstFit.{IsFitOf, at_least_by_count, below_by_count, bounds_from, fit_in_run, fit_past_run, holds_here}
use Rattle.ivl_laws.proofs.Slices.{from_place}
use Rattle.ivl_places.proofs.Windows.{part_is_run_list}
use Rattle.intervallum.proofs.interval_set.first_fit.fit_from_run.Goals as goal

pub upper-requires : goal.upper-requires
upper-requires g c =
    let h = holds_here _ c.args.runs.now c.args.i (g.B.Width.value c.args.v) refl c.requires.runs.maximal c.requires.holds in
    (g.B.Width.value c.args.v, h.has c.index-runs-i.result c.index-runs-i.is)

pub new-part-requires : goal.new-part-requires
new-part-requires g c =
    bounds_from g.B.Width.whole c.args.runs.now c.args.i (g.B.Width.value c.args.v) c.index-runs-i.result _ _ c.requires.runs
    (holds_here _ c.args.runs.now c.args.i (g.B.Width.value c.args.v) refl c.requires.runs.maximal c.requires.holds) c.index-runs-i.is refl c.upper.ensures.value

pub lowest_of-requires-clause-enough : goal.lowest_of-requires-clause-enough
lowest_of-requires-clause-enough g c =
    subst (λ (k : ℕ). g.B.Output.SizeNumber.size c.args.count ≤ k) c.size.ensures.width (at_least_by_count g.met.B.Output.SizeNumber.ordered _ _ _ c.ge.ensures c.if-ge.true)

pub fit_in-requires-clause-runs : goal.fit_in-requires-clause-runs
fit_in-requires-clause-runs g c = part_is_run_list g.B.Width.whole c.args.runs.now (c.args.i + 1) (length c.args.runs.now - (c.args.i + 1)) c.requires.runs

pub returns-then-ge : goal.returns-then-ge
returns-then-ge g c =
    fit_in_run c.args.runs.now c.args.i (g.B.Width.value c.args.v) c.index-runs-i.result c.requires.runs.maximal
    (holds_here _ c.args.runs.now c.args.i (g.B.Width.value c.args.v) refl c.requires.runs.maximal c.requires.holds) c.index-runs-i.is
    (g.B.Output.SizeNumber.size c.args.count) c.new-part.result c.lowest_of.result c.requires.above_zero
    (c.new-part.ensures.value ∙ pair_same (g.B.Width.value c.args.v, g.B.Width.value c.upper.result) (g.B.Width.value c.args.v, c.index-runs-i.result.1) refl c.upper.ensures.value)
    (subst (λ (k : ℕ). g.B.Output.SizeNumber.size c.args.count ≤ k) c.size.ensures.width (at_least_by_count g.met.B.Output.SizeNumber.ordered _ _ _ c.ge.ensures c.if-ge.true))
    c.lowest_of.ensures

pub returns-else-ge : goal.returns-else-ge
returns-else-ge g c =
    fit_past_run c.args.runs.now c.args.i (g.B.Width.value c.args.v) c.index-runs-i.result c.requires.runs.maximal
    (holds_here _ c.args.runs.now c.args.i (g.B.Width.value c.args.v) refl c.requires.runs.maximal c.requires.holds) c.index-runs-i.is
    (g.B.Output.SizeNumber.size c.args.count) c.new-part.result c.fit_in.result c.requires.above_zero
    (c.new-part.ensures.value ∙ pair_same (g.B.Width.value c.args.v, g.B.Width.value c.upper.result) (g.B.Width.value c.args.v, c.index-runs-i.result.1) refl c.upper.ensures.value)
    (subst (λ (k : ℕ). k < g.B.Output.SizeNumber.size c.args.count) c.size.ensures.width (below_by_count g.met.B.Output.SizeNumber.ordered _ _ _ c.ge.ensures c.if-ge.false))
    (subst (λ (M : List (ℤ × ℤ)). IsFitOf (g.B.Output.SizeNumber.size c.args.count) (Covers M) c.fit_in.result) (from_place c.args.runs.now (c.args.i + 1)) c.fit_in.ensures)

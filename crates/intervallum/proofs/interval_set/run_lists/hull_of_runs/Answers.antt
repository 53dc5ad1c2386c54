use Rattle.std.proofs.Common.{ℤ, ◌∙◌, ◌-◌, length, ap, arith, refl}
use Rattle.ivl_laws.proofs.Intervals.{some_is_not_crossed}
use Rattle.ivl_images.proofs.Images.{open_here}
use Rattle.ivl_images.proofs.Fitting.{hull_of_ends}
use Rattle.intervallum.proofs.interval_set.run_lists.hull_of_runs.Goals as goal

pub upper-requires : goal.upper-requires
upper-requires g c =
    let L = c.args.runs.now in
    let some = c.if-count-eq0.false in
    (some_is_not_crossed c.index-runs-count.result).1 (open_here L (length L - 1) c.index-runs-count.result c.requires (omega arith) c.index-runs-count.is)

pub returns : goal.returns
returns g c =
    let L = c.args.runs.now in
    let some = c.if-count-eq0.false in
    hull_of_ends L L (length L - 1) c.index-runs-0.result c.index-runs-count.result c.new.result refl c.requires (omega arith)
    c.index-runs-0.is c.index-runs-count.is
    (ap (λ (p : ℤ × ℤ). p.0) c.new.ensures.value ∙ c.lower.ensures.value) (ap (λ (p : ℤ × ℤ). p.1) c.new.ensures.value ∙ c.upper.ensures.value)

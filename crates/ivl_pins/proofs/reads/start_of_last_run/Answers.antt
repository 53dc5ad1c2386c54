use Rattle.std.proofs.Common.{◌<◌, ℤ, List, length, get_or, sym, ap, subst, ◌∙◌}
use Rattle.ivl_laws.specs.Sets.{HasSome, IsBetween}
use Rattle.ivl_pins.proofs.reads.start_of_last_run.Goals as goal

-- the run of a step is one of the runs, and each of these has a number
pub lower-requires : goal.lower-requires
lower-requires g c =
    let i = c.loop-run.run-index in
    let same = c.runs-run-items.ensures.same in
    let is = c.run-item.is ∙ ap (λ (runs : List (ℤ × ℤ)). get_or runs i c.run-item.result) same in
    subst (λ (run : ℤ × ℤ). HasSome (IsBetween run)) (sym is) (c.runs-run-items.ensures.filled i c.run-item.result (subst (λ (runs : List (ℤ × ℤ)). i < length runs) same c.loop-run-test.true))

use Rattle.std.proofs.Common.{◌≡◌, get_or, take_all, ap, ◌∙◌, arith}
use Rattle.std.proofs.lemmas.List.Sums.{sum_by_more, sum_by_more_le}
use Rattle.ivl_laws.specs.Bounds.{width_of}
use Rattle.ivl_laws.proofs.Widths.{total_width, count_is_total_width, total_width-le}
use Rattle.intervallum.proofs.interval_set.run_lists.size_of_runs.Goals as goal

pub grown-size-requires : goal.grown-size-requires
grown-size-requires g c =
    let L = c.args.runs.now in
    let i = c.loop-run.run-index in
    let p = c.run-item.result in
    let so_far = sum_by_more_le width_of L i p c.loop-run-test.true in
    let most = total_width-le g.B.Width.whole L c.requires.maximal c.requires.within in
    let here : width_of p ≡ width_of (get_or L i p) = ap width_of c.run-item.is in
    let before = c.loop-run.invariant in
    let wide = c.size.ensures.width in
    let range = g.met.B.Width.countable in
    omega (arith, so_far, most, here, before, wide, range)

pub loop-run-preserved : goal.loop-run-preserved
loop-run-preserved g c =
    let L = c.args.runs.now in
    let i = c.loop-run.run-index in
    let p = c.run-item.result in
    let more = sum_by_more width_of L i p c.loop-run-test.true in
    let here : width_of p ≡ width_of (get_or L i p) = ap width_of c.run-item.is in
    let before = c.loop-run.invariant in
    let wide = c.size.ensures.width in
    let sum = c.grown-size.ensures in
    omega (arith, more, here, before, wide, sum)

pub returns : goal.returns
returns g c =
    (count_is_total_width c.args.runs.now _ c.requires.maximal).1
    (c.loop-run.invariant ∙ ap total_width (take_all c.loop-run.run-index c.args.runs.now c.loop-run-test.false))

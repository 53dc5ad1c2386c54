use Rattle.std.proofs.Common.{◌∙◌, ℤ}
use Rattle.ivl_laws.proofs.Runs.{lower_end}
use Rattle.ivl_paged.proofs.Paging.{IsMiddle, both_halves, high_half, is_middle, low_half}
use Rattle.ivl_paged.proofs.pages.halves.Goals as goal

pub lower-middle-requires : goal.lower-middle-requires
lower-middle-requires g c =
    let d = c.index-runs-runs.result in
    let h : IsMiddle c.args.set.now d = is_middle c.args.set.now c.as_slice-runs.result.now d (c.as_slice-runs.ensures.value ∙ c.iter.ensures.rest) c.requires c.iter.ensures.runs.maximal c.index-runs-runs.is in
    let p : ℤ × ℤ = d in (p.0, lower_end p h.filled)

pub of-requires : goal.of-requires
of-requires g c =
    let d = c.index-runs-runs.result in
    let h : IsMiddle c.args.set.now d = is_middle c.args.set.now c.as_slice-runs.result.now d (c.as_slice-runs.ensures.value ∙ c.iter.ensures.rest) c.requires c.iter.ensures.runs.maximal c.index-runs-runs.is in
    low_half c.args.set.now _ d _ h c.lower-middle.ensures.value c.in_ok-low.ensures.members

pub of-requires-2 : goal.of-requires-2
of-requires-2 g c =
    let d = c.index-runs-runs.result in
    let h : IsMiddle c.args.set.now d = is_middle c.args.set.now c.as_slice-runs.result.now d (c.as_slice-runs.ensures.value ∙ c.iter.ensures.rest) c.requires c.iter.ensures.runs.maximal c.index-runs-runs.is in
    high_half c.args.set.now _ d _ h c.lower-middle.ensures.value c.in_ok-high.ensures.members

pub returns : goal.returns
returns g c =
    let d = c.index-runs-runs.result in
    let h : IsMiddle c.args.set.now d = is_middle c.args.set.now c.as_slice-runs.result.now d (c.as_slice-runs.ensures.value ∙ c.iter.ensures.rest) c.requires c.iter.ensures.runs.maximal c.index-runs-runs.is in
    rw (c.of.ensures, c.of-2.ensures)
    (both_halves c.args.set.now c.in_ok-low.low c.in_ok-high.high d (g.B.Width.value c.lower-middle.result) c.iter.ensures.runs.maximal h c.lower-middle.ensures.value c.in_ok-low.ensures.members c.in_ok-high.ensures.members)

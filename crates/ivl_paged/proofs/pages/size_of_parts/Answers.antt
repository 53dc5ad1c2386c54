use Rattle.std.proofs.Common.{◌≡◌, ◌∙◌, ◌+◌, ℕ, [], get_or, sym, subst, take}
use Rattle.std.proofs.lemmas.List.{get_or_default}
use Rattle.ivl_laws.specs.Counts.{IsCountOf}
use Rattle.ivl_laws.specs.Sets.{Intersection, IsBetween}
use Rattle.ivl_laws.specs.Runs.{Covers}
use Rattle.ivl_paged.specs.Pages.{flattened}
use Rattle.ivl_paged.proofs.Meeting.{parts_of_all, parts_of_fit, parts_of_next, parts_of_none}
use Rattle.ivl_paged.proofs.pages.size_of_parts.Goals as goal

pub loop-page-init : goal.loop-page-init
loop-page-init g c = parts_of_none c.args.pages.now (IsBetween c.args.interval.now) _ c.zero-count.ensures

pub add_in_range-count-requires : goal.add_in_range-count-requires
add_in_range-count-requires g c =
    let P = c.args.pages.now in
    let i = c.loop-page.page-index in
    let page : c.page-item.result ≡ get_or P i [] = c.page-item.is ∙ get_or_default P i _ [] c.loop-page-test.true in
    parts_of_fit g.B.Width.whole P (IsBetween c.args.interval.now) (i + 1) _ _ c.requires.runs g.met.B.Width.countable
    (parts_of_next P (IsBetween c.args.interval.now) i c.page-item.result _ _ c.requires.runs.maximal c.loop-page-test.true page c.loop-page.invariant c.size_within.ensures)

pub loop-page-preserved : goal.loop-page-preserved
loop-page-preserved g c =
    let P = c.args.pages.now in
    let i = c.loop-page.page-index in
    let page : c.page-item.result ≡ get_or P i [] = c.page-item.is ∙ get_or_default P i _ [] c.loop-page-test.true in
    subst (λ (k : ℕ). IsCountOf k (Intersection (Covers (flattened (take (i + 1) P))) (IsBetween c.args.interval.now))) (sym c.add_in_range-count.ensures)
    (parts_of_next P (IsBetween c.args.interval.now) i c.page-item.result _ _ c.requires.runs.maximal c.loop-page-test.true page c.loop-page.invariant c.size_within.ensures)

pub returns : goal.returns
returns g c = parts_of_all c.args.pages.now (IsBetween c.args.interval.now) c.loop-page.page-index _ c.loop-page-test.false c.loop-page.invariant

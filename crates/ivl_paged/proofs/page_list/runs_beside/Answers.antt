use Rattle.std.proofs.Common.{◌≡◌, ◌∙◌, ◌+◌, [], get_or, arith}
use Rattle.std.proofs.lemmas.List.{get_or_default}
use Rattle.ivl_paged.proofs.Counting.{length_cut, length_next}
use Rattle.ivl_paged.proofs.page_list.runs_beside.Goals as goal

pub overflow_sub-others : goal.overflow_sub-others
overflow_sub-others g c =
    let P = c.args.pages.now in
    let i = c.loop-page.page-index in
    let page : c.page-item.result ≡ get_or P i [] = c.page-item.is ∙ get_or_default P i _ [] c.loop-page-test.true in
    let next = length_next P c.page-item.result [] i c.loop-page-test.true page in
    let all = length_cut P (i + 1) in
    omega (arith, next, all, c.interval_count-others.ensures.count, c.loop-page.invariant, c.requires)

pub loop-page-preserved : goal.loop-page-preserved
loop-page-preserved g c =
    let P = c.args.pages.now in
    let i = c.loop-page.page-index in
    let page : c.page-item.result ≡ get_or P i [] = c.page-item.is ∙ get_or_default P i _ [] c.loop-page-test.true in
    let next = length_next P c.page-item.result [] i c.loop-page-test.true page in
    let all = length_cut P (i + 1) in
    omega (arith, next, all, c.interval_count-others.ensures.count, c.loop-page.invariant, c.requires)

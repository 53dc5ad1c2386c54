use Rattle.std.proofs.Common.{◌≡◌, ◌∙◌, [], get_or}
use Rattle.std.proofs.lemmas.List.{get_or_default}
use Rattle.ivl_paged.proofs.Freeing.{gap_page}
use Rattle.ivl_paged.proofs.gaps.gaps_beside.Goals as goal

pub returns : goal.returns
returns g c =
    let P = c.args.pages.now in
    let i = c.args.i in
    let page : c.set.result.now ≡ get_or P i [] = c.set.ensures.same ∙ c.page.ensures ∙ get_or_default P i _ [] c.requires.less in
    gap_page g.B.Width.whole P i c.set.result.now c.in_ok-gaps.gaps c.remove_interval.new.self c.remove_interval-2.new.self c.before-2.result c.after.result page c.in_ok-gaps.ensures.members c.in_ok-remove_interval.ensures.ok c.in_ok-remove_interval-2.ensures.ok
    c.before-2.ensures c.after.ensures

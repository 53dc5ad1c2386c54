use Rattle.std.proofs.Common.{◌∙◌, ◌++◌, List, ℤ, ap, take_all}
use Rattle.ivl_paged.specs.Pages.{flattened}
use Rattle.ivl_paged.proofs.Dividing.{copied_further, copied_none}
use Rattle.ivl_paged.proofs.pages.copies_behind.Goals as goal

pub loop-page-init : goal.loop-page-init
loop-page-init g c = copied_none c.args.pages.now c.args.copies

pub loop-page-preserved : goal.loop-page-preserved
loop-page-preserved g c =
    ap flattened c.in_ok-push.ensures.ok
    ∙ copied_further c.args.pages.now c.loop-page.copies (flattened c.args.copies) _ c.page-item.result c.loop-page.page-index c.loop-page-test.true c.loop-page.invariant (c.in_ok-copy_of.ensures ∙ c.page-item.is)

pub returns : goal.returns
returns g c = c.loop-page.invariant ∙ ap (λ (P : List (List (ℤ × ℤ))). flattened c.args.copies ++ flattened P) (take_all c.loop-page.page-index c.args.pages.now c.loop-page-test.false)

use Rattle.std.proofs.Common.{◌∙◌, ap}
use Rattle.std.proofs.lemmas.Result.{on_ok_weaker}
use Rattle.ivl_paged.specs.Pages.{flattened}
use Rattle.ivl_paged.proofs.Freeing.{page_behind}
use Rattle.ivl_paged.proofs.gaps.push_some.Goals as goal

pub returns : goal.returns
returns g c = on_ok_weaker c.push.result (λ made. ap flattened made ∙ page_behind c.args.pages.now c.args.set c.of.result c.of.ensures) c.push.ensures.ok

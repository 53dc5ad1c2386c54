use Rattle.std.proofs.Common.{◌∙◌, []}
use Rattle.std.proofs.lemmas.List.{get_or_default}
use Rattle.ivl_paged.proofs.pages.split.Goals as goal

pub split-requires-clause-parts : goal.split-requires-clause-parts
split-requires-clause-parts g c = c.in_ok-low.ensures ∙ c.set.ensures.same ∙ c.page.ensures ∙ get_or_default c.args.pages.now c.args.i _ [] c.requires.less

use Rattle.std.proofs.Common.{◌∙◌, ap, subst, sym}
use Rattle.std.specs.Prelude.{All}
use Rattle.ivl_lines.specs.Words.{words_between}
use Rattle.ivl_rules.specs.Rules.{AreDifferent}
use Rattle.ivl_store_lines.specs.Required.{each_pair}
use Rattle.ivl_store_lines.proofs.Relating.{none_found, pairs_different}
use Rattle.ivl_store_lines.proofs.solver.Solver.different.Goals as goal

pub require-requires : goal.require-requires
require-requires c =
    let once = none_found _ _ _ c.first_repeated.ensures c.in_default-first_repeated.is in
    let variables = c.deref.ensures.value ∙ c.in_ok-variables.ensures in
    subst (All AreDifferent) (sym (c.deref-2.ensures.value ∙ c.in_ok-rules.ensures ∙ ap each_pair variables))
    (pairs_different c.args.self.now.names (words_between c.args.names.now) once)

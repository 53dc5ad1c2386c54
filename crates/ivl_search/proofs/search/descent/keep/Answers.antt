use Rattle.std.proofs.Common.{sym, ◌∙◌}
use Rattle.std.proofs.lemmas.Bool.{false≢true}
use Rattle.ivl_search.proofs.Cuts.{single_point}
use Rattle.ivl_search.proofs.search.descent.keep.Goals as goal

pub returns-else-found-clause-point : goal.returns-else-found-clause-point
returns-else-found-clause-point g c =
    let one = single_point c.args.domains.now c.requires in
    (one.0, one.1, λ kept. absurd (false≢true (sym c.if-found.false ∙ kept)))

use Rattle.std.proofs.Common.{◌↔◌, ◌+◌, map, take, sym, subst}
use Rattle.std.proofs.lemmas.List.{take_rest}
use Rattle.ivl_buffers.specs.Links.{AreLinked}
use Rattle.ivl_buffers.proofs.Links.{linked_split}
use Rattle.ivl_buffers.proofs.run_lists.split_at_pair.Goals as goal

pub returns-clause-linked : goal.returns-clause-linked
returns-clause-linked g c =
    let pair = g.R.Pair.pair in
    let whole = g.R.Bound.Width.whole in
    let L = c.args.runs.now in
    let i = c.args.i in
    subst (λ M. (AreLinked whole (map pair (take (i + 1) L)) × AreLinked whole (map pair M)) ↔ AreLinked whole (map pair L)) (sym (take_rest L i)) (linked_split pair whole L i c.requires)

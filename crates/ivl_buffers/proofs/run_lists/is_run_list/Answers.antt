use Rattle.std.proofs.Common.{ℤ, List, map}
use Rattle.std.proofs.lemmas.Bool.{and_from, and_parts}
use Rattle.ivl_buffers.proofs.Links.{linked_is_list, list_is_linked}
use Rattle.ivl_buffers.proofs.run_lists.is_run_list.Goals as goal

pub returns : goal.returns
returns g c =
    let whole = g.R.Bound.Width.whole in
    let L : List (ℤ × ℤ) = map g.R.Pair.pair c.args.runs.now in (
      (λ t.
          let both = and_parts _ _ t in
          let ends = c.has_ends.ensures.0 both.0 in
          linked_is_list whole L ends.0 ends.1 (c.are_linked.ensures.0 both.1)),
      (λ r.
          let all = list_is_linked whole L r in
          and_from _ _ (c.has_ends.ensures.1 (all.0, all.1)) (c.are_linked.ensures.1 all.2)),
    )

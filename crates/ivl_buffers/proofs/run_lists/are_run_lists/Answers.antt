use Rattle.std.proofs.Common.{ℤ, List, map}
use Rattle.std.proofs.lemmas.Bool.{and_from, and_parts}
use Rattle.ivl_buffers.proofs.Links.{linked_is_list, list_is_linked}
use Rattle.ivl_buffers.proofs.run_lists.are_run_lists.Goals as goal

pub returns : goal.returns
returns g c =
    let whole = g.R.Bound.Width.whole in
    let A : List (ℤ × ℤ) = map g.R.Pair.pair c.args.a.now in
    let B : List (ℤ × ℤ) = map g.R.Pair.pair c.args.b.now in (
      (λ t.
          let all = and_parts _ _ t in
          let ends = and_parts _ _ all.0 in
          let first = c.has_ends.ensures.0 ends.0 in
          let second = c.has_ends-2.ensures.0 ends.1 in
          let links = c.are_both_linked.ensures.0 all.1 in
          (linked_is_list whole A first.0 first.1 links.0, linked_is_list whole B second.0 second.1 links.1)),
      (λ (r, s).
          let first = list_is_linked whole A r in
          let second = list_is_linked whole B s in
          and_from _ _ (and_from _ _ (c.has_ends.ensures.1 (first.0, first.1)) (c.has_ends-2.ensures.1 (second.0, second.1))) (c.are_both_linked.ensures.1 (first.2, second.2))),
    )

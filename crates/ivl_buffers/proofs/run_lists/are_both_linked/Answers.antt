use Rattle.std.proofs.lemmas.Bool.{and_from, and_parts}
use Rattle.ivl_buffers.proofs.run_lists.are_both_linked.Goals as goal

pub returns : goal.returns
returns g c = (
  λ t.
      let all = and_parts _ _ t in
      let most = and_parts _ _ all.0 in
      let parts = c.four_are_linked.ensures.0 most.0 in (
        c.split_at_pair.ensures.linked.0 (parts.0, c.split_at_pair-2.ensures.linked.0 (parts.1, c.are_linked-2.ensures.0 most.1)),
        c.split_at_pair-3.ensures.linked.0 (parts.2, c.split_at_pair-4.ensures.linked.0 (parts.3, c.are_linked-3.ensures.0 all.1)),
      ),
  λ (l, m).
      let first = c.split_at_pair.ensures.linked.1 l in
      let second = c.split_at_pair-2.ensures.linked.1 first.1 in
      let third = c.split_at_pair-3.ensures.linked.1 m in
      let fourth = c.split_at_pair-4.ensures.linked.1 third.1 in
      and_from _ _ (and_from _ _ (c.four_are_linked.ensures.1 (first.0, second.0, third.0, fourth.0)) (c.are_linked-2.ensures.1 second.1)) (c.are_linked-3.ensures.1 fourth.1),
)

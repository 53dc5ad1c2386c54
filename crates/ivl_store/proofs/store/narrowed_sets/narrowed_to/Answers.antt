use Rattle.ivl_laws.specs.Runs.{Covers}
use Rattle.intervallum.proofs.Equality.{differ_by_size, same_by_size}
use Rattle.ivl_store.proofs.NarrowedSets.{keeps_all_within, keeps_some_within}
use Rattle.ivl_store.proofs.store.narrowed_sets.narrowed_to.Goals as goal
use Rattle.ivl_store.proofs.store.narrowed_sets.narrowed_to.Goals.{then-ne, else-ne}

pub returns : goal.returns
returns g c =
    let w = g.B.Width.whole in
    let left = Covers c.in_ok-left.left in
    let x = Covers c.args.x.now in
    elim c.if-ne.branch [
      | then-ne b ↦ rw b.result-is (keeps_some_within w _ c.in_ok-left.left _ c.in_whole.ensures c.in_ok-left.ensures.members
          (differ_by_size g.met.B.Output.SizeNumber.ordered _ _ c.ne.result left x c.ne.ensures c.size.ensures c.size-2.ensures b.if-ne.true))
      | else-ne b ↦ rw b.result-is (keeps_all_within w _ c.in_ok-left.left _ c.in_whole.ensures c.in_ok-left.ensures.members
          (same_by_size g.met.B.Output.SizeNumber.ordered _ _ c.ne.result left x c.ne.ensures c.size.ensures c.size-2.ensures b.if-ne.false
          (λ z h. ((c.in_ok-left.ensures.members.members z).0 h).0)))
    ]

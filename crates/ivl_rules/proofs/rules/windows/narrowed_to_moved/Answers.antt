use Rattle.std.proofs.Common.{◌↔◌, sym}
use Rattle.std.proofs.lemmas.Int.{to_z-of_z}
use Rattle.std.specs.Prelude.{ℤ, ◌-ℤ◌, Some, None}
use Rattle.ivl_laws.specs.Runs.{Covers, IsRunsOf}
use Rattle.ivl_laws.specs.Sets.{IsBetween}
use Rattle.intervallum.proofs.Equality.{differ_by_size, same_by_size}
use Rattle.ivl_store.proofs.NarrowedSets.{keeps_all_within, keeps_some_within, left_same}
use Rattle.ivl_rules.proofs.rules.windows.narrowed_to_moved.Goals as goal
use Rattle.ivl_rules.proofs.rules.windows.narrowed_to_moved.Goals.{then-ne, else-ne}

pub returns : goal.returns
returns g c =
    let w = g.B.Width.whole in
    let left = Covers c.in_ok-left.left in
    let x = Covers c.args.x.now in
    let m : IsRunsOf c.in_ok-moved.moved (λ z. IsBetween w z × Covers c.args.y.now (z -ℤ c.args.by)) = rw (sym (to_z-of_z _ c.args.by c.ranges.by)) c.in_ok-moved.ensures in
    let agree : (z : ℤ) → x z → Covers c.in_ok-moved.moved z ↔ Covers c.args.y.now (z -ℤ c.args.by) = λ z h. ((λ k. ((m.members z).0 k).1), (λ k. (m.members z).1 (c.in_whole.ensures.within z h, k))) in
    elim c.if-ne.branch [
      | then-ne b ↦ rw b.result-is (left_same w _ (Covers c.in_ok-moved.moved) _ (Some c.in_ok-left.left) agree (keeps_some_within w _ c.in_ok-left.left _ c.in_whole.ensures c.in_ok-left.ensures.members
          (differ_by_size g.met.B.Output.SizeNumber.ordered _ _ c.ne.result left x c.ne.ensures c.size.ensures c.size-2.ensures b.if-ne.true)))
      | else-ne b ↦ rw b.result-is (left_same w _ (Covers c.in_ok-moved.moved) _ None agree (keeps_all_within w _ c.in_ok-left.left _ c.in_whole.ensures c.in_ok-left.ensures.members
          (same_by_size g.met.B.Output.SizeNumber.ordered _ _ c.ne.result left x c.ne.ensures c.size.ensures c.size-2.ensures b.if-ne.false
          (λ z h. ((c.in_ok-left.ensures.members.members z).0 h).0))))
    ]

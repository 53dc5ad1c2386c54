use Rattle.ivl_laws.specs.Sets.{Differences, Sums}
use Rattle.ivl_laws.specs.Runs.{Covers}
use Rattle.ivl_store.proofs.NarrowedSets.{left_same, one_is_left, summed, sums_turned}
use Rattle.ivl_store.proofs.store.narrowed_sets.narrowed_one_by_one.Goals as goal
use Rattle.ivl_store.proofs.store.narrowed_sets.narrowed_one_by_one.Goals.{then-is_singleton-3, else-is_singleton-3+in_ok-left_of_z}

pub returns-then-is_singleton-2-clause-at_z : goal.returns-then-is_singleton-2-clause-at_z
returns-then-is_singleton-2-clause-at_z g c =
    let X = Covers c.args.x.now in
    let Y = Covers c.args.y.now in
    left_same g.B.Width.whole c.args.z.now (Sums Y X) (Sums X Y) c.in_ok-left_of_y.left_of_z (λ v m. sums_turned Y X v) c.in_ok-left_of_y.ensures.at_z

pub returns-clause-at_z : goal.returns-clause-at_z
returns-clause-at_z g c =
    let X = Covers c.args.x.now in
    let Y = Covers c.args.y.now in
    let Z = Covers c.args.z.now in
    elim c.if-is_singleton-3.branch [
      | then-is_singleton-3 w ↦ rw w.left_of_z-is (let made = w.left_of_one-left_of_z in
          one_is_left g.B.Width.whole c.args.z.now c.args.y.now (Differences Z X) (Sums X Y) c.in_ok-left_of_y-2.left_of_y made.result made.ensures.runs
          (c.is_singleton-3.ensures.0 w.if-is_singleton-3.true) c.in_ok-left_of_y-2.ensures (summed X Y Z) (rw w.rest_of.ensures at made.ensures.stays) (rw w.rest_of.ensures at made.ensures.goes))
      | else-is_singleton-3+in_ok-left_of_z w ↦ rw w.left_of_z-is w.in_ok-left_of_z.ensures
    ]

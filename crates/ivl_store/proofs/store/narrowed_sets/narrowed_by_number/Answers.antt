use Rattle.ivl_laws.specs.Sets.{Differences}
use Rattle.ivl_laws.specs.Runs.{Covers}
use Rattle.ivl_store.proofs.NarrowedSets.{moved_are_sums, moved_within, one_is_left, only_at, turned}
use Rattle.ivl_store.proofs.store.narrowed_sets.narrowed_by_number.Goals as goal

pub left_of_moved-requires : goal.left_of_moved-requires
left_of_moved-requires g c =
    let only = only_at (Covers c.args.y.now) (g.B.Width.value c.lower.result) c.requires.single c.lower.ensures.member in
    rw c.rest_of-rest.ensures (moved_within g.B.Width.whole c.args.x.now c.args.y.now c.args.z.now c.in_ok-left_of_x.left_of_x c.in_ok-left_of_x.ensures (g.B.Width.value c.lower.result) only)

pub returns-clause-at_y : goal.returns-clause-at_y
returns-clause-at_y g c =
    let X = Covers c.args.x.now in
    let Y = Covers c.args.y.now in
    let Z = Covers c.args.z.now in
    let made = c.left_of_one-left_of_y in
    one_is_left g.B.Width.whole c.args.y.now c.args.x.now (Differences Z Y) (Differences Z X) c.in_ok-left_of_x.left_of_x made.result made.ensures.runs c.requires.single c.in_ok-left_of_x.ensures
    (turned X Y Z, turned Y X Z) (rw c.rest_of-rest.ensures at made.ensures.stays) (rw c.rest_of-rest.ensures at made.ensures.goes)

pub returns-clause-at_z : goal.returns-clause-at_z
returns-clause-at_z g c =
    let only = only_at (Covers c.args.y.now) (g.B.Width.value c.lower.result) c.requires.single c.lower.ensures.member in
    moved_are_sums g.B.Width.whole c.args.x.now c.args.y.now c.args.z.now c.in_ok-left_of_x.left_of_x c.in_ok-left_of_x.ensures (g.B.Width.value c.lower.result) only c.in_ok-left_of_z.left_of_z
    (rw c.rest_of-rest.ensures at c.in_ok-left_of_z.ensures)

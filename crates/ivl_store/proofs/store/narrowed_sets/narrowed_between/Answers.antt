use Rattle.std.proofs.Common.{◌∙◌, rules}
use mir.Syntax.{w128}
use mir.Val.{of_z, to_z}
use Rattle.ivl_laws.specs.Sets.{Differences, Only, Sums}
use Rattle.ivl_laws.specs.Runs.{Covers}
use Rattle.ivl_store.proofs.NarrowedSets.{distance_is, is_apart, left_same, none_stays, number_lacks, one_is_lost, only_at, stays_at_x, stays_at_z, summed, turned}
use Rattle.ivl_store.proofs.store.narrowed_sets.narrowed_between.Goals as goal

pub returns-in_default-clause-at_x : goal.returns-in_default-clause-at_x
returns-in_default-clause-at_x g c =
    let X = Covers c.args.x.now in
    let Y = Covers c.args.y.now in
    let Z = Covers c.args.z.now in
    let apart = is_apart g.B.Width.whole _ _ c.distance_of-distance.result g.met.B.Width.range c.lower.ensures.in_range c.lower-2.ensures.in_range c.distance_of-distance.ensures in
    let only_x = only_at X _ c.requires.single_x c.lower.ensures.member in
    let only_z = only_at Z _ c.requires.single_z c.lower-2.ensures.member in
    one_is_lost g.B.Width.whole c.args.x.now c.emptied.result (Differences Z Y) c.in_whole.ensures c.requires.single_x
    (λ some. none_stays X Y Z _ _ _ only_x only_z apart (c.in_default.ensures.none (search rules)) (turned X Y Z some)) c.emptied.ensures

pub returns-in_default-clause-at_y : goal.returns-in_default-clause-at_y
returns-in_default-clause-at_y g c =
    let X = Covers c.args.x.now in
    let Z = Covers c.args.z.now in
    let apart = is_apart g.B.Width.whole _ _ c.distance_of-distance.result g.met.B.Width.range c.lower.ensures.in_range c.lower-2.ensures.in_range c.distance_of-distance.ensures in
    let only_x = only_at X _ c.requires.single_x c.lower.ensures.member in
    let only_z = only_at Z _ c.requires.single_z c.lower-2.ensures.member in
    left_same g.B.Width.whole c.args.y.now (Only (to_z w128 (of_z w128 c.distance_of-distance.result))) (Differences Z X) c.nothing_of-none_of_y.result (λ v m. distance_is X Z _ _ _ only_x only_z apart v)
    (number_lacks g.B.Width.whole c.args.y.now _ c.nothing_of-none_of_y.result c.in_whole-2.ensures (c.in_default.ensures.none (search rules)) c.nothing_of-none_of_y.ensures.none c.nothing_of-none_of_y.ensures.some)

pub returns-in_default-clause-at_z : goal.returns-in_default-clause-at_z
returns-in_default-clause-at_z g c =
    let X = Covers c.args.x.now in
    let Y = Covers c.args.y.now in
    let Z = Covers c.args.z.now in
    let apart = is_apart g.B.Width.whole _ _ c.distance_of-distance.result g.met.B.Width.range c.lower.ensures.in_range c.lower-2.ensures.in_range c.distance_of-distance.ensures in
    let only_x = only_at X _ c.requires.single_x c.lower.ensures.member in
    let only_z = only_at Z _ c.requires.single_z c.lower-2.ensures.member in
    one_is_lost g.B.Width.whole c.args.z.now c.emptied-in_default.result (Sums X Y) c.in_whole-3.ensures c.requires.single_z
    (λ some. none_stays X Y Z _ _ _ only_x only_z apart (c.in_default.ensures.none (search rules)) ((summed X Y Z).1 some)) c.emptied-in_default.ensures

pub returns-clause-at_x : goal.returns-clause-at_x
returns-clause-at_x g c =
    let X = Covers c.args.x.now in
    let Y = Covers c.args.y.now in
    let Z = Covers c.args.z.now in
    let apart = is_apart g.B.Width.whole _ _ c.distance_of-distance.result g.met.B.Width.range c.lower.ensures.in_range c.lower-2.ensures.in_range c.distance_of-distance.ensures in
    let only_x = only_at X _ c.requires.single_x c.lower.ensures.member in
    let only_z = only_at Z _ c.requires.single_z c.lower-2.ensures.member in
    (c.in_whole.ensures, stays_at_x X Y Z _ _ _ only_x only_z apart c.in-Some.ensures.is.1)

pub returns-clause-at_y : goal.returns-clause-at_y
returns-clause-at_y g c =
    let X = Covers c.args.x.now in
    let Z = Covers c.args.z.now in
    let apart = is_apart g.B.Width.whole _ _ c.distance_of-distance.result g.met.B.Width.range c.lower.ensures.in_range c.lower-2.ensures.in_range c.distance_of-distance.ensures in
    let only_x = only_at X _ c.requires.single_x c.lower.ensures.member in
    let only_z = only_at Z _ c.requires.single_z c.lower-2.ensures.member in
    left_same g.B.Width.whole c.args.y.now (Only (g.B.Width.value c.in-Some.value)) (Differences Z X) c.in_ok-left_of_y.left_of_y
    (λ v m. distance_is X Z _ _ _ only_x only_z (c.in-Some.ensures.is.0 ∙ apart) v) c.in_ok-left_of_y.ensures

pub returns-clause-at_z : goal.returns-clause-at_z
returns-clause-at_z g c =
    let X = Covers c.args.x.now in
    let Y = Covers c.args.y.now in
    let Z = Covers c.args.z.now in
    let apart = is_apart g.B.Width.whole _ _ c.distance_of-distance.result g.met.B.Width.range c.lower.ensures.in_range c.lower-2.ensures.in_range c.distance_of-distance.ensures in
    let only_x = only_at X _ c.requires.single_x c.lower.ensures.member in
    let only_z = only_at Z _ c.requires.single_z c.lower-2.ensures.member in
    (c.in_whole-3.ensures, stays_at_z X Y Z _ _ _ only_x only_z apart c.in-Some.ensures.is.1)

use Rattle.ivl_laws.specs.Sets.{Only, Sums}
use Rattle.ivl_laws.specs.Runs.{Covers}
use Rattle.intervallum.proofs.Equality.{differ_by_size, same_by_size}
use Rattle.ivl_store.proofs.NarrowedSets.{count_moved, part_left}
use Rattle.ivl_store.proofs.store.narrowed_sets.left_of_moved.Goals as goal

pub returns-then-ne : goal.returns-then-ne
returns-then-ne g c =
    let w = g.B.Width.whole in
    let k = g.B.Width.value c.args.by in
    let moved = Sums (Covers c.args.rest.now) (Only k) in
    let count = count_moved w c.args.rest.now k _ c.in_whole-2.ensures.maximal (λ z s. c.in_whole.ensures.within z (c.requires z s)) c.size.ensures in
    part_left w c.args.z.now c.in_ok-add.field-0 moved c.in_whole.ensures c.requires c.in_ok-add.ensures.members
    (differ_by_size g.met.B.Output.SizeNumber.ordered _ _ c.ne.result moved (Covers c.args.z.now) c.ne.ensures count c.size-2.ensures c.if-ne.true)

pub returns : goal.returns
returns g c =
    let w = g.B.Width.whole in
    let k = g.B.Width.value c.args.by in
    let moved = Sums (Covers c.args.rest.now) (Only k) in
    let count = count_moved w c.args.rest.now k _ c.in_whole-2.ensures.maximal (λ z s. c.in_whole.ensures.within z (c.requires z s)) c.size.ensures in
    let same = same_by_size g.met.B.Output.SizeNumber.ordered _ _ c.ne.result moved (Covers c.args.z.now) c.ne.ensures count c.size-2.ensures c.if-ne.false c.requires in
    (c.in_whole.ensures, λ z m. (same z).1 m)

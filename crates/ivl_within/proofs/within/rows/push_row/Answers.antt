use Rattle.std.proofs.Common.{ℤ, List, ◌+◌, map, subst, take, take_all}
use Rattle.ivl_laws.specs.Sets.{SameMembers, Union}
use Rattle.ivl_laws.specs.Runs.{Covers}
use Rattle.ivl_images.proofs.Images.{open_here}
use Rattle.ivl_within.specs.Within.{Clipped, pair_by}
use Rattle.ivl_within.proofs.Clipping.{row_grows, whole_pushed, whole_window}
use Rattle.ivl_within.proofs.Reaching.{row_has, row_is}
use Rattle.ivl_within.proofs.within.rows.push_row.Goals as goal

pub pair_in_window-part-requires-clause-right : goal.pair_in_window-part-requires-clause-right
pair_in_window-part-requires-clause-right g c = open_here c.runs_within-met.result.now c.loop-other.other-index c.other-item.result c.runs_within-met.ensures.within.maximal c.loop-other-test.true c.other-item.is

pub loop-other-preserved : goal.loop-other-preserved
loop-other-preserved g c = row_grows c.args.window (pair_by c.args.op c.args.run) c.args.entries.now.items c.loop-other.entries.items c.push.new.self.items c.runs_within-met.result.now c.loop-other.other-index c.other-item.result c.pair_in_window-part.result
    c.loop-other-test.true c.other-item.is c.in_ok-push.ensures.items c.pair_in_window-part.ensures c.loop-other.invariant

pub returns-then-eq-clause-added : goal.returns-then-eq-clause-added
returns-then-eq-clause-added g c =
    let met = c.runs_within-met.result.now in
    let f = pair_by c.args.op c.args.run in
    let n = c.loop-other.other-index + 1 in
    whole_window c.args.window c.args.entries.now.items c.push.new.self.items (Covers (map f (take n met))) (Covers (map f c.args.right.now))
    (row_grows c.args.window f c.args.entries.now.items c.loop-other.entries.items c.push.new.self.items met c.loop-other.other-index c.other-item.result c.pair_in_window-part.result
    c.loop-other-test.true c.other-item.is c.in_ok-push.ensures.items c.pair_in_window-part.ensures c.loop-other.invariant)
    (row_has c.args.op g.B.Width.whole c.args.window c.args.run c.reach.result c.args.right.now met c.requires.filled c.requires.right c.reach.ensures c.runs_within-met.ensures.members n)
    (whole_pushed c.args.window c.pair_in_window-part.result c.loop-other.entries.items c.push.new.self.items c.in_ok-push.ensures.items (c.eq.ensures.members.0 c.if-eq.true))

pub returns-then-eq-clause-whole : goal.returns-then-eq-clause-whole
returns-then-eq-clause-whole g c = λ _. whole_pushed c.args.window c.pair_in_window-part.result c.loop-other.entries.items c.push.new.self.items c.in_ok-push.ensures.items (c.eq.ensures.members.0 c.if-eq.true)

pub returns-clause-added : goal.returns-clause-added
returns-clause-added g c =
    let met = c.runs_within-met.result.now in
    let P : List (ℤ × ℤ) → Type 0 = λ N. SameMembers (Covers c.loop-other.entries.items) (Union (Covers c.args.entries.now.items) (Clipped c.args.window (Covers (map (pair_by c.args.op c.args.run) N)))) in
    row_is c.args.op g.B.Width.whole c.args.window c.args.run c.reach.result c.args.right.now met c.requires.filled c.requires.right c.reach.ensures c.runs_within-met.ensures.members
    c.args.entries.now.items c.loop-other.entries.items (subst P (take_all c.loop-other.other-index met c.loop-other-test.false) c.loop-other.invariant)

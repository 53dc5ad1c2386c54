use Rattle.ivl_laws.proofs.Adding.{untrue}
use Rattle.ivl_paged.proofs.Walking.{in_hand_passed, in_hand_stays}
use Rattle.ivl_paged.proofs.paged_set.walks.read_to.Goals as goal

pub returns-then-ends_from : goal.returns-then-ends_from
returns-then-ends_from g c = in_hand_stays (g.B.Width.value c.args.value) c.args.left.now c.args.in_hand (c.ends_from.ensures.0 c.if-ends_from.true)

pub returns : goal.returns
returns g c =
    in_hand_passed (g.B.Width.value c.args.value) c.args.left.now c.args.in_hand c.next_to.result c.next_to.new.left (untrue _ c.if-ends_from.false c.ends_from.ensures) c.next_to.ensures

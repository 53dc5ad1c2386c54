use Rattle.ivl_laws.proofs.Orders.{le_number}
use Rattle.ivl_places.proofs.Inclusions.{end_below, passed_more, passed_none}
use Rattle.ivl_walks.proofs.Walking.{nothing_left}
use Rattle.intervallum.proofs.steps.inclusion.skip_below.Goals as goal

pub skip-init : goal.skip-init
skip-init g c = passed_none (g.B.Width.value c.args.value) c.args.walk.now.left

pub skip-preserved : goal.skip-preserved
skip-preserved g c =
    passed_more (g.B.Width.value c.args.value) c.args.walk.now.left c.skip.walk.left c.advance.new.self.left c.in-Some.run' c.in-Some.ensures.first c.advance.ensures.left
    (end_below (g.B.Width.value c.args.value) (g.B.Width.value c.upper.result) c.in-Some.run' c.le.result c.upper.ensures.value (le_number g.met.B.Width.ordered _ _ _ c.le.ensures) c.if-le.false)
    c.skip.invariant

pub returns-clause-first : goal.returns-clause-first
returns-clause-first g c = nothing_left c.skip.walk.left c.in_default.ensures.first

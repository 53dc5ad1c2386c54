use Rattle.std.proofs.Common.{◌∙◌, sym}
use Rattle.std.proofs.lemmas.Bool.{true≢false}
use Rattle.ivl_store_lines.specs.Solved.{IsExtremeAt}
use Rattle.ivl_store_lines.proofs.Nothing.{not_full}
use Rattle.ivl_store_lines.proofs.Points.{best_none, best_told}
use Rattle.ivl_store_lines.proofs.solver.Solver.best.Goals as goal

pub returns-in-Ok-clause-best : goal.returns-in-Ok-clause-best
returns-in-Ok-clause-best c =
    let best = c.in-Ok.best in
    best_told (IsExtremeAt c.args.extreme) (λ point. point.items) c.args.name.now c.args.self.now c.in_ok-variable.variable c.rules-rules.result.now c.domains-domains.result.now
    best.point best.end c.limits-limits.result.nodes c.limits-limits.result.solutions
    c.in_ok-variable.ensures.ok c.rules-rules.ensures.same c.domains-domains.ensures c.in-Ok.ensures.sound c.in-Ok.ensures.best c.in-Ok.ensures.none c.in-Ok.ensures.bounded
    (not_full c.limits-limits.result.nodes c.limits-limits.result.solutions best.end c.in-Ok.ensures.visited c.limits-limits.ensures.solutions c.limits-limits.ensures.fewer)
    (λ e. true≢false (sym (c.has_empty.ensures.1 e) ∙ c.if-has_empty.false)) c.limits-limits.ensures.nodes c.in-Ok.ensures.enough

pub returns-then-has_empty-clause-best : goal.returns-then-has_empty-clause-best
returns-then-has_empty-clause-best c =
    best_none (IsExtremeAt c.args.extreme) (λ point. point.items) c.args.name.now c.args.self.now c.in_ok-variable.variable c.none.result.point c.none.result.end
    c.in_ok-variable.ensures.ok (c.has_empty.ensures.0 c.if-has_empty.true) c.none.ensures.none c.none.ensures.all

use Rattle.std.proofs.Common.{◌∙◌, map, subst, sym}
use Rattle.std.proofs.lemmas.Bool.{true≢false}
use Rattle.ivl_search.specs.Points.{Finds, SolvesRules}
use Rattle.ivl_search.specs.Budget.{nodes_enough}
use Rattle.ivl_store_lines.specs.Solving.{domain_range}
use Rattle.ivl_store_lines.proofs.Nothing.{finds_none, not_used_up}
use Rattle.ivl_store_lines.proofs.Points.{finds_plain}
use Rattle.ivl_store_lines.proofs.solver.Solver.solutions.Goals as goal

pub returns-in-Ok-clause-finds : goal.returns-in-Ok-clause-finds
returns-in-Ok-clause-finds c =
    let found = c.in-Ok.found in
    let points = map (λ point. point.items) found.points.items in
    subst (λ domains. Finds (SolvesRules c.args.self.now.rules domains) points found.end) c.domains.ensures
    (subst (λ rules. Finds (SolvesRules rules c.domains.result.now) points found.end) c.rules.ensures.same
    (finds_plain (λ point. point.items) found.points.items (SolvesRules c.rules.result.now c.domains.result.now) found.end c.in-Ok.ensures.sound c.in-Ok.ensures.once c.in-Ok.ensures.complete))

pub returns-in-Ok-clause-enough : goal.returns-in-Ok-clause-enough
returns-in-Ok-clause-enough c =
    not_used_up (nodes_enough domain_range) c.args.self.now c.rules.result.now c.domains.result.now c.limits-limits.result.nodes c.in-Ok.found.end
    c.rules.ensures.same c.domains.ensures c.limits-limits.ensures.nodes c.in-Ok.ensures.enough

pub returns-then-has_empty-clause-finds : goal.returns-then-has_empty-clause-finds
returns-then-has_empty-clause-finds c =
    rw c.new.ensures.items (finds_none c.args.self.now.rules c.args.self.now.domains (c.has_empty.ensures.0 c.if-has_empty.true))

pub returns-in-Ok-clause-known : goal.returns-in-Ok-clause-known
returns-in-Ok-clause-known c = λ e. absurd (true≢false (sym (c.has_empty.ensures.1 e) ∙ c.if-has_empty.false))

use Rattle.std.proofs.Common.{◌∙◌, [], refl, sym}
use Rattle.std.proofs.lemmas.Bool.{true≢false}
use Rattle.ivl_search.specs.Budget.{nodes_enough}
use Rattle.ivl_store_lines.specs.Solving.{domain_range}
use Rattle.ivl_store_lines.proofs.Nothing.{finds_none, not_used_up}
use Rattle.ivl_store_lines.proofs.solver.Solver.count.Goals as goal

pub returns-then-has_empty-clause-found : goal.returns-then-has_empty-clause-found
returns-then-has_empty-clause-found c = ([], refl, finds_none c.args.self.now.rules c.args.self.now.domains (c.has_empty.ensures.0 c.if-has_empty.true))

pub returns-in-Ok-clause-known : goal.returns-in-Ok-clause-known
returns-in-Ok-clause-known c = λ e. absurd (true≢false (sym (c.has_empty.ensures.1 e) ∙ c.if-has_empty.false))

pub returns-in-Ok-clause-enough : goal.returns-in-Ok-clause-enough
returns-in-Ok-clause-enough c =
    not_used_up (nodes_enough domain_range) c.args.self.now c.rules.result.now c.domains.result.now c.limits-limits.result.nodes c.in-Ok.counted.1
    c.rules.ensures.same c.domains.ensures c.limits-limits.ensures.nodes c.in-Ok.ensures.enough

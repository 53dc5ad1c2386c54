use Rattle.std.proofs.Common.{◌≡◌, ◌≤◌, ◌+◌, ◌*◌, ℕ, length, map, max}
use Rattle.std.specs.Prelude.{option_map}
use Rattle.ivl_search.specs.Best.{IsBetter}
use Rattle.ivl_search.specs.Budget.{nodes_each, points_of}
use Rattle.ivl_search.specs.Points.{ImprovesTo, SolvesRules}
use Rattle.ivl_search.proofs.Better.{AreAhead}
use Rattle.ivl_search.proofs.search.optimum.best_of.Given as goal

abbrev pub invariant-loop-left : goal.invariant-loop-left
invariant-loop-left g l = record {
  rules : l.network.rules ≡ l.fn.network.rules;
  kept_count : length l.network.domains ≡ length l.fn.network.domains;
  ahead : AreAhead (λ point. map g.B.Width.value point.items) l.wanted l.variable (SolvesRules l.fn.network.rules l.fn.network.domains) l.best (SolvesRules l.fn.network.rules l.network.domains);
  found : ℕ;
  improves : ImprovesTo (λ old new. IsBetter l.wanted old new) l.variable (SolvesRules l.fn.network.rules l.fn.network.domains) found (option_map (λ point. map g.B.Width.value point.items) l.best);
  counted : found + l.left.solutions ≡ l.fn.limits.solutions;
  visited : found + l.left.nodes ≤ l.fn.limits.nodes;
  spent : l.fn.limits.nodes + 2 * points_of g.B.Width.whole l.network.domains * nodes_each l.fn.network.rules
      ≤ l.left.nodes + 2 * max 1 (points_of g.B.Width.whole l.fn.network.domains) * nodes_each l.fn.network.rules;
}

abbrev pub decreases-loop-left : goal.decreases-loop-left
decreases-loop-left g l = l.left.nodes

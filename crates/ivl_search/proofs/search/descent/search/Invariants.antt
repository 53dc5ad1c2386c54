use Rattle.std.proofs.Common.{◌≡◌, ◌+◌, ◌/◌, ◌≤◌, ◌++◌, ℕ, List, length, map, true}
use Rattle.std.specs.Prelude.{ℤ}
use Rattle.ivl_network.specs.Queue.{unsettled_count}
use Rattle.ivl_network.specs.Trail.{RulesPast}
use Rattle.ivl_search.specs.Points.{SolvesRules}
use Rattle.ivl_search.proofs.Paths.{IsPath, Rest}
use Rattle.ivl_search.proofs.Progress.{IsLeft}
use Rattle.ivl_search.proofs.Rooms.{HasRoom, nodes_here, nodes_root}
use Rattle.ivl_search.specs.Budget.{points_of}
use Rattle.ivl_search.proofs.search.descent.search.Given as goal

abbrev pub invariant-loop-left : goal.invariant-loop-left
invariant-loop-left g l = record {
  rules : l.network.rules ≡ l.fn.network.rules;
  kept_count : length l.network.domains ≡ length l.fn.network.domains;
  nodes : l.left.nodes ≤ l.fn.left.nodes;
  unsettled : (unsettled_count l.network.settled) ≤ length l.fn.network.rules;
  is_kept : l.found.is_kept ≡ l.fn.found.is_kept;
  pasts : List RulesPast;
  marked : l.network.marked ≡ l.fn.network.marked ++ pasts;
  path : IsPath g.B.Width.value l.wanted g.B.Width.whole l.fn.network.rules (length l.fn.network.domains) (length l.fn.network.marked)
      (SolvesRules l.fn.network.rules l.fn.network.domains) l.path.items pasts l.network.domains;
  more : List (List ℤ);
  left : IsLeft (SolvesRules l.fn.network.rules l.fn.network.domains) more (Rest g.B.Width.value l.wanted l.fn.network.rules l.path.items pasts l.network.domains);
  kept : l.fn.found.is_kept ≡ true → map (λ point. map g.B.Width.value point.items) l.found.points.items ≡ map (λ point. map g.B.Width.value point.items) l.fn.found.points.items ++ more;
  counted : length more + l.left.solutions ≡ l.fn.left.solutions;
  visited : l.fn.left.solutions + l.left.nodes ≤ l.left.solutions + l.fn.left.nodes;
  need : ℕ;
  rooms : HasRoom g.B.Width.value l.wanted g.B.Width.whole (length l.fn.network.rules / 500 + 1) l.path.items pasts need;
  spent : l.fn.left.nodes + (need + nodes_here (length l.fn.network.rules / 500 + 1) (points_of g.B.Width.whole l.network.domains) (unsettled_count l.network.settled))
      ≤ l.left.nodes + nodes_root (length l.fn.network.rules / 500 + 1) (points_of g.B.Width.whole l.fn.network.domains);
}

abbrev pub decreases-loop-left : goal.decreases-loop-left
decreases-loop-left g l = l.left.nodes

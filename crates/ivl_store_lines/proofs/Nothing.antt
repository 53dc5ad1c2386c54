-- What is known of a search before it begins: that there is no solution once a domain is empty, and whether it has nodes enough.
use Rattle.std.proofs.Common.{◌≡◌, ◌≢◌, ◌∙◌, ◌<◌, ◌≤◌, ◌^◌, ◌-◌, ◌/◌, ℕ, ℤ, [], List, arith, get_or, subst, sym}
use Rattle.std.specs.Prelude.{Any}
use Rattle.std.proofs.lemmas.List.{get_or_default}
use Rattle.std.proofs.lemmas.List.Elements.{All-nil}
use Rattle.ivl_laws.specs.Runs.{Covers}
use Rattle.ivl_search.specs.declared.search.End.{End}
use Rattle.ivl_search.specs.declared.search.End.TheVariants.{All as AllFound, Nodes, Solutions}
use Rattle.ivl_search.specs.Points.{Finds, SolvesRules, coordinate}
use Rattle.ivl_rules.specs.declared.rules.Rule.{Rule}
use Rattle.ivl_store_lines.specs.Solved.{HasNodes}
use Rattle.ivl_store_lines.specs.Solving.{State}

pub none_solves : (rules : List Rule) (domains : List (List (ℤ × ℤ))) → Any (λ L. L ≡ []) domains → (point : List ℤ) → SolvesRules rules domains point → ⊥
none_solves rules domains e point s =
    let is : get_or domains e.0 [] ≡ [] = sym (get_or_default domains e.0 e.1 [] e.2) ∙ e.3 ∙ e.4 in
    subst (λ L. Covers L (coordinate point e.0)) is (s.members e.0 e.2)

-- so the empty list has all solutions
pub finds_none : (rules : List Rule) (domains : List (List (ℤ × ℤ))) → Any (λ L. L ≡ []) domains → Finds (SolvesRules rules domains) [] AllFound
finds_none rules domains e = record {
  sound = All-nil (SolvesRules rules domains);
  once = tt;
  complete = (λ _ point s. absurd (none_solves rules domains e point s));
}

-- a search that used its nodes up had not enough
pub not_used_up : (needed : List Rule → List (List (ℤ × ℤ)) → ℕ) (state : State) (rules : List Rule) (domains : List (List (ℤ × ℤ))) (nodes : ℕ) (end : End)
    → rules ≡ state.rules → domains ≡ state.domains → nodes ≡ state.limit / 500 → (end ≡ Nodes → nodes < needed rules domains)
    → HasNodes (needed state.rules state.domains) state → end ≢ Nodes
not_used_up needed state rules domains nodes end same_rules same_domains as_many enough has used =
    let less : nodes < needed state.rules state.domains = rw (← same_rules, ← same_domains) (enough used) in
    let most : needed state.rules state.domains ≤ nodes = rw as_many has in
    not_both (needed state.rules state.domains) nodes less most
  where
    not_both : (a n : ℕ) → n < a → a ≤ n → ⊥
    not_both a n less most = omega (arith, less, most)

-- nor did it find as many as it may, where it has fewer nodes than that
pub not_full : (nodes solutions : ℕ) (end : End) → (end ≡ Solutions → solutions ≤ nodes) → solutions ≡ 2 ^ 64 - 1 → nodes < 2 ^ 64 - 1 → end ≢ Solutions
not_full nodes solutions end visited as_many few full =
    let most = visited full in
    omega (arith, most, as_many, few)

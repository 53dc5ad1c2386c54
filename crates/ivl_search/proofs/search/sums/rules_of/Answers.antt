use Rattle.std.proofs.Common.{◌≡◌, ◌<◌, ◌+◌, ◌∷◌, ◌++◌, ℕ, List, [], ap, get_or, length, map, sym, take, ◌∙◌}
use Rattle.std.proofs.lemmas.List.{map_push, take_all, take_more}
use Rattle.ivl_store.specs.declared.store.constraint.Constraint.{Constraint}
use Rattle.ivl_rules.specs.declared.rules.Rule.{Rule}
use Rattle.ivl_rules.specs.declared.rules.Rule.TheVariants.{Sum}
use Rattle.ivl_search.proofs.search.sums.rules_of.Goals as goal

one_more : (constraints : List Constraint) (k : ℕ) (e : Constraint) (old new : List Rule) → k < length constraints → old ≡ map Sum (take k constraints)
    → new ≡ old ++ Sum (get_or constraints k e) ∷ [] → new ≡ map Sum (take (k + 1) constraints)
one_more constraints k e old new lt so_far pushed =
    pushed ∙ ap (λ rules. rules ++ Sum (get_or constraints k e) ∷ []) so_far ∙ sym (ap (map Sum) (take_more constraints k e lt) ∙ map_push Sum (take k constraints) (get_or constraints k e))

pub loop-constraint-preserved : goal.loop-constraint-preserved
loop-constraint-preserved c =
    one_more c.args.constraints.now c.loop-constraint.constraint-index _ c.loop-constraint.rules.items _ c.loop-constraint-test.true c.loop-constraint.invariant c.in_ok-push.ensures.items

pub returns : goal.returns
returns c = c.loop-constraint.invariant ∙ ap (map Sum) (take_all c.loop-constraint.constraint-index c.args.constraints.now c.loop-constraint-test.false)

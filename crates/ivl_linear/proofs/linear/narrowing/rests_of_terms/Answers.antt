use Rattle.std.proofs.Common.{◌≡◌, ◌+◌, ◌⊎◌, inl, inr, ℤ, pos, List, [], drop, length, arith, refl, subst}
use Rattle.ivl_laws.specs.Families.{set_at}
use Rattle.ivl_linear.specs.declared.linear.Term.{Term}
use Rattle.ivl_linear.specs.Linear.{HasTermOf, term_at}
use Rattle.ivl_linear.specs.Rests.{AreRestsOf}
use Rattle.ivl_linear.proofs.Collecting.{below_names, rests_all, rests_more, rests_none, seen_next}
use Rattle.ivl_linear.proofs.Support.{drop_back, holds_at, named_by_term, named_of}
use Rattle.ivl_linear.proofs.linear.narrowing.rests_of_terms.Goals as goal

pub loop-k-init : goal.loop-k-init
loop-k-init g c = rw c.new-rests.ensures.items (rests_none c.args.terms.now c.args.relation c.args.domains.now)

pub loop-k-preserved : goal.loop-k-preserved
loop-k-preserved g c =
    let terms = c.args.terms.now in let k = c.loop-k.k in let d : Term = record { coefficient = pos 0; variable = 0 } in let t = term_at terms k in
    let named = named_of terms t (holds_at terms k d c.loop-k-test.true) in
    rw c.in_ok-push_rest.ensures
    (rests_more terms c.args.relation c.args.domains.now _ _ t.variable c.in_ok-rest.rest c.loop-k.rests.items
    (below_names (length c.args.domains.now) terms c.args.relation c.requires.present k d c.loop-k-test.true) (named_by_term terms c.args.relation t.variable named)
    (λ i s. subst (λ (r : List Term). (i ≡ t.variable) ⊎ (HasTermOf terms i × (¬ (HasTermOf r i)))) (drop_back terms k d c.loop-k-test.true) (seen_next terms t (drop (k + 1) terms) i s))
    c.in_ok-rest.ensures c.loop-k.invariant)

pub returns : goal.returns
returns g c = rests_all c.args.terms.now c.args.relation c.args.domains.now c.loop-k.k c.loop-k.rests.items c.loop-k-test.false c.loop-k.invariant

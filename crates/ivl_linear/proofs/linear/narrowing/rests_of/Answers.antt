use Rattle.std.proofs.Common.{◌≡◌, ◌<◌, ◌⊎◌, inl, inr, ℕ, [], length, get_or, arith, refl, sym, subst}
use Rattle.std.proofs.lemmas.Int.{ints}
use Rattle.ivl_laws.specs.Families.{set_at}
use Rattle.ivl_linear.specs.declared.linear.Relation.{Relation}
use Rattle.ivl_linear.specs.declared.linear.Relation.TheVariants.{Tells}
use Rattle.ivl_linear.specs.Linear.{HasLinearPointAt, HasTermOf, LinearNames, NamesBelow, NamesEachOnce}
use Rattle.ivl_linear.specs.Ends.{IsRestOf}
use Rattle.ivl_linear.proofs.Collecting.{names_terms, rests_more}
use Rattle.ivl_linear.proofs.linear.narrowing.rests_of.Goals as goal
use mir.Syntax.{w64}
use mir.Val.{to_z, of_z}

pub returns-in-AtMost : goal.returns-in-AtMost
returns-in-AtMost g c = names_terms c.args.terms.now c.args.relation _ c.args.domains.now c.in_ok-rests.rests.items c.in-AtMost.is (λ i n. n) c.in_ok-rests.ensures

pub returns-in-AtLeast : goal.returns-in-AtLeast
returns-in-AtLeast g c = names_terms c.args.terms.now c.args.relation _ c.args.domains.now c.in_ok-rests.rests.items c.in-AtLeast.is (λ i n. n) c.in_ok-rests.ensures

pub returns-in-Differs : goal.returns-in-Differs
returns-in-Differs g c = names_terms c.args.terms.now c.args.relation _ c.args.domains.now c.in_ok-rests.rests.items c.in-Differs.is (λ i n. n) c.in_ok-rests.ensures

pub returns-in_ok-push_rest-in-Tells : goal.returns-in_ok-push_rest-in-Tells
returns-in_ok-push_rest-in-Tells g c =
    let terms = c.args.terms.now in let x = c.in-Tells.variable in let bound = c.in-Tells.bound in let domains = c.args.domains.now in let sets = set_at domains in
    let is = c.in-Tells.is in
    let eb : to_z w64 (of_z w64 bound) ≡ bound = omega (arith, ints) in
    let apart : NamesEachOnce terms (Tells x bound) = subst (NamesEachOnce terms) is c.requires.different in
    let below : NamesBelow (length domains) terms (Tells x bound) = subst (NamesBelow (length domains) terms) is c.requires.present in
    let named : LinearNames terms c.args.relation x = subst (λ r. LinearNames terms r x) (sym is) (inl refl) in
    let split : (i : ℕ) → LinearNames terms c.args.relation i → (i ≡ x) ⊎ HasTermOf terms i = (λ i n. subst (λ r. LinearNames terms r i) is n) in
    let left : IsRestOf (get_or domains x []) (HasLinearPointAt terms (Tells x bound) sets x) c.in_ok-rest-in-Tells.rest = rw eb at (c.in_ok-rest-in-Tells.ensures terms apart.1 c.ends_of-ends.ensures) in
    rw c.in_ok-push_rest-in-Tells.ensures
    (rests_more terms c.args.relation domains (HasTermOf terms) (LinearNames terms c.args.relation) x c.in_ok-rest-in-Tells.rest c.in_ok-rests.rests.items below.1 named split
    (subst (λ r. IsRestOf (get_or domains x []) (HasLinearPointAt terms r sets x) c.in_ok-rest-in-Tells.rest) (sym is) left) c.in_ok-rests.ensures)

use Rattle.std.proofs.Common.{◌≡◌, ◌↔◌, ℤ, [], pos, get_or, arith, sym, subst}
use Rattle.std.proofs.lemmas.Int.{ints}
use Rattle.std.proofs.lemmas.Result.{IfOk-weaker}
use Rattle.std.specs.Prelude.{IfOk}
use Rattle.ivl_laws.specs.Families.{set_at}
use Rattle.ivl_laws.specs.Sets.{IsBetween}
use Rattle.ivl_linear.specs.declared.linear.Term.{Term}
use Rattle.ivl_linear.specs.declared.linear.Relation.TheVariants.{AtMost, AtLeast, Differs, Tells}
use Rattle.ivl_linear.specs.Linear.{HasLinearPointAt, term_at}
use Rattle.ivl_linear.specs.Ends.{IsRestOf}
use Rattle.ivl_linear.proofs.Collecting.{below_names}
use Rattle.ivl_linear.proofs.Rests.{kept_same}
use Rattle.ivl_linear.proofs.Support.{read}
use Rattle.ivl_linear.proofs.linear.narrowing.rest_of_filled.Goals as goal
use mir.Syntax.{w64, w128}
use mir.Val.{to_z, of_z}

pub returns-in-AtMost : goal.returns-in-AtMost
returns-in-AtMost g c =
    let terms = c.args.terms.now in let d : Term = record { coefficient = pos 0; variable = 0 } in let t = term_at terms c.args.k in let domains = c.args.domains.now in let sets = set_at domains in
    let e = read domains t.variable c.index-domains-term.result (below_names _ terms c.args.relation c.requires.present c.args.k d c.requires.known) c.index-domains-term.is in
    let eb : to_z w64 (of_z w64 c.in-AtMost.bound) ≡ c.in-AtMost.bound = omega (arith, ints) in
    let same : (v : ℤ) → sets t.variable v → IsBetween c.allowed.result v ↔ HasLinearPointAt terms (AtMost c.in-AtMost.bound) sets t.variable v = (λ v m. rw eb at (c.allowed.ensures v m)) in
    subst (λ r. IfOk c.rest_within.result (IsRestOf (get_or domains t.variable []) (HasLinearPointAt terms r sets t.variable))) (sym c.in-AtMost.is)
    (IfOk-weaker c.rest_within.result (IsRestOf c.index-domains-term.result (λ v. IsBetween c.allowed.result v)) _ (λ rest h. kept_same domains t.variable c.index-domains-term.result (λ v. IsBetween c.allowed.result v) (HasLinearPointAt terms (AtMost c.in-AtMost.bound) sets t.variable) e same rest h) c.rest_within.ensures)

pub returns-in-AtLeast : goal.returns-in-AtLeast
returns-in-AtLeast g c =
    let terms = c.args.terms.now in let d : Term = record { coefficient = pos 0; variable = 0 } in let t = term_at terms c.args.k in let domains = c.args.domains.now in let sets = set_at domains in
    let e = read domains t.variable c.index-domains-term.result (below_names _ terms c.args.relation c.requires.present c.args.k d c.requires.known) c.index-domains-term.is in
    let eb : to_z w128 (of_z w128 (to_z w64 (of_z w64 c.in-AtLeast.bound))) ≡ c.in-AtLeast.bound = omega (arith, ints) in
    let same : (v : ℤ) → sets t.variable v → IsBetween c.required.result v ↔ HasLinearPointAt terms (AtLeast c.in-AtLeast.bound) sets t.variable v = (λ v m. rw eb at (c.required.ensures v m)) in
    subst (λ r. IfOk c.rest_within-in-AtLeast.result (IsRestOf (get_or domains t.variable []) (HasLinearPointAt terms r sets t.variable))) (sym c.in-AtLeast.is)
    (IfOk-weaker c.rest_within-in-AtLeast.result (IsRestOf c.index-domains-term.result (λ v. IsBetween c.required.result v)) _ (λ rest h. kept_same domains t.variable c.index-domains-term.result (λ v. IsBetween c.required.result v) (HasLinearPointAt terms (AtLeast c.in-AtLeast.bound) sets t.variable) e same rest h) c.rest_within-in-AtLeast.ensures)

pub returns-in-Differs : goal.returns-in-Differs
returns-in-Differs g c =
    let terms = c.args.terms.now in let d : Term = record { coefficient = pos 0; variable = 0 } in let t = term_at terms c.args.k in let domains = c.args.domains.now in let sets = set_at domains in
    let e = read domains t.variable c.index-domains-term.result (below_names _ terms c.args.relation c.requires.present c.args.k d c.requires.known) c.index-domains-term.is in
    let en : to_z w64 (of_z w64 c.in-Differs.number) ≡ c.in-Differs.number = omega (arith, ints) in
    let same : (v : ℤ) → sets t.variable v → (¬ (IsBetween c.lost_of.result v)) ↔ HasLinearPointAt terms (Differs c.in-Differs.number) sets t.variable v = (λ v m. let k = rw en at (c.lost_of.ensures v m) in (k.1, k.0)) in
    subst (λ r. IfOk c.rest_outside.result (IsRestOf (get_or domains t.variable []) (HasLinearPointAt terms r sets t.variable))) (sym c.in-Differs.is)
    (IfOk-weaker c.rest_outside.result (IsRestOf c.index-domains-term.result (λ v. (¬ (IsBetween c.lost_of.result v)))) _ (λ rest h. kept_same domains t.variable c.index-domains-term.result (λ v. (¬ (IsBetween c.lost_of.result v))) (HasLinearPointAt terms (Differs c.in-Differs.number) sets t.variable) e same rest h) c.rest_outside.ensures)

pub returns-in-Tells : goal.returns-in-Tells
returns-in-Tells g c =
    let terms = c.args.terms.now in let d : Term = record { coefficient = pos 0; variable = 0 } in let t = term_at terms c.args.k in let domains = c.args.domains.now in let sets = set_at domains in
    let e = read domains t.variable c.index-domains-term.result (below_names _ terms c.args.relation c.requires.present c.args.k d c.requires.known) c.index-domains-term.is in
    let eb : to_z w64 (of_z w64 c.in-Tells.bound) ≡ c.in-Tells.bound = omega (arith, ints) in
    let same : (v : ℤ) → sets t.variable v → IsBetween c.allowed_by_answer.result v ↔ HasLinearPointAt terms (Tells c.in-Tells.variable c.in-Tells.bound) sets t.variable v = (λ v m. rw eb at (c.allowed_by_answer.ensures v m)) in
    subst (λ r. IfOk c.rest_within-in-Tells.result (IsRestOf (get_or domains t.variable []) (HasLinearPointAt terms r sets t.variable))) (sym c.in-Tells.is)
    (IfOk-weaker c.rest_within-in-Tells.result (IsRestOf c.index-domains-term.result (λ v. IsBetween c.allowed_by_answer.result v)) _ (λ rest h. kept_same domains t.variable c.index-domains-term.result (λ v. IsBetween c.allowed_by_answer.result v) (HasLinearPointAt terms (Tells c.in-Tells.variable c.in-Tells.bound) sets t.variable) e same rest h) c.rest_within-in-Tells.ensures)

use Rattle.std.proofs.Common.{◌≡◌, ◌≢◌, ◌∙◌, ◌-ℤ◌, ◌≤ℤ◌, ℤ, pos, List, arith, sym, subst, ap}
use Rattle.std.proofs.lemmas.Int.{ints, to_z-of_z}
use Rattle.ivl_laws.specs.Families.{set_at}
use Rattle.ivl_laws.specs.Runs.{Covers}
use Rattle.ivl_laws.specs.Sets.{HasSome}
use Rattle.ivl_linear.specs.declared.linear.Term.{Term}
use Rattle.ivl_linear.specs.Linear.{term_at}
use Rattle.ivl_linear.specs.Ends.{IsGreatestTerm, IsLeastTerm}
use Rattle.ivl_linear.proofs.Casts.{back, small_sum}
use Rattle.ivl_linear.proofs.Differing.{others_one, supported_more, supported_one}
use Rattle.ivl_linear.proofs.Support.{filled_of, holds_at, named_of, read, weight_of}
use Rattle.ivl_linear.proofs.linear.differs.forbidden.Goals as goal
use mir.Syntax.{w64, w128}
use mir.Val.{to_z, of_z}

pub least_of-requires : goal.least_of-requires
least_of-requires g c =
    let terms = c.args.terms.now in let d : Term = record { coefficient = pos 0; variable = 0 } in let t = term_at terms c.args.k in
    let e = read c.args.domains.now t.variable c.index-domains-term.result (c.requires.present c.args.k d c.requires.known) c.index-domains-term.is in
    subst (λ (L : List (ℤ × ℤ)). HasSome (Covers L)) (sym e) (filled_of (λ m x. m ≤ℤ x) terms (set_at c.args.domains.now) c.args.ends.now.least c.requires.ends.least t.variable (named_of terms t (holds_at terms c.args.k d c.requires.known)))

pub greatest_of-requires : goal.greatest_of-requires
greatest_of-requires g c =
    let terms = c.args.terms.now in let d : Term = record { coefficient = pos 0; variable = 0 } in let t = term_at terms c.args.k in
    let e = read c.args.domains.now t.variable c.index-domains-term-2.result (c.requires.present c.args.k d c.requires.known) c.index-domains-term-2.is in
    subst (λ (L : List (ℤ × ℤ)). HasSome (Covers L)) (sym e) (filled_of (λ m x. m ≤ℤ x) terms (set_at c.args.domains.now) c.args.ends.now.least c.requires.ends.least t.variable (named_of terms t (holds_at terms c.args.k d c.requires.known)))

pub difference-rest-requires-clause-own : goal.difference-rest-requires-clause-own
difference-rest-requires-clause-own g c =
    let terms = c.args.terms.now in let d : Term = record { coefficient = pos 0; variable = 0 } in let t = term_at terms c.args.k in
    let h = weight_of terms t (holds_at terms c.args.k d c.requires.known) in let light = c.requires.light in let small = c.least_of.ensures.small in
    let e : to_z w128 (of_z w128 c.least_of.result) ≡ c.least_of.result = omega (arith, ints) in
    rw e (omega arith)

pub difference-most-requires-clause-own : goal.difference-most-requires-clause-own
difference-most-requires-clause-own g c =
    let terms = c.args.terms.now in let d : Term = record { coefficient = pos 0; variable = 0 } in let t = term_at terms c.args.k in
    let h = weight_of terms t (holds_at terms c.args.k d c.requires.known) in let light = c.requires.light in let small = c.greatest_of.ensures.small in
    let e : to_z w128 (of_z w128 c.greatest_of.result) ≡ c.greatest_of.result = omega (arith, ints) in
    rw e (omega arith)

pub returns-then-rest-most-clause-supported : goal.returns-then-rest-most-clause-supported
returns-then-rest-most-clause-supported g c =
    let terms = c.args.terms.now in let d : Term = record { coefficient = pos 0; variable = 0 } in let t = term_at terms c.args.k in let sets = set_at c.args.domains.now in
    let e = read c.args.domains.now t.variable c.index-domains-term.result (c.requires.present c.args.k d c.requires.known) c.index-domains-term.is in
    let f = read c.args.domains.now t.variable c.index-domains-term-2.result (c.requires.present c.args.k d c.requires.known) c.index-domains-term-2.is in
    let least = c.args.ends.now.least in let greatest = c.args.ends.now.greatest in let m = c.least_of.result in let most = c.greatest_of.result in
    let low : IsLeastTerm t.coefficient (sets t.variable) m = subst (λ (L : List (ℤ × ℤ)). IsLeastTerm t.coefficient (Covers L) m) e c.least_of.ensures.least in
    let high : IsGreatestTerm t.coefficient (sets t.variable) most = subst (λ (L : List (ℤ × ℤ)). IsGreatestTerm t.coefficient (Covers L) most) f c.greatest_of.ensures.greatest in
    let el = small_sum least c.requires.ends.small_least in let em = back m c.least_of.type_inv in
    let eg = small_sum greatest c.requires.ends.small_greatest in let eo = back most c.greatest_of.type_inv in
    let rest : to_z w128 (of_z w128 c.difference-rest.result) ≡ least -ℤ m = back c.difference-rest.result c.difference-rest.type_inv ∙ (rw (el, em) at c.difference-rest.ensures.value) in
    let above : to_z w128 (of_z w128 c.difference-most.result) ≡ greatest -ℤ most = back c.difference-most.result c.difference-most.type_inv ∙ (rw (eg, eo) at c.difference-most.ensures.value) in
    let ne : (least -ℤ m) ≢ (greatest -ℤ most) = (λ same. c.if-rest-most.true (ap (of_z w128) ((rw (el, em) at c.difference-rest.ensures.value) ∙ same ∙ sym (rw (eg, eo) at c.difference-most.ensures.value)))) in
    supported_more terms t sets c.requires.different (holds_at terms c.args.k d c.requires.known) least greatest m most c.requires.ends.least c.requires.ends.greatest low high c.args.number ne

pub returns-clause-supported : goal.returns-clause-supported
returns-clause-supported g c =
    let terms = c.args.terms.now in let d : Term = record { coefficient = pos 0; variable = 0 } in let t = term_at terms c.args.k in let sets = set_at c.args.domains.now in
    let e = read c.args.domains.now t.variable c.index-domains-term.result (c.requires.present c.args.k d c.requires.known) c.index-domains-term.is in
    let f = read c.args.domains.now t.variable c.index-domains-term-2.result (c.requires.present c.args.k d c.requires.known) c.index-domains-term-2.is in
    let least = c.args.ends.now.least in let greatest = c.args.ends.now.greatest in let m = c.least_of.result in let most = c.greatest_of.result in
    let low : IsLeastTerm t.coefficient (sets t.variable) m = subst (λ (L : List (ℤ × ℤ)). IsLeastTerm t.coefficient (Covers L) m) e c.least_of.ensures.least in
    let high : IsGreatestTerm t.coefficient (sets t.variable) most = subst (λ (L : List (ℤ × ℤ)). IsGreatestTerm t.coefficient (Covers L) most) f c.greatest_of.ensures.greatest in
    let el = small_sum least c.requires.ends.small_least in let em = back m c.least_of.type_inv in
    let eg = small_sum greatest c.requires.ends.small_greatest in let eo = back most c.greatest_of.type_inv in
    let rest : to_z w128 (of_z w128 c.difference-rest.result) ≡ least -ℤ m = back c.difference-rest.result c.difference-rest.type_inv ∙ (rw (el, em) at c.difference-rest.ensures.value) in
    let above : to_z w128 (of_z w128 c.difference-most.result) ≡ greatest -ℤ most = back c.difference-most.result c.difference-most.type_inv ∙ (rw (eg, eo) at c.difference-most.ensures.value) in
    let same : (least -ℤ m) ≡ (greatest -ℤ most) = sym rest ∙ ap (to_z w128) c.if-rest-most.false ∙ above in
    let number = c.args.number in
    let en : to_z w64 (of_z w64 number) ≡ number = to_z-of_z w64 number c.ranges.number in
    let ed : to_z w128 (of_z w128 c.left_to.result) ≡ number -ℤ (least -ℤ m) = back c.left_to.result c.left_to.type_inv ∙ (rw (en, rest) at c.left_to.ensures.value) in
    λ v member. rw ed (supported_one terms t sets c.requires.different (holds_at terms c.args.k d c.requires.known) least greatest m most c.requires.ends.least c.requires.ends.greatest low high number same v member)

pub returns-clause-others : goal.returns-clause-others
returns-clause-others g c =
    let terms = c.args.terms.now in let d : Term = record { coefficient = pos 0; variable = 0 } in let t = term_at terms c.args.k in let sets = set_at c.args.domains.now in
    let e = read c.args.domains.now t.variable c.index-domains-term.result (c.requires.present c.args.k d c.requires.known) c.index-domains-term.is in
    let f = read c.args.domains.now t.variable c.index-domains-term-2.result (c.requires.present c.args.k d c.requires.known) c.index-domains-term-2.is in
    let least = c.args.ends.now.least in let greatest = c.args.ends.now.greatest in let m = c.least_of.result in let most = c.greatest_of.result in
    let low : IsLeastTerm t.coefficient (sets t.variable) m = subst (λ (L : List (ℤ × ℤ)). IsLeastTerm t.coefficient (Covers L) m) e c.least_of.ensures.least in
    let high : IsGreatestTerm t.coefficient (sets t.variable) most = subst (λ (L : List (ℤ × ℤ)). IsGreatestTerm t.coefficient (Covers L) most) f c.greatest_of.ensures.greatest in
    let el = small_sum least c.requires.ends.small_least in let em = back m c.least_of.type_inv in
    let eg = small_sum greatest c.requires.ends.small_greatest in let eo = back most c.greatest_of.type_inv in
    let rest : to_z w128 (of_z w128 c.difference-rest.result) ≡ least -ℤ m = back c.difference-rest.result c.difference-rest.type_inv ∙ (rw (el, em) at c.difference-rest.ensures.value) in
    let above : to_z w128 (of_z w128 c.difference-most.result) ≡ greatest -ℤ most = back c.difference-most.result c.difference-most.type_inv ∙ (rw (eg, eo) at c.difference-most.ensures.value) in
    let same : (least -ℤ m) ≡ (greatest -ℤ most) = sym rest ∙ ap (to_z w128) c.if-rest-most.false ∙ above in
    let number = c.args.number in
    let en : to_z w64 (of_z w64 number) ≡ number = to_z-of_z w64 number c.ranges.number in
    let ed : to_z w128 (of_z w128 c.left_to.result) ≡ number -ℤ (least -ℤ m) = back c.left_to.result c.left_to.type_inv ∙ (rw (en, rest) at c.left_to.ensures.value) in
    others_one terms t sets c.requires.different (holds_at terms c.args.k d c.requires.known) least greatest m most c.requires.ends.least c.requires.ends.greatest low high number (to_z w128 (of_z w128 c.left_to.result)) same ed

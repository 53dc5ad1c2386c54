use Rattle.std.proofs.Common.{◌≡◌, ◌-ℤ◌, ◌≤ℤ◌, ℤ, pos, List, arith, sym, subst}
use Rattle.std.proofs.lemmas.Int.{ints}
use Rattle.ivl_laws.specs.Families.{set_at}
use Rattle.ivl_laws.specs.Runs.{Covers}
use Rattle.ivl_laws.specs.Sets.{HasSome}
use Rattle.ivl_linear.specs.declared.linear.Term.{Term}
use Rattle.ivl_linear.specs.Linear.{term_at}
use Rattle.ivl_linear.specs.Ends.{IsGreatestTerm}
use Rattle.ivl_linear.proofs.Casts.{small_sum}
use Rattle.ivl_linear.proofs.Support.{filled_of, holds_at, named_of, read, supported_at_least, weight_of}
use Rattle.ivl_linear.proofs.linear.at_least.required.Goals as goal
use mir.Syntax.{w128}
use mir.Val.{to_z, of_z}

pub left_above-requires-clause-light : goal.left_above-requires-clause-light
left_above-requires-clause-light g c =
    let terms = c.args.terms.now in let t = term_at terms c.args.k in
    let h = weight_of terms t (holds_at terms c.args.k (record { coefficient = pos 0; variable = 0 }) c.requires.known) in let light = c.requires.light in omega arith

pub left_above-requires-clause-filled : goal.left_above-requires-clause-filled
left_above-requires-clause-filled g c =
    let terms = c.args.terms.now in let d : Term = record { coefficient = pos 0; variable = 0 } in let t = term_at terms c.args.k in let sets = set_at c.args.domains.now in
    let e = read c.args.domains.now t.variable c.index-domains-term.result (c.requires.present c.args.k d c.requires.known) c.index-domains-term.is in
    subst (λ (L : List (ℤ × ℤ)). HasSome (Covers L)) (sym e)
    (filled_of (λ m x. x ≤ℤ m) terms sets c.args.ends.now.greatest c.requires.ends.greatest t.variable (named_of terms t (holds_at terms c.args.k d c.requires.known)))

pub returns : goal.returns
returns g c =
    let terms = c.args.terms.now in let t = term_at terms c.args.k in let sets = set_at c.args.domains.now in
    let bound = c.args.bound in let greatest = c.args.ends.now.greatest in let lacking = c.lacking_of-lacking.result in
    let h = holds_at terms c.args.k (record { coefficient = pos 0; variable = 0 }) c.requires.known in
    let e = read c.args.domains.now t.variable c.index-domains-term.result (c.requires.present c.args.k (record { coefficient = pos 0; variable = 0 }) c.requires.known) c.index-domains-term.is in
    let own = c.left_above.ensures in let m = own.0 in
    let one : IsGreatestTerm t.coefficient (sets t.variable) m = subst (λ (L : List (ℤ × ℤ)). IsGreatestTerm t.coefficient (Covers L) m) e own.1 in
    let eg = small_sum greatest c.requires.ends.small_greatest in
    let value : lacking ≡ bound -ℤ greatest = (let v = rw eg at c.lacking_of-lacking.ensures.value in omega (arith, ints)) in
    let es : to_z w128 (of_z w128 lacking) ≡ bound -ℤ greatest = omega (arith, ints) in
    λ v member.
    let w = rw es at (own.2 v (subst (λ (L : List (ℤ × ℤ)). Covers L v) (sym e) member)) in
    let s = supported_at_least terms t bound greatest m sets c.requires.different h c.requires.ends.greatest one v member in (
      (λ b. s.0 (w.0 b)),
      (λ p. w.1 (s.1 p)),
    )

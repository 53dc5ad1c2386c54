use Rattle.std.proofs.Common.{◌≡◌, ◌-ℤ◌, ◌≤ℤ◌, ℤ, pos, List, arith, sym, subst}
use Rattle.std.proofs.lemmas.Int.{ints}
use Rattle.ivl_laws.specs.Families.{set_at}
use Rattle.ivl_laws.specs.Runs.{Covers}
use Rattle.ivl_laws.specs.Sets.{HasSome}
use Rattle.ivl_linear.specs.declared.linear.Term.{Term}
use Rattle.ivl_linear.specs.Linear.{term_at}
use Rattle.ivl_linear.specs.Ends.{IsLeastTerm}
use Rattle.ivl_linear.proofs.Casts.{small_sum}
use Rattle.ivl_linear.proofs.Support.{filled_of, holds_at, named_of, read, supported_at_most, weight_of}
use Rattle.ivl_linear.proofs.linear.at_most.allowed.Goals as goal
use mir.Syntax.{w128}
use mir.Val.{to_z, of_z}

pub left_of-requires-clause-light : goal.left_of-requires-clause-light
left_of-requires-clause-light g c =
    let terms = c.args.terms.now in let t = term_at terms c.args.k in
    let h = weight_of terms t (holds_at terms c.args.k (record { coefficient = pos 0; variable = 0 }) c.requires.known) in let light = c.requires.light in omega arith

pub left_of-requires-clause-filled : goal.left_of-requires-clause-filled
left_of-requires-clause-filled g c =
    let terms = c.args.terms.now in let d : Term = record { coefficient = pos 0; variable = 0 } in let t = term_at terms c.args.k in let sets = set_at c.args.domains.now in
    let e = read c.args.domains.now t.variable c.index-domains-term.result (c.requires.present c.args.k d c.requires.known) c.index-domains-term.is in
    subst (λ (L : List (ℤ × ℤ)). HasSome (Covers L)) (sym e)
    (filled_of (λ m x. m ≤ℤ x) terms sets c.args.ends.now.least c.requires.ends.least t.variable (named_of terms t (holds_at terms c.args.k d c.requires.known)))

pub returns : goal.returns
returns g c =
    let terms = c.args.terms.now in let t = term_at terms c.args.k in let sets = set_at c.args.domains.now in
    let bound = c.args.bound in let least = c.args.ends.now.least in let spare = c.spare_of-spare.result in
    let h = holds_at terms c.args.k (record { coefficient = pos 0; variable = 0 }) c.requires.known in
    let e = read c.args.domains.now t.variable c.index-domains-term.result (c.requires.present c.args.k (record { coefficient = pos 0; variable = 0 }) c.requires.known) c.index-domains-term.is in
    let own = c.left_of.ensures in let m = own.0 in
    let one : IsLeastTerm t.coefficient (sets t.variable) m = subst (λ (L : List (ℤ × ℤ)). IsLeastTerm t.coefficient (Covers L) m) e own.1 in
    let el = small_sum least c.requires.ends.small_least in
    let value : spare ≡ bound -ℤ least = (let v = rw el at c.spare_of-spare.ensures.value in omega (arith, ints)) in
    let es : to_z w128 (of_z w128 spare) ≡ bound -ℤ least = omega (arith, ints) in
    λ v member.
    let w = rw es at (own.2 v (subst (λ (L : List (ℤ × ℤ)). Covers L v) (sym e) member)) in
    let s = supported_at_most terms t bound least m sets c.requires.different h c.requires.ends.least one v member in (
      (λ b. s.0 (w.0 b)),
      (λ p. w.1 (s.1 p)),
    )

use Rattle.std.proofs.Common.{◌≡◌, ◌∙◌, ◌*ℤ◌, ◌+ℤ◌, ◌≤ℤ◌, ℤ, pos, List, arith, refl, sym, subst}
use Rattle.std.proofs.lemmas.Int.{ints}
use Rattle.std.proofs.lemmas.Option.{IfSome_then}
use Rattle.ivl_laws.specs.Families.{set_at}
use Rattle.ivl_laws.specs.Runs.{Covers}
use Rattle.ivl_laws.specs.Sets.{HasSome}
use Rattle.ivl_linear.specs.declared.linear.Term.{Term}
use Rattle.ivl_linear.specs.Linear.{term_at}
use Rattle.ivl_linear.proofs.Differing.{other_members, some_coefficient, takes_one}
use Rattle.ivl_linear.proofs.Support.{filled_of, holds_at, named_of, read, weight_of}
use Rattle.ivl_linear.proofs.linear.losses.lost_of_term.Goals as goal
use mir.Syntax.{w64, w128}
use mir.Val.{to_z, of_z}

pub has_two_values-requires : goal.has_two_values-requires
has_two_values-requires g c =
    let terms = c.args.terms.now in let d : Term = record { coefficient = pos 0; variable = 0 } in let t = term_at terms c.args.k in
    let e = read c.args.domains.now t.variable c.index-domains-term.result (c.requires.present c.args.k d c.requires.known) c.index-domains-term.is in
    subst (λ (L : List (ℤ × ℤ)). HasSome (Covers L)) (sym e)
    (filled_of (λ m x. m ≤ℤ x) terms (set_at c.args.domains.now) c.args.ends.now.least c.requires.ends.least t.variable (named_of terms t (holds_at terms c.args.k d c.requires.known)))

pub member_at-requires-clause-light : goal.member_at-requires-clause-light
member_at-requires-clause-light g c =
    let terms = c.args.terms.now in let d : Term = record { coefficient = pos 0; variable = 0 } in let t = term_at terms c.args.k in
    let h = weight_of terms t (holds_at terms c.args.k d c.requires.known) in let light = c.requires.light in
    let ea : to_z w64 (of_z w64 t.coefficient) ≡ t.coefficient = omega (arith, ints) in
    rw ea (omega arith)

pub returns : goal.returns
returns g c =
    let terms = c.args.terms.now in let d : Term = record { coefficient = pos 0; variable = 0 } in let t = term_at terms c.args.k in let sets = set_at c.args.domains.now in
    let value = c.in-Some.value in let x = t.variable in
    let e = read c.args.domains.now x c.index-domains-term.result (c.requires.present c.args.k d c.requires.known) c.index-domains-term.is in
    let ea : to_z w64 (of_z w64 t.coefficient) ≡ t.coefficient = omega (arith, ints) in
    let ev : to_z w128 (of_z w128 value) ≡ value = omega (arith, ints) in
    let en : to_z w64 (of_z w64 c.args.number) ≡ c.args.number = omega (arith, ints) in
    let two = c.if-not-has_two_values.ensures refl in
    let point = c.requires.ends.least.reached in
    let here : (v : ℤ) → Covers c.index-domains-term.result v → sets x v = (λ v m. subst (λ (L : List (ℤ × ℤ)). Covers L v) e m) in
    IfSome_then c.member_at.result (rw (ea, ev) at c.member_at.ensures)
    (λ v k. takes_one terms t.coefficient x c.args.number value sets point.0 point.1 (rw en at c.in-Some.ensures.others) (some_coefficient t.coefficient two.0 two.1 two.4) (g.B.Width.value v) k.1
    (named_of terms t (holds_at terms c.args.k d c.requires.known)) (here (g.B.Width.value v) k.0) two.0 two.1 (here two.0 two.2) (here two.1 two.3) (other_members t.coefficient two.0 two.1 two.4))

use Rattle.std.proofs.Common.{◌≡◌, ℤ, pos, arith, sym, subst, List}
use Rattle.std.proofs.lemmas.Int.{ints}
use Rattle.ivl_laws.specs.Runs.{Covers}
use Rattle.ivl_linear.specs.declared.linear.Term.{Term}
use Rattle.ivl_linear.specs.Linear.{term_at}
use Rattle.ivl_linear.proofs.Support.{holds_at, read, weight_of}
use Rattle.ivl_linear.proofs.linear.differs.lost_of.Goals as goal
use mir.Syntax.{w64, w128}
use mir.Val.{to_z, of_z}

pub window_at-requires-clause-light : goal.window_at-requires-clause-light
window_at-requires-clause-light g c =
    let terms = c.args.terms.now in let d : Term = record { coefficient = pos 0; variable = 0 } in let t = term_at terms c.args.k in
    let h = weight_of terms t (holds_at terms c.args.k d c.requires.known) in let light = c.requires.light in
    let ea : to_z w64 (of_z w64 t.coefficient) ≡ t.coefficient = omega (arith, ints) in
    rw ea (omega arith)

pub returns-in-Some : goal.returns-in-Some
returns-in-Some g c =
    let terms = c.args.terms.now in let d : Term = record { coefficient = pos 0; variable = 0 } in let t = term_at terms c.args.k in
    let value = c.in-Some.value in
    let e = read c.args.domains.now t.variable c.index-domains-term.result (c.requires.present c.args.k d c.requires.known) c.index-domains-term.is in
    let ea : to_z w64 (of_z w64 t.coefficient) ≡ t.coefficient = omega (arith, ints) in
    let ev : to_z w128 (of_z w128 value) ≡ value = omega (arith, ints) in
    let en : to_z w64 (of_z w64 c.args.number) ≡ c.args.number = omega (arith, ints) in
    λ v member.
    let s = rw en at (c.in-Some.ensures.supported v member) in
    let w = rw (ea, ev) at (c.window_at.ensures v) in
    let whole = c.in_whole.ensures.within v (subst (λ (L : List (ℤ × ℤ)). Covers L v) (sym e) member) in (
      (λ p between. s.0 p (w.0 between).1),
      (λ out. s.1 (λ is. out (w.1 (whole, is)))),
    )

pub returns-in-None : goal.returns-in-None
returns-in-None g c = λ v m.
    let en : to_z w64 (of_z w64 c.args.number) ≡ c.args.number = omega (arith, ints) in (
      (λ _ b. c.empty.ensures.members v b),
      (λ _. rw en at (c.in-None.ensures.supported v m)),
    )

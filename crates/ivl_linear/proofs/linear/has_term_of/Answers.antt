use Rattle.std.proofs.Common.{◌∷◌, ◌+◌, pos, inl, inr, refl, sym, subst, get_or, drop, List}
use Rattle.ivl_linear.specs.declared.linear.Term.{Term}
use Rattle.ivl_linear.specs.Linear.{HasTermOf}
use Rattle.ivl_linear.proofs.Support.{drop_next, holds_at, named_of}
use Rattle.ivl_linear.proofs.linear.has_term_of.Goals as goal

pub loop-term-preserved : goal.loop-term-preserved
loop-term-preserved c = λ n.
    let terms = c.args.terms.now in let i = c.loop-term.term-index in let d : Term = record { coefficient = pos 0; variable = 0 } in
    let h : HasTermOf (get_or terms i d ∷ drop (i + 1) terms) c.args.variable = subst (λ (r : List Term). HasTermOf r c.args.variable) (drop_next terms i d c.loop-term-test.true) (c.loop-term.invariant n) in
    elim h [ inl e ↦ absurd (c.if-term-variable.false (sym e)) | inr r ↦ r ]

pub returns-then-term-variable : goal.returns-then-term-variable
returns-then-term-variable c =
    let terms = c.args.terms.now in let i = c.loop-term.term-index in let d : Term = record { coefficient = pos 0; variable = 0 } in
    (λ _. subst (HasTermOf terms) c.if-term-variable.true (named_of terms (get_or terms i d) (holds_at terms i d c.loop-term-test.true)), λ _. refl)

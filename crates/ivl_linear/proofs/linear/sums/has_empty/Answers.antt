use Rattle.std.proofs.Common.{◌≡◌, ◌+◌, ◌∙◌, ◌∷◌, inl, inr, ℤ, pos, List, get_or, drop, refl, sym, subst}
use Rattle.std.proofs.lemmas.Bool.{false≢true}
use Rattle.ivl_laws.specs.Families.{set_at}
use Rattle.ivl_laws.specs.Runs.{Covers}
use Rattle.ivl_laws.specs.Sets.{HasNone, HasSome}
use Rattle.ivl_linear.specs.declared.linear.Term.{Term}
use Rattle.ivl_linear.specs.Linear.{HasTermOf}
use Rattle.ivl_linear.proofs.Support.{drop_next, holds_at, named_of, read}
use Rattle.ivl_linear.proofs.linear.sums.has_empty.Goals as goal

pub returns-then-is_empty-clause-empty : goal.returns-then-is_empty-clause-empty
returns-then-is_empty-clause-empty g c = λ _.
    let terms = c.args.terms.now in let i = c.loop-term.term-index in let d : Term = record { coefficient = pos 0; variable = 0 } in let t = get_or terms i d in
    let e = read c.args.domains.now t.variable c.index-domains-term.result (c.requires i d c.loop-term-test.true) c.index-domains-term.is in
    (t.variable, named_of terms t (holds_at terms i d c.loop-term-test.true), subst (λ (L : List (ℤ × ℤ)). HasNone (Covers L)) e (c.if-is_empty.ensures.members.0 refl))

pub loop-term-preserved : goal.loop-term-preserved
loop-term-preserved g c = λ rest.
    let terms = c.args.terms.now in let i = c.loop-term.term-index in let d : Term = record { coefficient = pos 0; variable = 0 } in let t = get_or terms i d in
    let sets = set_at c.args.domains.now in
    let e = read c.args.domains.now t.variable c.index-domains-term.result (c.requires i d c.loop-term-test.true) c.index-domains-term.is in
    let one : HasSome (sets t.variable) = subst (λ (L : List (ℤ × ℤ)). HasSome (Covers L)) e (c.if-is_empty.ensures.filled (λ y. false≢true y)) in
    c.loop-term.invariant (λ j n. elim (subst (λ (r : List Term). HasTermOf r j) (drop_next terms i d c.loop-term-test.true) n) [ inl f ↦ subst (λ k. HasSome (sets k)) (sym f) one | inr r ↦ rest j r ])

use Rattle.std.proofs.Common.{◌≡◌, ◌∙◌, inl, inr, ◌+ℤ◌, ℤ, pos, List, arith, sym, subst}
use Rattle.std.proofs.lemmas.Bool.{false≢true}
use Rattle.std.proofs.lemmas.Int.{ints}
use Rattle.ivl_laws.specs.Families.{set_at}
use Rattle.ivl_laws.specs.Runs.{Covers}
use Rattle.ivl_linear.specs.declared.linear.Term.{Term}
use Rattle.ivl_linear.specs.Linear.{term_at}
use Rattle.ivl_linear.proofs.Support.{holds_at, named_of, read}
use Rattle.ivl_linear.proofs.Telling.{told_any, told_at}
use Rattle.ivl_linear.proofs.linear.told.allowed_by_answer.Goals as goal
use mir.Syntax.{w64, w128}
use mir.Val.{to_z, of_z}

pub returns-then-fails : goal.returns-then-fails
returns-then-fails g c = λ v m.
    let terms = c.args.terms.now in let d : Term = record { coefficient = pos 0; variable = 0 } in let t = term_at terms c.args.k in let sets = set_at c.args.domains.now in
    let n = named_of terms t (holds_at terms c.args.k d c.requires.known) in
    let p = c.requires.ends.least.reached in
    let e = read c.args.domains.now t.variable c.index-domains-term.result (c.requires.present c.args.k d c.requires.known) c.index-domains-term.is in
    let whole = c.in_whole.ensures.within v (subst (λ (L : List (ℤ × ℤ)). Covers L v) (sym e) m) in
    let low = c.min_value.ensures in let high = c.max_value.ensures in let above = whole.0 in let below = whole.1 in (
      (λ _. told_any terms c.args.variable c.args.bound sets c.requires.fresh (c.may_be_zero-fails.ensures.0 c.if-fails.true) (c.may_be_one-holds.ensures.0 c.if-holds.true) p.0 p.1 t.variable n v m),
      (λ _. (c.new.ensures.members v).1 (omega (arith, ints), omega (arith, ints))),
    )

pub returns-then-holds-2 : goal.returns-then-holds-2
returns-then-holds-2 g c = λ v m.
    let terms = c.args.terms.now in let d : Term = record { coefficient = pos 0; variable = 0 } in let t = term_at terms c.args.k in let sets = set_at c.args.domains.now in
    let n = named_of terms t (holds_at terms c.args.k d c.requires.known) in
    let told = told_at terms c.args.variable c.args.bound sets c.requires.fresh t.variable v n in
    let eb : to_z w64 (of_z w64 c.args.bound) ≡ c.args.bound = omega (arith, ints) in
    let a = rw eb at (c.allowed.ensures v m) in
    let none : ¬ (sets c.args.variable (pos 0)) = (λ z. elim c.else-holds.either [ inl h ↦ false≢true (sym h.1 ∙ c.may_be_zero-fails.ensures.1 z) | inr h ↦ false≢true (sym h ∙ c.if-holds-2.true) ]) in (
      (λ b. told.1 (inl (c.may_be_one-holds.ensures.0 c.if-holds-2.true, a.0 b))),
      (λ s. elim (told.0 s) [ inl q ↦ a.1 q.1 | inr q ↦ absurd (none q.0) ]),
    )

pub returns-then-fails-2 : goal.returns-then-fails-2
returns-then-fails-2 g c = λ v m.
    let terms = c.args.terms.now in let d : Term = record { coefficient = pos 0; variable = 0 } in let t = term_at terms c.args.k in let sets = set_at c.args.domains.now in
    let n = named_of terms t (holds_at terms c.args.k d c.requires.known) in
    let told = told_at terms c.args.variable c.args.bound sets c.requires.fresh t.variable v n in
    let eb : to_z w128 (of_z w128 (to_z w128 (of_z w128 (to_z w64 (of_z w64 c.args.bound))) +ℤ pos 1)) ≡ c.args.bound +ℤ pos 1 = omega (arith, ints) in
    let a = rw eb at (c.required.ensures v m) in
    let none : ¬ (sets c.args.variable (pos 1)) = (λ o. false≢true (sym c.if-holds-2.false ∙ c.may_be_one-holds.ensures.1 o)) in (
      (λ b. told.1 (inr (c.may_be_zero-fails.ensures.0 c.if-fails-2.true, a.0 b))),
      (λ s. elim (told.0 s) [ inl q ↦ absurd (none q.0) | inr q ↦ a.1 q.1 ]),
    )

pub returns : goal.returns
returns g c = λ v m.
    let terms = c.args.terms.now in let d : Term = record { coefficient = pos 0; variable = 0 } in let t = term_at terms c.args.k in let sets = set_at c.args.domains.now in
    let n = named_of terms t (holds_at terms c.args.k d c.requires.known) in
    let told = told_at terms c.args.variable c.args.bound sets c.requires.fresh t.variable v n in (
      (λ b. absurd (c.empty.ensures.members v b)),
      (λ s. elim (told.0 s) [ inl q ↦ absurd (false≢true (sym c.if-holds-2.false ∙ c.may_be_one-holds.ensures.1 q.0)) | inr q ↦ absurd (false≢true (sym c.if-fails-2.false ∙ c.may_be_zero-fails.ensures.1 q.0)) ]),
    )

use Rattle.std.proofs.Common.{◌≡◌, ◌≤◌, ◌^◌, ℤ, pos, List, arith, refl, sym, subst, below_more}
use Rattle.std.proofs.lemmas.Int.{ints}
use Rattle.ivl_laws.specs.Families.{set_at}
use Rattle.ivl_laws.specs.Runs.{Covers}
use Rattle.ivl_laws.specs.Sets.{HasSome}
use Rattle.ivl_linear.specs.declared.linear.Term.{Term}
use Rattle.ivl_linear.specs.Linear.{term_at}
use Rattle.ivl_linear.specs.Rests.{IsApartBy}
use Rattle.ivl_linear.proofs.Support.{holds_at, named_of, read, weight_of}
use Rattle.ivl_linear.proofs.linear.losses.are_apart_by.Goals as goal
use mir.Syntax.{w128}
use mir.Val.{to_z, of_z}

pub is_apart_by-requires-clause-light : goal.is_apart_by-requires-clause-light
is_apart_by-requires-clause-light g c =
    let terms = c.args.terms.now in let d : Term = record { coefficient = pos 0; variable = 0 } in let t = term_at terms c.loop-k.k in
    let h = weight_of terms t (holds_at terms c.loop-k.k d c.loop-k-test.true) in let light = c.requires.light in omega arith

pub is_apart_by-requires-clause-filled : goal.is_apart_by-requires-clause-filled
is_apart_by-requires-clause-filled g c =
    let terms = c.args.terms.now in let d : Term = record { coefficient = pos 0; variable = 0 } in let t = term_at terms c.loop-k.k in
    let e = read c.args.domains.now t.variable c.index-domains-term.result (c.requires.present c.loop-k.k d c.loop-k-test.true) c.index-domains-term.is in
    subst (λ (L : List (ℤ × ℤ)). HasSome (Covers L)) (sym e) (c.requires.filled t.variable (named_of terms t (holds_at terms c.loop-k.k d c.loop-k-test.true)))

pub loop-k-preserved : goal.loop-k-preserved
loop-k-preserved g c =
    let terms = c.args.terms.now in let d : Term = record { coefficient = pos 0; variable = 0 } in let t = term_at terms c.loop-k.k in let sets = set_at c.args.domains.now in
    let e = read c.args.domains.now t.variable c.index-domains-term.result (c.requires.present c.loop-k.k d c.loop-k-test.true) c.index-domains-term.is in
    let spare = to_z w128 (of_z w128 c.args.spare) in
    let one : IsApartBy t.coefficient (sets t.variable) spare =
    subst (λ (L : List (ℤ × ℤ)). IsApartBy t.coefficient (Covers L) spare) e (c.if-not-is_apart_by.ensures refl) in
    below_more (λ j. IsApartBy (term_at terms j).coefficient (set_at c.args.domains.now (term_at terms j).variable) spare) c.loop-k.k c.loop-k.invariant one

pub returns : goal.returns
returns g c = λ _ k h.
    let es : to_z w128 (of_z w128 c.args.spare) ≡ c.args.spare = omega (arith, ints) in
    let t = c.loop-k-test.false in
    rw es at (c.loop-k.invariant k (omega arith))

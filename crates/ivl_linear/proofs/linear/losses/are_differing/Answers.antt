use Rattle.std.proofs.Common.{◌≡◌, ℕ, ◌<◌, length, get_or, ℤ, pos, List, arith, refl, sym, subst, below_more}
use Rattle.std.proofs.lemmas.Int.{ints}
use Rattle.ivl_laws.specs.Families.{set_at}
use Rattle.ivl_laws.specs.Runs.{Covers}
use Rattle.ivl_linear.specs.declared.linear.Term.{Term}
use Rattle.ivl_linear.specs.declared.linear.Relation.TheVariants.{Differs}
use Rattle.ivl_linear.specs.Linear.{HasLinearPointAt, HasTermOf, LinearSupportsAll, term_at}
use Rattle.ivl_linear.proofs.Apart.{at_places}
use Rattle.ivl_linear.proofs.Support.{read}
use Rattle.ivl_linear.proofs.linear.losses.are_differing.Goals as goal
use mir.Syntax.{w64}
use mir.Val.{to_z, of_z}

pub loop-k-preserved : goal.loop-k-preserved
loop-k-preserved g c =
    let terms = c.args.terms.now in let d : Term = record { coefficient = pos 0; variable = 0 } in let t = term_at terms c.loop-k.k in let sets = set_at c.args.domains.now in
    let e = read c.args.domains.now t.variable c.index-domains-terms.result (c.requires.present c.loop-k.k d c.loop-k-test.true) c.index-domains-terms.is in
    let number = to_z w64 (of_z w64 c.args.number) in
    let apart = c.if-not-is_disjoint.ensures.0 refl in
    below_more (λ j. (v : ℤ) → sets (term_at terms j).variable v → HasLinearPointAt terms (Differs number) sets (term_at terms j).variable v) c.loop-k.k c.loop-k.invariant
    (λ v m. (c.lost_of-lost.ensures v m).1 (λ b. apart v (subst (λ (L : List (ℤ × ℤ)). Covers L v) (sym e) m, b)))

pub returns : goal.returns
returns g c = λ _.
    let terms = c.args.terms.now in let d : Term = record { coefficient = pos 0; variable = 0 } in let sets = set_at c.args.domains.now in
    let number = to_z w64 (of_z w64 c.args.number) in
    let en : number ≡ c.args.number = omega (arith, ints) in
    let t = c.loop-k-test.false in
    let known : (k : ℕ) → k < length terms → (v : ℤ) → sets (get_or terms k d).variable v → HasLinearPointAt terms (Differs number) sets (get_or terms k d).variable v =
    (λ k h. c.loop-k.invariant k (omega arith)) in
    let all : (i : ℕ) → HasTermOf terms i → (v : ℤ) → sets i v → HasLinearPointAt terms (Differs number) sets i v = at_places terms d (Differs number) sets known in
    subst (λ (n : ℤ). LinearSupportsAll terms (Differs n) sets) en all

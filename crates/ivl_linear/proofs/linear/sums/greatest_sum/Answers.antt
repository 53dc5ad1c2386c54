use Rattle.std.proofs.Common.{◌≡◌, ℕ, ◌+◌, ◌<◌, ℤ, pos, ◌+ℤ◌, ◌≤ℤ◌, List, [], ◌∷◌, arith, sym, subst, get_or, drop, length, add-one, inl, refl}
use Rattle.std.proofs.Math.Seq.{drop-cons}
use Rattle.std.proofs.lemmas.Int.{ints, to_z-of_z}
use Rattle.std.proofs.lemmas.List.{drop_all}
use Rattle.ivl_laws.specs.Runs.{Covers}
use Rattle.ivl_laws.specs.Sets.{HasSome}
use Rattle.ivl_laws.specs.Families.{set_at}
use Rattle.ivl_linear.specs.declared.linear.Term.{Term}
use Rattle.ivl_linear.specs.Ends.{IsGreatestTerm}
use Rattle.ivl_linear.proofs.Casts.{fits_by_abs}
use Rattle.ivl_linear.proofs.Least.{SumsUpTo, at_least_adds, sums_more, sums_all}
use Rattle.ivl_linear.proofs.Support.{read}
use Rattle.ivl_linear.proofs.linear.sums.greatest_sum.Goals as goal
use mir.Syntax.{w128}
use mir.Val.{to_z, of_z}

-- the terms that are left begin with the one at the index
next : (terms : List Term) (i : ℕ) (d : Term) (sets : ℕ → ℤ → Type 0) (sum : ℤ) → i < length terms → SumsUpTo (λ m x. x ≤ℤ m) terms (drop i terms) sets sum → SumsUpTo (λ m x. x ≤ℤ m) terms (get_or terms i d ∷ drop (i + 1) terms) sets sum
next terms i d sets sum h s = let e : drop i terms ≡ get_or terms i d ∷ drop (i + 1) terms = rw add-one (drop-cons terms i d h) in subst (λ (r : List Term). SumsUpTo (λ m x. x ≤ℤ m) terms r sets sum) e s

pub greatest_of-sum-requires : goal.greatest_of-sum-requires
greatest_of-sum-requires g c =
    let sum = to_z w128 c.loop-term.sum-bits in
    let terms = c.args.terms.now in let i = c.loop-term.term-index in
    let t : Term = get_or terms i (record { coefficient = pos 0; variable = 0 }) in
    let s = next terms i (record { coefficient = pos 0; variable = 0 }) (set_at c.args.domains.now) sum c.loop-term-test.true c.loop-term.invariant in
    let e = read c.args.domains.now t.variable c.index-domains-term.result (c.requires.present i (record { coefficient = pos 0; variable = 0 }) c.loop-term-test.true) c.index-domains-term.is in
    subst (λ (L : List (ℤ × ℤ)). HasSome (Covers L)) (sym e) (c.requires.filled t.variable (s.named t.variable (inl refl)))

pub overflow_add-sum : goal.overflow_add-sum
overflow_add-sum g c =
    let sum = to_z w128 c.loop-term.sum-bits in
    let terms = c.args.terms.now in let i = c.loop-term.term-index in
    let t : Term = get_or terms i (record { coefficient = pos 0; variable = 0 }) in
    let sets = set_at c.args.domains.now in
    let m = c.greatest_of-sum.result in
    let s = next terms i (record { coefficient = pos 0; variable = 0 }) sets sum c.loop-term-test.true c.loop-term.invariant in
    let e = read c.args.domains.now t.variable c.index-domains-term.result (c.requires.present i (record { coefficient = pos 0; variable = 0 }) c.loop-term-test.true) c.index-domains-term.is in
    let one : IsGreatestTerm t.coefficient (sets t.variable) m = subst (λ (L : List (ℤ × ℤ)). IsGreatestTerm t.coefficient (Covers L) m) e c.greatest_of-sum.ensures.greatest in
    let u = sums_more (λ m x. x ≤ℤ m) at_least_adds terms t (drop (i + 1) terms) sets sum m s one c.greatest_of-sum.ensures.small in
    let em : to_z w128 (of_z w128 m) ≡ m = omega (arith, ints) in
    rw em (fits_by_abs (sum +ℤ m) (let k = u.small in omega arith))

pub loop-term-preserved : goal.loop-term-preserved
loop-term-preserved g c =
    let sum = to_z w128 c.loop-term.sum-bits in
    let terms = c.args.terms.now in let i = c.loop-term.term-index in
    let t : Term = get_or terms i (record { coefficient = pos 0; variable = 0 }) in
    let sets = set_at c.args.domains.now in
    let m = c.greatest_of-sum.result in
    let s = next terms i (record { coefficient = pos 0; variable = 0 }) sets sum c.loop-term-test.true c.loop-term.invariant in
    let e = read c.args.domains.now t.variable c.index-domains-term.result (c.requires.present i (record { coefficient = pos 0; variable = 0 }) c.loop-term-test.true) c.index-domains-term.is in
    let one : IsGreatestTerm t.coefficient (sets t.variable) m = subst (λ (L : List (ℤ × ℤ)). IsGreatestTerm t.coefficient (Covers L) m) e c.greatest_of-sum.ensures.greatest in
    let u = sums_more (λ m x. x ≤ℤ m) at_least_adds terms t (drop (i + 1) terms) sets sum m s one c.greatest_of-sum.ensures.small in
    let em : to_z w128 (of_z w128 m) ≡ m = omega (arith, ints) in
    let es : to_z w128 (of_z w128 (sum +ℤ m)) ≡ sum +ℤ m = to_z-of_z w128 (sum +ℤ m) (fits_by_abs (sum +ℤ m) (let k = u.small in omega arith)) in
    rw (em, es) u

pub returns-clause-greatest : goal.returns-clause-greatest
returns-clause-greatest g c =
    let sum = to_z w128 c.loop-term.sum-bits in
    let terms = c.args.terms.now in
    let sets = set_at c.args.domains.now in
    let past : drop c.loop-term.term-index terms ≡ [] = drop_all c.loop-term.term-index terms c.loop-term-test.false in
    (sums_all (λ m x. x ≤ℤ m) at_least_adds terms sets sum (subst (λ (r : List Term). SumsUpTo (λ m x. x ≤ℤ m) terms r sets sum) past c.loop-term.invariant))

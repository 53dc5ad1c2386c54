-- The sum of the terms at a point, and at a point that is changed at one variable.
use Rattle.std.proofs.Common.{◌≡◌, ◌≢◌, ◌⊎◌, inl, inr, ℕ, ℤ, pos, ◌+ℤ◌, ◌*ℤ◌, List, [], ◌∷◌, refl, sym, ap, subst, ◌∙◌, arith, cond, eqb}
use Rattle.std.proofs.lemmas.Bool.Decides.{nat_tests}
use Rattle.std.proofs.lemmas.Bool.{cases_eq}
use Rattle.ivl_linear.specs.declared.linear.Term.{Term}
use Rattle.ivl_linear.specs.Linear.{IsInside, HasTermOf, sum_at}

-- the point that gives a variable a number, and the others those of another point
pub put : (ℕ → ℤ) → ℕ → ℤ → ℕ → ℤ
put p x v i = cond (eqb i x) v (p i)

pub put-same : (p : ℕ → ℤ) (x : ℕ) (v : ℤ) → put p x v x ≡ v
unfolding put
put-same p x v = grind (arith, nat_tests)

pub put-other : (p : ℕ → ℤ) (x i : ℕ) (v : ℤ) → i ≢ x → put p x v i ≡ p i
unfolding put
put-other p x i v n = grind (arith, nat_tests)

-- a sum depends on the numbers of its variables alone
pub sum_at-same : (terms : List Term) (p q : ℕ → ℤ) → ((i : ℕ) → HasTermOf terms i → p i ≡ q i) → sum_at terms p ≡ sum_at terms q
sum_at-same [] p q e = refl
sum_at-same (t ∷ rest) p q e = ap (λ (x : ℤ). (t.coefficient *ℤ x) +ℤ sum_at rest p) (e t.variable (inl refl)) ∙ ap (λ (y : ℤ). (t.coefficient *ℤ q t.variable) +ℤ y) (sum_at-same rest p q (λ i n. e i (inr n)))

pub sum_at-unnamed : (terms : List Term) (p : ℕ → ℤ) (x : ℕ) (v : ℤ) → ¬ (HasTermOf terms x) → sum_at terms (put p x v) ≡ sum_at terms p
sum_at-unnamed terms p x v n = sum_at-same terms (put p x v) p (λ i h. put-other p x i v (λ e. n (subst (HasTermOf terms) e h)))

-- the first term at its own variable
pub sum_at-first : (t : Term) (rest : List Term) (p : ℕ → ℤ) (v : ℤ) → ¬ (HasTermOf rest t.variable) → sum_at (t ∷ rest) (put p t.variable v) ≡ ((t.coefficient *ℤ v) +ℤ sum_at rest p)
sum_at-first t rest p v n = ap (λ (x : ℤ). (t.coefficient *ℤ x) +ℤ sum_at rest (put p t.variable v)) (put-same p t.variable v) ∙ ap (λ (y : ℤ). (t.coefficient *ℤ v) +ℤ y) (sum_at-unnamed rest p t.variable v n)

-- a point inside stays so where a variable is given a member
pub inside_put : (terms : List Term) (sets : ℕ → ℤ → Type 0) (p : ℕ → ℤ) (x : ℕ) (v : ℤ) → ((i : ℕ) → HasTermOf terms i → i ≢ x → sets i (p i)) → sets x v → IsInside terms sets (put p x v)
inside_put terms sets p x v h m i n = by_place (decide i x)
  where
    decide : (i x : ℕ) → (i ≡ x) ⊎ (i ≢ x)
    decide i x = cases_eq i x

    by_place : (i ≡ x) ⊎ (i ≢ x) → sets i (put p x v i)
    by_place (inl e) = subst (λ j. sets j (put p x v j)) (sym e) (subst (sets x) (sym (put-same p x v)) m)
    by_place (inr e) = subst (sets i) (sym (put-other p x i v e)) (h i n e)

-- Which members stand in a point where the sum is not a number.
use Rattle.std.proofs.Common.{◌≡◌, ◌≢◌, ◌↔◌, ◌⊎◌, inl, inr, ℕ, ℤ, pos, ◌+ℤ◌, ◌-ℤ◌, ◌*ℤ◌, ◌≤ℤ◌, ◌<ℤ◌, List, refl, sym, ap, subst, ◌∙◌, arith, Bool, true, false}
use Rattle.std.proofs.lemmas.Bool.{cases_eq, false≢true}
use Rattle.std.proofs.lemmas.Int.{ints}
use Rattle.std.proofs.Math.IntN.{*ℤ-zero}
use Rattle.std.specs.Ordering.{int_eq}
use Rattle.std.specs.Prelude.{IsTrue}
use Rattle.ivl_laws.proofs.Orders.{int_eq_is}
use Rattle.ivl_linear.specs.declared.linear.Term.{Term}
use Rattle.ivl_linear.specs.declared.linear.Relation.TheVariants.{Differs}
use Rattle.ivl_linear.specs.Linear.{AreOfDifferent, HasLinearPointAt, HasTermOf, IsInside, NarrowedByLinear, TakesOnlyOne, sum_at}
use Rattle.ivl_linear.specs.Ends.{IsGreatestTerm, IsGreatestSum, IsLeastTerm, IsLeastSum}
use Rattle.ivl_linear.proofs.Quotients.{same_other_factor}
use Rattle.ivl_linear.proofs.Totals.{put, put-other, put-same}
use lib.IntN.{*ℤ_comm}
use Rattle.ivl_linear.proofs.Support.{Holds, named_of, put_inside, sum_at-put}

-- a point whose sum is not the number
differing_point : (terms : List Term) (number : ℤ) (sets : ℕ → ℤ → Type 0) (p : ℕ → ℤ) (x : ℕ) (v : ℤ) → IsInside terms sets p → sets x v → (sum_at terms (put p x v) ≢ number) → HasLinearPointAt terms (Differs number) sets x v
differing_point terms number sets p x v h m ne = record { point = put p x v; is_point = record { inside = put_inside terms sets p x v h m; satisfies = ne }; at = put-same p x v }

module _ (terms : List Term) (t : Term) (sets : ℕ → ℤ → Type 0) (d : AreOfDifferent terms) (h : Holds terms t) (least greatest m most : ℤ)
    (low : IsLeastSum terms sets least) (high : IsGreatestSum terms sets greatest) (own : IsLeastTerm t.coefficient (sets t.variable) m) (own_high : IsGreatestTerm t.coefficient (sets t.variable) most) where
  -- no sum is below the least of the others and the term
  at_least : (q : ℕ → ℤ) → IsInside terms sets q → (least +ℤ (t.coefficient *ℤ q t.variable)) ≤ℤ (sum_at terms q +ℤ m)
  at_least q inside =
      let w = own.reached.0 in
      from (sum_at terms (put q t.variable w)) (t.coefficient *ℤ q t.variable) (sum_at terms q) least m
      (sum_at-put terms t q w d h ∙ ap (λ (y : ℤ). sum_at terms q +ℤ y) (sym own.reached.2)) (low.bound (put q t.variable w) (put_inside terms sets q t.variable w inside own.reached.1))
    where
      from : (new av old least m : ℤ) → (new +ℤ av) ≡ (old +ℤ m) → least ≤ℤ new → (least +ℤ av) ≤ℤ (old +ℤ m)
      from new av old least m e k = omega (arith, ints)

  -- nor above the greatest
  at_most : (q : ℕ → ℤ) → IsInside terms sets q → (sum_at terms q +ℤ most) ≤ℤ (greatest +ℤ (t.coefficient *ℤ q t.variable))
  at_most q inside =
      let w = own_high.reached.0 in
      from (sum_at terms (put q t.variable w)) (t.coefficient *ℤ q t.variable) (sum_at terms q) greatest most
      (sum_at-put terms t q w d h ∙ ap (λ (y : ℤ). sum_at terms q +ℤ y) (sym own_high.reached.2)) (high.bound (put q t.variable w) (put_inside terms sets q t.variable w inside own_high.reached.1))
    where
      from : (new av old greatest most : ℤ) → (new +ℤ av) ≡ (old +ℤ most) → new ≤ℤ greatest → (old +ℤ most) ≤ℤ (greatest +ℤ av)
      from new av old greatest most e k = omega (arith, ints)

  -- where the others have one sum, so has each point with a number of the variable
  one_sum : (least -ℤ m) ≡ (greatest -ℤ most) → (q : ℕ → ℤ) → IsInside terms sets q → sum_at terms q ≡ ((least -ℤ m) +ℤ (t.coefficient *ℤ q t.variable))
  one_sum e q inside = between (sum_at terms q) least m greatest most (t.coefficient *ℤ q t.variable) e (at_least q inside) (at_most q inside)
    where
      between : (s least m greatest most av : ℤ) → (least -ℤ m) ≡ (greatest -ℤ most) → (least +ℤ av) ≤ℤ (s +ℤ m) → (s +ℤ most) ≤ℤ (greatest +ℤ av) → s ≡ ((least -ℤ m) +ℤ av)
      between s least m greatest most av e k l = omega (arith, ints)

  pub others_one : (number d : ℤ) → (least -ℤ m) ≡ (greatest -ℤ most) → d ≡ number -ℤ (least -ℤ m) → (q : ℕ → ℤ) → IsInside terms sets q
      → (sum_at terms q +ℤ d) ≡ (number +ℤ (t.coefficient *ℤ q t.variable))
  others_one number d e f q inside = adds_up (sum_at terms q) (t.coefficient *ℤ q t.variable) number (least -ℤ m) d (one_sum e q inside) f
    where
      adds_up : (s av number rest d : ℤ) → s ≡ rest +ℤ av → d ≡ number -ℤ rest → (s +ℤ d) ≡ (number +ℤ av)
      adds_up s av number rest d e f = omega (arith, ints)

  pub supported_one : (number : ℤ) → (least -ℤ m) ≡ (greatest -ℤ most) → (v : ℤ) → sets t.variable v → HasLinearPointAt terms (Differs number) sets t.variable v ↔ ((t.coefficient *ℤ v) ≢ (number -ℤ (least -ℤ m)))
  supported_one number e v member = (
    (λ s. λ f. s.is_point.satisfies (one_sum e s.point s.is_point.inside ∙ ap (λ (y : ℤ). (least -ℤ m) +ℤ (t.coefficient *ℤ y)) s.at ∙ adds_up (t.coefficient *ℤ v) number (least -ℤ m) f)),
    (λ ne. let p = low.reached.0 in let x = t.variable in
        differing_point terms number sets p x v low.reached.1 member
        (λ f. ne (comes_from (sum_at terms (put p x v)) (t.coefficient *ℤ v) number (least -ℤ m)
        (one_sum e (put p x v) (put_inside terms sets p x v low.reached.1 member) ∙ ap (λ (y : ℤ). (least -ℤ m) +ℤ (t.coefficient *ℤ y)) (put-same p x v)) f))),
  )
    where
      adds_up : (av number rest : ℤ) → av ≡ number -ℤ rest → rest +ℤ av ≡ number
      adds_up av number rest e = omega (arith, ints)

      comes_from : (s av number rest : ℤ) → s ≡ rest +ℤ av → s ≡ number → av ≡ number -ℤ rest
      comes_from s av number rest e f = omega (arith, ints)

  -- a number of the variable at the least point of the others, and at the greatest
  sum_low : (v : ℤ) → sum_at terms (put low.reached.0 t.variable v) ≡ ((least -ℤ m) +ℤ (t.coefficient *ℤ v))
  sum_low v = let p = low.reached.0 in
      both (sum_at terms (put p t.variable v)) (t.coefficient *ℤ p t.variable) least (t.coefficient *ℤ v) m
      (sum_at-put terms t p v d h ∙ ap (λ (y : ℤ). y +ℤ (t.coefficient *ℤ v)) (sym low.reached.2))
      (own.bound (p t.variable) (low.reached.1 t.variable (named_of terms t h)))
      (subst (λ (s : ℤ). (least +ℤ (t.coefficient *ℤ p t.variable)) ≤ℤ (s +ℤ m)) (sym low.reached.2) (at_least p low.reached.1))
    where
      both : (new own least av m : ℤ) → (new +ℤ own) ≡ (least +ℤ av) → m ≤ℤ own → (least +ℤ own) ≤ℤ (least +ℤ m) → new ≡ ((least -ℤ m) +ℤ av)
      both new own least av m e k l = omega (arith, ints)

  sum_high : (v : ℤ) → sum_at terms (put high.reached.0 t.variable v) ≡ ((greatest -ℤ most) +ℤ (t.coefficient *ℤ v))
  sum_high v = let p = high.reached.0 in
      both (sum_at terms (put p t.variable v)) (t.coefficient *ℤ p t.variable) greatest (t.coefficient *ℤ v) most
      (sum_at-put terms t p v d h ∙ ap (λ (y : ℤ). y +ℤ (t.coefficient *ℤ v)) (sym high.reached.2))
      (own_high.bound (p t.variable) (high.reached.1 t.variable (named_of terms t h)))
      (subst (λ (s : ℤ). (s +ℤ most) ≤ℤ (greatest +ℤ (t.coefficient *ℤ p t.variable))) (sym high.reached.2) (at_most p high.reached.1))
    where
      both : (new own greatest av most : ℤ) → (new +ℤ own) ≡ (greatest +ℤ av) → own ≤ℤ most → (greatest +ℤ most) ≤ℤ (greatest +ℤ own) → new ≡ ((greatest -ℤ most) +ℤ av)
      both new own greatest av most e k l = omega (arith, ints)

  -- of two sums that differ, not both are the number
  pub supported_more : (number : ℤ) → (least -ℤ m) ≢ (greatest -ℤ most) → (v : ℤ) → sets t.variable v → HasLinearPointAt terms (Differs number) sets t.variable v
  supported_more number ne v member = by_test (int_eq ((least -ℤ m) +ℤ (t.coefficient *ℤ v)) number) (int_eq_is ((least -ℤ m) +ℤ (t.coefficient *ℤ v)) number _ refl)
    where
      apart : (l g av number : ℤ) → l +ℤ av ≡ number → g +ℤ av ≡ number → l ≡ g
      apart l g av number e f = omega (arith, ints)

      by_test : (r : Bool) → IsTrue r ↔ (((least -ℤ m) +ℤ (t.coefficient *ℤ v)) ≡ number) → HasLinearPointAt terms (Differs number) sets t.variable v
      by_test true k = differing_point terms number sets high.reached.0 t.variable v high.reached.1 member
          (λ f. ne (apart (least -ℤ m) (greatest -ℤ most) (t.coefficient *ℤ v) number (k.0 refl) (sym (sum_high v) ∙ f)))
      by_test false k = differing_point terms number sets low.reached.0 t.variable v low.reached.1 member (λ f. false≢true (k.1 (sym (sum_low v) ∙ f)))

-- where the sum and d are the number and one term: the one number of its variable that makes the sum the number
module _ (terms : List Term) (a : ℤ) (x : ℕ) (number d : ℤ) (sets : ℕ → ℤ → Type 0) (point : ℕ → ℤ) (inside : IsInside terms sets point)
    (others : (q : ℕ → ℤ) → IsInside terms sets q → (sum_at terms q +ℤ d) ≡ (number +ℤ (a *ℤ q x))) (some : a ≢ pos 0) (v : ℤ) (makes : (a *ℤ v) ≡ d) where
  same_value : (s av : ℤ) → (s +ℤ d) ≡ (number +ℤ av) → s ≡ number → av ≡ d
  same_value s av e f = omega (arith, ints)

  back_value : (s av : ℤ) → (s +ℤ d) ≡ (number +ℤ av) → av ≡ d → s ≡ number
  back_value s av e f = omega (arith, ints)

  -- a point that gives the variable another number does not have the sum
  differs_at : (q : ℕ → ℤ) (z : ℤ) → IsInside terms sets q → q x ≡ z → z ≢ v → sum_at terms q ≢ number
  differs_at q z h e ne f = ne (sym e ∙ same_other_factor a (q x) v some (same_value (sum_at terms q) (a *ℤ q x) (others q h) f ∙ sym makes))

  at_itself : (z : ℤ) → sets x z → HasLinearPointAt terms (Differs number) sets x z ↔ (z ≢ v)
  at_itself z m = (
    (λ s. λ e. s.is_point.satisfies (back_value (sum_at terms s.point) (a *ℤ s.point x) (others s.point s.is_point.inside) (ap (λ (y : ℤ). a *ℤ y) (s.at ∙ e) ∙ makes))),
    (λ ne. differing_point terms number sets point x z inside m (differs_at (put point x z) z (put_inside terms sets point x z inside m) (put-same point x z) ne)),
  )

  at_another : (o : ℤ) → sets x o → o ≢ v → (j : ℕ) (z : ℤ) → j ≢ x → sets j z → HasLinearPointAt terms (Differs number) sets j z
  at_another o m ne j z apart h =
      let q : ℕ → ℤ = put (put point j z) x o in
      let inner = put_inside terms sets point j z inside h in
      let outer = put_inside terms sets (put point j z) x o inner m in
      record { point = q; is_point = record { inside = outer; satisfies = differs_at q o outer (put-same (put point j z) x o) ne }; at = put-other (put point j z) x j o apart ∙ put-same point j z }

  pub takes_one : HasTermOf terms x → sets x v → (u w : ℤ) → sets x u → sets x w → u ≢ w → TakesOnlyOne terms (Differs number) sets x v
  takes_one named member u w hu hw ne = record {
    named = named;
    member = member;
    left = (λ j z. by_place j z (decide j x));
  }
    where
      decide : (i j : ℕ) → (i ≡ j) ⊎ (i ≢ j)
      decide i j = cases_eq i j

      by_test : (r : Bool) → IsTrue r ↔ (u ≡ v) → (o : ℤ) × sets x o × (o ≢ v)
      by_test true k = (w, hw, (λ e. ne (k.0 refl ∙ sym e)))
      by_test false k = (u, hu, (λ e. false≢true (k.1 e)))

      another : (o : ℤ) × sets x o × (o ≢ v)
      another = by_test (int_eq u v) (int_eq_is u v _ refl)

      by_place : (j : ℕ) (z : ℤ) → (j ≡ x) ⊎ (j ≢ x) → NarrowedByLinear terms (Differs number) sets j z ↔ (sets j z × (j ≡ x → z ≢ v))
      by_place j z (inl e) = (
        (λ n. (n.kept, λ f. (at_itself z (subst (λ i. sets i z) e n.kept)).0 (subst (λ i. HasLinearPointAt terms (Differs number) sets i z) e (n.supported (subst (HasTermOf terms) (sym e) named))))),
        (λ h. record { kept = h.0; supported = (λ _. subst (λ i. HasLinearPointAt terms (Differs number) sets i z) (sym e) ((at_itself z (subst (λ i. sets i z) e h.0)).1 (h.1 e))) }),
      )
      by_place j z (inr apart) = (
        (λ n. (n.kept, λ e. absurd (apart e))),
        (λ h. record { kept = h.0; supported = (λ _. at_another another.0 another.1 another.2 j z apart h.0) }),
      )

-- a coefficient that gives two members two values
pub some_coefficient : (a u w : ℤ) → (a *ℤ u) <ℤ (a *ℤ w) → a ≢ pos 0
some_coefficient a u w h e = never (a *ℤ u) (a *ℤ w) h (none u) (none w)
  where
    none : (z : ℤ) → (a *ℤ z) ≡ pos 0
    none z = ap (λ (x : ℤ). x *ℤ z) e ∙ *ℤ_comm (pos 0) z ∙ *ℤ-zero z

    never : (x y : ℤ) → x <ℤ y → x ≡ pos 0 → y ≡ pos 0 → ⊥
    never x y h e f = omega (arith, ints)

pub other_members : (a u w : ℤ) → (a *ℤ u) <ℤ (a *ℤ w) → u ≢ w
other_members a u w h e = never (a *ℤ u) (a *ℤ w) h (ap (λ (x : ℤ). a *ℤ x) e)
  where
    never : (x y : ℤ) → x <ℤ y → x ≡ y → ⊥
    never x y h e = omega (arith, ints)

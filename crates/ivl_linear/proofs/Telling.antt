-- A variable that tells whether the sum is within a bound: its points are those of the bound and of what is above it.
use Rattle.std.proofs.Common.{◌≡◌, ◌≢◌, ◌↔◌, ◌⊎◌, inl, inr, ℕ, ℤ, pos, ◌+ℤ◌, ◌≤ℤ◌, ◌<ℤ◌, List, refl, sym, subst, ◌∙◌, arith, true}
use Rattle.std.proofs.lemmas.Int.{ints, by_lt_z}
use Rattle.std.specs.Prelude.{IsTrue}
use lib.Signed.{le_z, lt_z}
use Rattle.ivl_linear.specs.declared.linear.Term.{Term}
use Rattle.ivl_linear.specs.declared.linear.Relation.TheVariants.{AtMost, AtLeast, Tells}
use Rattle.ivl_linear.specs.Linear.{HasLinearPointAt, IsInside, IsLinearPoint, HasTermOf, LinearNames, LinearSupportsAll, sum_at}
use Rattle.ivl_linear.specs.Ends.{IsGreatestSum, IsLeastSum}
use Rattle.ivl_linear.proofs.Totals.{put, put-other, put-same, sum_at-unnamed}
use Rattle.ivl_linear.proofs.Support.{put_inside}

module _ (terms : List Term) (x : ℕ) (bound : ℤ) (sets : ℕ → ℤ → Type 0) (fresh : ¬ (HasTermOf terms x)) where
  apart : (i : ℕ) → HasTermOf terms i → i ≢ x
  apart i n e = fresh (subst (HasTermOf terms) e n)

  -- a point of the terms, where the variable is given a number
  told_inside : (q : ℕ → ℤ) (b : ℤ) → IsInside terms sets q → sets x b → (i : ℕ) → LinearNames terms (Tells x bound) i → sets i (put q x b i)
  told_inside q b h m i (inl e) = subst (λ j. sets j (put q x b j)) (sym e) (subst (sets x) (sym (put-same q x b)) m)
  told_inside q b h m i (inr n) = subst (sets i) (sym (put-other q x i b (apart i n))) (h i n)

  told_one : (q : ℕ → ℤ) → IsInside terms sets q → sets x (pos 1) → sum_at terms q ≤ℤ bound → IsLinearPoint terms (Tells x bound) sets (put q x (pos 1))
  told_one q h m k = record { inside = told_inside q (pos 1) h m; satisfies = inl (put-same q x (pos 1), subst (λ (s : ℤ). s ≤ℤ bound) (sym (sum_at-unnamed terms q x (pos 1) fresh)) k) }

  told_zero : (q : ℕ → ℤ) → IsInside terms sets q → sets x (pos 0) → bound <ℤ sum_at terms q → IsLinearPoint terms (Tells x bound) sets (put q x (pos 0))
  told_zero q h m k = record { inside = told_inside q (pos 0) h m; satisfies = inr (put-same q x (pos 0), subst (λ (s : ℤ). bound <ℤ s) (sym (sum_at-unnamed terms q x (pos 0) fresh)) k) }

  -- a member of another variable
  pub told_at : (i : ℕ) (v : ℤ) → HasTermOf terms i
      → HasLinearPointAt terms (Tells x bound) sets i v ↔ ((sets x (pos 1) × HasLinearPointAt terms (AtMost bound) sets i v) ⊎ (sets x (pos 0) × HasLinearPointAt terms (AtLeast (bound +ℤ pos 1)) sets i v))
  told_at i v n = (to, from)
    where
      above : (s b : ℤ) → b <ℤ s → (b +ℤ pos 1) ≤ℤ s
      above s b h = omega (arith, ints)

      below : (s b : ℤ) → (b +ℤ pos 1) ≤ℤ s → b <ℤ s
      below s b h = omega (arith, ints)

      to : HasLinearPointAt terms (Tells x bound) sets i v → (sets x (pos 1) × HasLinearPointAt terms (AtMost bound) sets i v) ⊎ (sets x (pos 0) × HasLinearPointAt terms (AtLeast (bound +ℤ pos 1)) sets i v)
      to s = elim s.is_point.satisfies [
        | inl h ↦ inl (subst (sets x) h.0 (s.is_point.inside x (inl refl)), record { point = s.point; is_point = record { inside = (λ j k. s.is_point.inside j (inr k)); satisfies = h.1 }; at = s.at })
        | inr h ↦ inr (subst (sets x) h.0 (s.is_point.inside x (inl refl)), record { point = s.point; is_point = record { inside = (λ j k. s.is_point.inside j (inr k)); satisfies = above (sum_at terms s.point) bound h.1 }; at = s.at })
      ]

      from : (sets x (pos 1) × HasLinearPointAt terms (AtMost bound) sets i v) ⊎ (sets x (pos 0) × HasLinearPointAt terms (AtLeast (bound +ℤ pos 1)) sets i v) → HasLinearPointAt terms (Tells x bound) sets i v
      from (inl (m, s)) = record { point = put s.point x (pos 1); is_point = told_one s.point s.is_point.inside m s.is_point.satisfies; at = put-other s.point x i (pos 1) (apart i n) ∙ s.at }
      from (inr (m, s)) = record { point = put s.point x (pos 0); is_point = told_zero s.point s.is_point.inside m (below (sum_at terms s.point) bound s.is_point.satisfies); at = put-other s.point x i (pos 0) (apart i n) ∙ s.at }

  -- a member of the variable itself
  pub told_self : (least greatest : ℤ) → IsLeastSum terms sets least → IsGreatestSum terms sets greatest → (v : ℤ) → sets x v
      → HasLinearPointAt terms (Tells x bound) sets x v ↔ (((v ≡ pos 1) × (least ≤ℤ bound)) ⊎ ((v ≡ pos 0) × (bound <ℤ greatest)))
  told_self least greatest low high v member = (to, from)
    where
      under : (l s b : ℤ) → l ≤ℤ s → s ≤ℤ b → l ≤ℤ b
      under l s b h k = omega (arith, ints)

      over : (b s g : ℤ) → b <ℤ s → s ≤ℤ g → b <ℤ g
      over b s g h k = omega (arith, ints)

      to : HasLinearPointAt terms (Tells x bound) sets x v → ((v ≡ pos 1) × (least ≤ℤ bound)) ⊎ ((v ≡ pos 0) × (bound <ℤ greatest))
      to s = elim s.is_point.satisfies [
        | inl h ↦ inl (sym s.at ∙ h.0, under least (sum_at terms s.point) bound (low.bound s.point (λ j k. s.is_point.inside j (inr k))) h.1)
        | inr h ↦ inr (sym s.at ∙ h.0, over bound (sum_at terms s.point) greatest h.1 (high.bound s.point (λ j k. s.is_point.inside j (inr k))))
      ]

      from : ((v ≡ pos 1) × (least ≤ℤ bound)) ⊎ ((v ≡ pos 0) × (bound <ℤ greatest)) → HasLinearPointAt terms (Tells x bound) sets x v
      from (inl (e, k)) = record {
        point = put low.reached.0 x (pos 1);
        is_point = told_one low.reached.0 low.reached.1 (subst (sets x) e member) (subst (λ (s : ℤ). s ≤ℤ bound) low.reached.2 k);
        at = put-same low.reached.0 x (pos 1) ∙ sym e;
      }
      from (inr (e, k)) = record {
        point = put high.reached.0 x (pos 0);
        is_point = told_zero high.reached.0 high.reached.1 (subst (sets x) e member) (subst (λ (s : ℤ). bound <ℤ s) high.reached.2 k);
        at = put-same high.reached.0 x (pos 0) ∙ sym e;
      }

-- where it keeps its members, and the terms do
pub told_keeps : (terms : List Term) (x : ℕ) (bound least greatest : ℤ) (sets : ℕ → ℤ → Type 0) → ¬ (HasTermOf terms x) → IsLeastSum terms sets least → IsGreatestSum terms sets greatest
    → ((v : ℤ) → sets x v → ((v ≡ pos 1) × (least ≤ℤ bound)) ⊎ ((v ≡ pos 0) × (bound <ℤ greatest)))
    → ((i : ℕ) → HasTermOf terms i → (v : ℤ) → sets i v → HasLinearPointAt terms (Tells x bound) sets i v) → LinearSupportsAll terms (Tells x bound) sets
told_keeps terms x bound least greatest sets fresh low high own others i (inl e) v m =
    let here = subst (λ j. sets j v) e m in
    subst (λ j. HasLinearPointAt terms (Tells x bound) sets j v) (sym e) ((told_self terms x bound sets fresh least greatest low high v here).1 (own v here))
told_keeps terms x bound least greatest sets fresh low high own others i (inr n) v m = others i n v m

-- where the variable may be both 0 and 1, no other loses a member
pub told_any : (terms : List Term) (x : ℕ) (bound : ℤ) (sets : ℕ → ℤ → Type 0) → ¬ (HasTermOf terms x) → sets x (pos 0) → sets x (pos 1) → (p : ℕ → ℤ) → IsInside terms sets p
    → (i : ℕ) → HasTermOf terms i → (v : ℤ) → sets i v → HasLinearPointAt terms (Tells x bound) sets i v
told_any terms x bound sets fresh zero one p inside i n v m = by_lt_z bound (sum_at terms (put p i v))
    (λ above. record { point = put (put p i v) x (pos 0); is_point = told_zero terms x bound sets fresh (put p i v) (put_inside terms sets p i v inside m) zero above; at = put-other (put p i v) x i (pos 0) (apart terms x bound sets fresh i n) ∙ put-same p i v })
    (λ at_most. record { point = put (put p i v) x (pos 1); is_point = told_one terms x bound sets fresh (put p i v) (put_inside terms sets p i v inside m) one at_most; at = put-other (put p i v) x i (pos 1) (apart terms x bound sets fresh i n) ∙ put-same p i v })

-- what the tests say
pub le_says : (a b : ℤ) → IsTrue (le_z a b) ↔ (a ≤ℤ b)
le_says a b = ((λ h. le_from a b h), (λ h. le_to a b h))
  where
    le_from : (a b : ℤ) → le_z a b ≡ true → a ≤ℤ b
    le_from a b h = grind (arith, ints)

    le_to : (a b : ℤ) → a ≤ℤ b → le_z a b ≡ true
    le_to a b h = grind (arith, ints)

pub lt_says : (a b : ℤ) → IsTrue (lt_z a b) ↔ (a <ℤ b)
lt_says a b = ((λ h. lt_from a b h), (λ h. lt_to a b h))
  where
    lt_from : (a b : ℤ) → lt_z a b ≡ true → a <ℤ b
    lt_from a b h = grind (arith, ints)

    lt_to : (a b : ℤ) → a <ℤ b → lt_z a b ≡ true
    lt_to a b h = grind (arith, ints)

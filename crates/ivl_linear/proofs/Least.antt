-- The least and the greatest value of a term and of a sum of terms.
use Rattle.std.proofs.Common.{◌≡◌, inl, inr, ℕ, ◌+◌, ◌*◌, ◌^◌, ◌<◌, ◌≤◌, ℤ, pos, negsuc, ◌+ℤ◌, ◌-ℤ◌, ◌*ℤ◌, ◌≤ℤ◌, ◌<ℤ◌, List, [], ◌∷◌, refl, sym, ap, subst, ◌∙◌, arith, unsigned_abs, mul-le-mul_left}
use Rattle.std.proofs.lemmas.Int.{ints, unsigned_abs-mul}
use Rattle.ivl_laws.specs.Bounds.{IsBoundRange}
use Rattle.ivl_laws.specs.Sets.{IsBetween}
use Rattle.ivl_laws.proofs.Products.{times_up, times_down}
use Rattle.ivl_linear.specs.declared.linear.Term.{Term}
use Rattle.ivl_linear.specs.Linear.{AreOfDifferent, HasTermOf, sum_at, weight}
use Rattle.ivl_linear.specs.Ends.{IsTermEnd, IsSumEnd, IsGreatestTerm, IsLeastTerm}
use Rattle.ivl_linear.proofs.Totals.{put, sum_at-first, inside_put}
use lib.IntN.{*ℤ_comm}

-- ---- sizes

pub abs_in_range : (whole : ℤ × ℤ) (z : ℤ) → IsBoundRange whole → IsBetween whole z → unsigned_abs z < 2 ^ 64
abs_in_range whole (pos n) r h = let high = r.high_at_most in let h1 = h.1 in omega (arith, ints)
abs_in_range whole (negsuc n) r h = let low = r.low_at_least in let h0 = h.0 in omega (arith, ints)

pub abs_from : (z : ℤ) (n : ℕ) → z ≤ℤ pos n → (pos 0 -ℤ pos n) ≤ℤ z → unsigned_abs z ≤ n
abs_from (pos m) n h k = omega (arith, ints)
abs_from (negsuc m) n h k = omega (arith, ints)

pub abs_high : (z : ℤ) → z ≤ℤ pos (unsigned_abs z)
abs_high (pos m) = omega (arith, ints)
abs_high (negsuc m) = omega (arith, ints)

pub abs_low : (z : ℤ) → (pos 0 -ℤ pos (unsigned_abs z)) ≤ℤ z
abs_low (pos m) = omega (arith, ints)
abs_low (negsuc m) = omega (arith, ints)

pub abs-add : (x y : ℤ) → unsigned_abs (x +ℤ y) ≤ unsigned_abs x + unsigned_abs y
abs-add x y = abs_from (x +ℤ y) (unsigned_abs x + unsigned_abs y)
    (let a = abs_high x in let b = abs_high y in omega (arith, ints))
    (let a = abs_low x in let b = abs_low y in omega (arith, ints))

pub small_product : (a x : ℤ) → unsigned_abs x < 2 ^ 64 → unsigned_abs (a *ℤ x) ≤ unsigned_abs a * 2 ^ 64
small_product a x h = subst (λ n. n ≤ unsigned_abs a * 2 ^ 64) (sym (unsigned_abs-mul a x)) (mul-le-mul_left (unsigned_abs a) (omega arith))

-- ---- one term

pub up_from_left : (a x y : ℤ) → pos 0 ≤ℤ a → x ≤ℤ y → (a *ℤ x) ≤ℤ (a *ℤ y)
up_from_left a x y n h = rw (*ℤ_comm a x, *ℤ_comm a y) (times_up x y a h n)

pub down_from_left : (a x y : ℤ) → a ≤ℤ pos 0 → x ≤ℤ y → (a *ℤ y) ≤ℤ (a *ℤ x)
down_from_left a x y n h = rw (*ℤ_comm a x, *ℤ_comm a y) (times_down x y a h n)

pub least_at_lower : (a : ℤ) (S : ℤ → Type 0) (u m : ℤ) → pos 0 ≤ℤ a → S u → ((z : ℤ) → S z → u ≤ℤ z) → m ≡ a *ℤ u → IsLeastTerm a S m
least_at_lower a S u m n h k e = record { reached = (u, h, e); bound = (λ z s. subst (λ w. w ≤ℤ (a *ℤ z)) (sym e) (up_from_left a u z n (k z s))) }

pub least_at_upper : (a : ℤ) (S : ℤ → Type 0) (u m : ℤ) → a <ℤ pos 0 → S u → ((z : ℤ) → S z → z ≤ℤ u) → m ≡ a *ℤ u → IsLeastTerm a S m
least_at_upper a S u m n h k e = record { reached = (u, h, e); bound = (λ z s. subst (λ w. w ≤ℤ (a *ℤ z)) (sym e) (down_from_left a z u (omega (arith, ints)) (k z s))) }

pub greatest_at_upper : (a : ℤ) (S : ℤ → Type 0) (u m : ℤ) → pos 0 ≤ℤ a → S u → ((z : ℤ) → S z → z ≤ℤ u) → m ≡ a *ℤ u → IsGreatestTerm a S m
greatest_at_upper a S u m n h k e = record { reached = (u, h, e); bound = (λ z s. subst (λ w. (a *ℤ z) ≤ℤ w) (sym e) (up_from_left a z u n (k z s))) }

pub greatest_at_lower : (a : ℤ) (S : ℤ → Type 0) (u m : ℤ) → a <ℤ pos 0 → S u → ((z : ℤ) → S z → u ≤ℤ z) → m ≡ a *ℤ u → IsGreatestTerm a S m
greatest_at_lower a S u m n h k e = record { reached = (u, h, e); bound = (λ z s. subst (λ w. (a *ℤ z) ≤ℤ w) (sym e) (down_from_left a u z (omega (arith, ints)) (k z s))) }

-- ---- a sum

-- what is used of `at most` and of `at least`
pub record AddsUp (R : ℤ → ℤ → Type 0) : Type 0 where
  pub none : R (pos 0) (pos 0)
  pub both : (a b c d : ℤ) → R a b → R c d → R (a +ℤ c) (b +ℤ d)

pub at_most_adds : AddsUp (λ m x. m ≤ℤ x)
at_most_adds = record { none = none; both = both }
  where
    none : pos 0 ≤ℤ pos 0
    none = omega (arith, ints)

    both : (a b c d : ℤ) → a ≤ℤ b → c ≤ℤ d → (a +ℤ c) ≤ℤ (b +ℤ d)
    both a b c d h k = omega (arith, ints)

pub at_least_adds : AddsUp (λ m x. x ≤ℤ m)
at_least_adds = record { none = at_most_adds.none; both = (λ a b c d h k. at_most_adds.both b a d c h k) }

-- what a loop over the terms knows of the sum so far, where `rest` are the terms that are left
pub record SumsUpTo (R : ℤ → ℤ → Type 0) (terms rest : List Term) (sets : ℕ → ℤ → Type 0) (sum : ℤ) : Type 0 where
  pub different : AreOfDifferent rest
  pub named : (i : ℕ) → HasTermOf rest i → HasTermOf terms i
  pub end : (n : ℤ) → IsSumEnd R rest sets n → IsSumEnd R terms sets (sum +ℤ n)
  pub small : unsigned_abs sum + weight rest * 2 ^ 64 ≤ 2 ^ 124

module _ (R : ℤ → ℤ → Type 0) (adds : AddsUp R) where
  end_none : (sets : ℕ → ℤ → Type 0) → IsSumEnd R [] sets (pos 0)
  end_none sets = record { reached = ((λ _. pos 0), (λ i n. absurd n), refl); bound = (λ p h. adds.none) }

  end_more : (t : Term) (rest : List Term) (sets : ℕ → ℤ → Type 0) (m n : ℤ) → ¬ (HasTermOf rest t.variable) → IsTermEnd R t.coefficient (sets t.variable) m → IsSumEnd R rest sets n
      → IsSumEnd R (t ∷ rest) sets (m +ℤ n)
  end_more t rest sets m n ne one others =
      let v = one.reached.0 in
      let p = others.reached.0 in
      record {
        reached = (
          put p t.variable v,
          inside_put (t ∷ rest) sets p t.variable v (λ i named other. elim named [ inl e ↦ absurd (other e) | inr k ↦ others.reached.1 i k ]) one.reached.1,
          ap (λ (x : ℤ). x +ℤ n) one.reached.2 ∙ ap (λ (y : ℤ). (t.coefficient *ℤ v) +ℤ y) others.reached.2 ∙ sym (sum_at-first t rest p v ne),
        );
        bound = (λ q h. adds.both m (t.coefficient *ℤ q t.variable) n (sum_at rest q) (one.bound (q t.variable) (h t.variable (inl refl))) (others.bound q (λ i k. h i (inr k))));
      }

  pub sums_none : (terms : List Term) (sets : ℕ → ℤ → Type 0) → AreOfDifferent terms → weight terms ≤ 2 ^ 60 → SumsUpTo R terms terms sets (pos 0)
  sums_none terms sets d w = record {
    different = d;
    named = (λ i n. n);
    end = (λ n h. subst (IsSumEnd R terms sets) (zero_first n) h);
    small = (let a : unsigned_abs (pos 0) ≡ 0 = refl in omega arith);
  }
    where
      zero_first : (n : ℤ) → n ≡ pos 0 +ℤ n
      zero_first n = omega (arith, ints)

  pub sums_more : (terms : List Term) (t : Term) (rest : List Term) (sets : ℕ → ℤ → Type 0) (sum m : ℤ) → SumsUpTo R terms (t ∷ rest) sets sum → IsTermEnd R t.coefficient (sets t.variable) m
      → unsigned_abs m ≤ unsigned_abs t.coefficient * 2 ^ 64 → SumsUpTo R terms rest sets (sum +ℤ m)
  sums_more terms t rest sets sum m s one k = record {
    different = s.different.1;
    named = (λ i n. s.named i (inr n));
    end = (λ n h. subst (IsSumEnd R terms sets) (regroup sum m n) (s.end (m +ℤ n) (end_more t rest sets m n s.different.0 one h)));
    small = small_more (unsigned_abs sum) (unsigned_abs m) (unsigned_abs (sum +ℤ m)) (unsigned_abs t.coefficient) (weight rest) (abs-add sum m) k s.small;
  }
    where
      regroup : (x y z : ℤ) → x +ℤ (y +ℤ z) ≡ (x +ℤ y) +ℤ z
      regroup x y z = omega (arith, ints)

      small_more : (s m t a w : ℕ) → t ≤ s + m → m ≤ a * 2 ^ 64 → s + (a + w) * 2 ^ 64 ≤ 2 ^ 124 → t + w * 2 ^ 64 ≤ 2 ^ 124
      small_more s m t a w h k l = omega arith

  pub sums_all : (terms : List Term) (sets : ℕ → ℤ → Type 0) (sum : ℤ) → SumsUpTo R terms [] sets sum → IsSumEnd R terms sets sum
  sums_all terms sets sum s = subst (IsSumEnd R terms sets) (zero_last sum) (s.end (pos 0) (end_none sets))
    where
      zero_last : (n : ℤ) → n +ℤ pos 0 ≡ n
      zero_last n = omega (arith, ints)

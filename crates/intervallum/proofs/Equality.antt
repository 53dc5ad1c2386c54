-- Equality of run lists as a test, and of the sets that they hold.
use Rattle.std.proofs.Common.{◌≡◌, ◌↔◌, ◌<◌, ◌≤ℤ◌, ℕ, ℤ, Bool, true, false, IsTrue, not, ◌&&◌, List, [], ◌∷◌, refl, sym, ap, ◌∙◌, subst, arith}
use Rattle.std.proofs.lemmas.Int.{ints}
use Rattle.std.proofs.lemmas.Bool.Decides.{nat_tests}
use Rattle.std.specs.Prelude.{Option, nat_eq}
use Rattle.std.specs.declared.cmp.Ordering.{Ordering}
use Rattle.std.specs.Ordering.{nat_cmp, partial_gt, is_some_and, is_gt}
use Rattle.std.proofs.Math.Bool.{true≢false}
use Rattle.ivl_laws.specs.Bounds.{OrdersByCount}
use Rattle.ivl_laws.specs.Sets.{IsBetween, IsSubset, IsProperSubset, SameMembers}
use Rattle.ivl_laws.specs.Runs.{Covers, IsMaximal}
use Rattle.ivl_laws.specs.Counts.{IsCountOf}
use Rattle.ivl_laws.proofs.Runs.{pair_same, runs_are_unique}
use Rattle.ivl_laws.proofs.Counts.{IsCountOf-same, count_is_monotone, count_is_unique, same_count_same_members}
use Rattle.ivl_interval.specs.SameInterval.{same_interval}
use Rattle.ivl_interval.proofs.Pairs.{same_interval_members}
use Rattle.intervallum.specs.Equality.{same_runs}
use Rattle.intervallum.specs.EqualityLaws.{same_runs_equiv}

and_both : (a b : Bool) → (a && b) ≡ true → (a ≡ true) × (b ≡ true)
and_both true true e = (refl, refl)
and_both true false e = absurd (cc)
and_both false b e = absurd (cc)

-- a pair that is not crossed is the only one of its interval
pub same_pair : (p q : ℤ × ℤ) → p.0 ≤ℤ p.1 → same_interval p q ≡ true → p ≡ q
same_pair p q o e =
    let same : SameMembers (IsBetween p) (IsBetween q) = (same_interval_members p q (same_interval p q) refl).0 e in
    let lower = (same p.0).0 (omega (arith, ints), o) in
    let upper = (same p.1).0 (o, omega (arith, ints)) in
    let open_pair : q.0 ≤ℤ q.1 = omega (arith, ints, lower.0, lower.1) in
    let lower' = (same q.0).1 (omega (arith, ints), open_pair) in
    let upper' = (same q.1).1 (open_pair, omega (arith, ints)) in
    pair_same p q (omega (arith, ints, lower.0, lower'.0)) (omega (arith, ints, upper.1, upper'.1))

cons_is : (p q : ℤ × ℤ) (L M : List (ℤ × ℤ)) → p ≡ q → L ≡ M → ◌≡◌ {A = List (ℤ × ℤ)} (p ∷ L) (q ∷ M)
cons_is p q L M e f i = e i ∷ f i

same_list : (L M : List (ℤ × ℤ)) → IsMaximal L → same_runs L M ≡ true → L ≡ M
same_list [] [] m e = refl
same_list [] (q ∷ M) m e = absurd (cc)
same_list (p ∷ L) [] m e = absurd (cc)
same_list (p ∷ L) (q ∷ M) m e =
    let both = and_both (same_interval p q) (same_runs L M) e in
    cons_is p q L M (same_pair p q m.0 both.0) (same_list L M m.2 both.1)

same_runs_members : (L M : List (ℤ × ℤ)) (t : Bool) → IsMaximal L → IsMaximal M → t ≡ same_runs L M → IsTrue t ↔ SameMembers (Covers L) (Covers M)
same_runs_members L M t m n e = (
  λ h. let P : List (ℤ × ℤ) → Type 0 = λ N. SameMembers (Covers L) (Covers N) in subst P (same_list L M m (sym e ∙ h)) (λ z. (λ c. c, λ c. c)),
  λ s. let P : List (ℤ × ℤ) → Type 0 = λ N. same_runs L N ≡ true in e ∙ subst P (runs_are_unique L M m n s) (same_runs_equiv.refl L),
)

pub same_runs_seen : (L M L' M' : List (ℤ × ℤ)) (t : Bool) → L ≡ L' → M ≡ M' → IsMaximal L → IsMaximal M → t ≡ same_runs L M
    → IsTrue t ↔ SameMembers (Covers L') (Covers M')
same_runs_seen L M L' M' t e f m n h = rw (← e, ← f) (same_runs_members L M t m n h)

-- a test of two lists, which were read as K and N
pub tells_same_runs : (L M K N : List (ℤ × ℤ)) (t : Bool) → IsMaximal L → K ≡ L → N ≡ M → (IsTrue t ↔ (K ≡ N)) → t ≡ same_runs L M
tells_same_runs L M K N true m a b k =
    let P : List (ℤ × ℤ) → Type 0 = λ N. same_runs L N ≡ true in
    sym (subst P (sym a ∙ k.0 refl ∙ b) (same_runs_equiv.refl L))
tells_same_runs L M K N false m a b k = by_cases (same_runs L M) refl
  where
    by_cases : (u : Bool) → same_runs L M ≡ u → false ≡ same_runs L M
    by_cases false e = sym e
    by_cases true e = let u = k.1 (a ∙ same_list L M m e ∙ sym b) in absurd (cc)

-- lists of different counts are not the same
pub same_runs-counts : (L M : List (ℤ × ℤ)) (m n : ℕ) → IsMaximal L → IsCountOf m (Covers L) → IsCountOf n (Covers M) → ¬ (m ≡ n) → same_runs L M ≡ false
same_runs-counts L M m n o a b d = by_cases (same_runs L M) refl
  where
    by_cases : (t : Bool) → same_runs L M ≡ t → same_runs L M ≡ false
    by_cases false e = e
    by_cases true e =
        let P : List (ℤ × ℤ) → Type 0 = λ N. IsCountOf m (Covers N) in
        absurd (d (count_is_unique (Covers M) m n (subst P (same_list L M o e) a) b))

not_equal : (m n : ℕ) (r : Bool) → r ≡ nat_eq m n → r ≡ false → ¬ (m ≡ n)
not_equal m n r e f h = grind (arith, nat_tests)

-- what a test of two sizes says that fails
pub sizes_differ : {N : Type 0} {size : N → ℕ} {eq : N → N → Bool} {partial : N → N → Option Ordering} {total : N → N → Ordering}
    (o : OrdersByCount size eq partial total) (x y : N) (r : Bool) → r ≡ eq x y → r ≡ false → ¬ (size x ≡ size y)
sizes_differ {size = size} o x y r e f = not_equal (size x) (size y) r (e ∙ o.equal x y) f

more_by_count : (a b : ℕ) (r : Bool) → r ≡ is_gt (nat_cmp a b) → r ≡ true → b < a
more_by_count a b r e f = grind (arith, nat_tests)

-- a set with more members than another one is no subset of it
pub larger_is_no_subset : {N : Type 0} {size : N → ℕ} {eq : N → N → Bool} {partial : N → N → Option Ordering} {total : N → N → Ordering}
    (o : OrdersByCount size eq partial total) (x y : N) (r : Bool) (S T : ℤ → Type 0) → r ≡ partial_gt partial x y → r ≡ true → IsCountOf (size x) S → IsCountOf (size y) T →
    IsTrue false ↔ IsSubset S T
larger_is_no_subset {size = size} o x y r S T e f a b =
    let more = more_by_count (size x) (size y) r (e ∙ ap (is_some_and is_gt) (o.partial x y)) f in
    ((λ h. absurd (true≢false (sym h))), (λ s. let le = count_is_monotone S T (size x) (size y) s a b in absurd (omega arith)))

-- ---- a subset is a proper one exactly where the sizes differ

counts_differ : (a b : ℕ) (r : Bool) → r ≡ not (nat_eq a b) → r ≡ true → ¬ (a ≡ b)
counts_differ a b r e f h = grind (arith, nat_tests)

counts_agree : (a b : ℕ) (r : Bool) → r ≡ not (nat_eq a b) → r ≡ false → a ≡ b
counts_agree a b r e f = grind (arith, nat_tests)

module _ {N : Type 0} {size : N → ℕ} {eq : N → N → Bool} {partial : N → N → Option Ordering} {total : N → N → Ordering}
    (o : OrdersByCount size eq partial total) (x y : N) (r : Bool) (S T : ℤ → Type 0) (e : r ≡ not (eq x y)) (a : IsCountOf (size x) S) (b : IsCountOf (size y) T) where
  pub same_by_size : r ≡ false → IsSubset S T → SameMembers S T
  same_by_size f h =
      same_count_same_members S T (size x) h a
      (subst (λ n. IsCountOf n T) (sym (counts_agree (size x) (size y) r (e ∙ ap not (o.equal x y)) f)) b)

  pub differ_by_size : r ≡ true → ¬ (SameMembers S T)
  differ_by_size f same =
      counts_differ (size x) (size y) r (e ∙ ap not (o.equal x y)) f (count_is_unique T (size x) (size y) (IsCountOf-same S T (size x) same a) b)

  pub proper_by_size : (t : Bool) → r ≡ true → (IsTrue t ↔ IsSubset S T) → IsTrue t ↔ IsProperSubset S T
  proper_by_size t f k = ((λ h. (k.0 h, differ_by_size f)), (λ p. k.1 p.0))

  pub not_proper_by_size : r ≡ false → IsTrue r ↔ IsProperSubset S T
  not_proper_by_size f = ((λ h. absurd (true≢false (sym h ∙ f))), (λ p. absurd (p.1 (same_by_size f p.0))))

-- Few runs beside many: what each of them has in common with the many, where two searches found it.
use Rattle.std.proofs.Common.{◌≡◌, ◌⊎◌, ⊎_elim, inl, inr, ℕ, zero, suc, ◌+◌, ◌-◌, ◌*◌, ◌<◌, ◌≤◌, ℤ, pos, ◌≤ℤ◌, List, [], ◌∷◌, length, get_or, take, drop, take_all, refl, ap, sym, subst, ◌∙◌, arith}
use Rattle.std.proofs.lemmas.Int.{ints}
use Rattle.std.proofs.Math.Nat.{mul-le-mul_right}
use Rattle.std.proofs.lemmas.Result.{IfOk-weaker}
use Rattle.std.specs.Prelude.{Result, IfOk}
use Rattle.ivl_laws.specs.Sets.{Complement, IsBetween, Intersection, SameMembers, Union, Without}
use Rattle.ivl_laws.specs.Counts.{IsCountOf}
use Rattle.ivl_laws.specs.Runs.{Covers, IsMaximal, IsRunListIn, IsRunsOf, StartsBy}
use Rattle.ivl_laws.proofs.Places.{open_at, runs_ascend}
use Rattle.ivl_laws.proofs.SetLaws.{IsRunsOf-same}
use Rattle.ivl_places.specs.Places.{EndBelow, EndsFrom, StartAbove}
use Rattle.ivl_walks.specs.Order.{IsBelow}
use Rattle.ivl_places.proofs.Finding.{EndBelow-more}
use Rattle.ivl_places.proofs.PartCounts.{parts_more, parts_none}
use Rattle.ivl_places.proofs.Splicing.{taken_below}
use Rattle.ivl_laws.proofs.Slices.{same_item}
use Rattle.ivl_places.proofs.Windows.{IsWindow, is_window, first_of_kept, part_is_run_list, same_in_window, starts_of_kept}

-- K is the part of the list L that meets W
pub record IsShared (whole : ℤ × ℤ) (L K : List (ℤ × ℤ)) (W : ℤ × ℤ) : Type 0 where
  pub runs : IsRunListIn whole K
  pub first : EndsFrom W.0 K
  pub last : StartsBy W.1 K
  pub members : SameMembers (Intersection (Covers K) (IsBetween W)) (Intersection (Covers L) (IsBetween W))

-- R is the list as it is read, and P and M as the two searches had it, for the ends of W
pub is_shared : (whole : ℤ × ℤ) (L R P M : List (ℤ × ℤ)) (W : ℤ × ℤ) (a b : ℤ) (i j : ℕ) → IsRunListIn whole L → R ≡ L → P ≡ L → M ≡ P → W.0 ≤ℤ W.1 → a ≡ W.0 → b ≡ W.1 →
    i ≤ length P → EndBelow a (take i P) → EndsFrom a (drop i P) → StartsBy b (take j M) → StartAbove b (drop j M) → IsShared whole L (take (j - i) (drop i R)) W
is_shared whole L R P M W a b i j l r p e o f g le below ends starts above =
    let q : IsRunListIn whole P = subst (IsRunListIn whole) (sym p) l in
    let w : IsWindow P W i j = is_window P P M W a b i j q.maximal refl e o f g le below above in
    let made : IsShared whole P (take (j - i) (drop i P)) W = record {
      runs = part_is_run_list whole P i (j - i) q;
      first = first_of_kept P P P i (j - i) a W.0 refl refl f ends;
      last = starts_of_kept P P P M i j b W.1 refl refl e g starts;
      members = same_in_window P i j W w.in_order w.below w.above;
    } in
    let there : IsShared whole L (take (j - i) (drop i L)) W = subst (λ (N : List (ℤ × ℤ)). IsShared whole N (take (j - i) (drop i N)) W) p made in
    subst (λ (N : List (ℤ × ℤ)). IsShared whole L (take (j - i) (drop i N)) W) (sym r) there

-- the same numbers are added, told in another way
pub with_part : (old new : List (ℤ × ℤ)) (S T : ℤ → Type 0) → SameMembers S T → IsRunsOf new (Union (Covers old) S) → IsRunsOf new (Union (Covers old) T)
with_part old new S T e = IsRunsOf-same (Union (Covers old) S) (Union (Covers old) T) new (λ z. (
  ⊎_elim (λ c. inl c) (λ s. inr ((e z).0 s)),
  ⊎_elim (λ c. inl c) (λ t. inr ((e z).1 t)),
))

-- what is written is what the first k of the few have in common with the many, M, and the next one is looked for from a place below it
pub record SharedSoFar (L M written : List (ℤ × ℤ)) (k from : ℕ) : Type 0 where
  pub runs : IsRunsOf written (Intersection (Covers (take k L)) (Covers M))
  pub at_most : from ≤ length M
  pub below : (d : ℤ × ℤ) → k < length L → d ≡ get_or L k d → EndBelow d.0 (take from M)

pub shared_by_none : (L M : List (ℤ × ℤ)) → SharedSoFar L M [] 0 0
shared_by_none L M = record { runs = record { maximal = tt; members = λ z. ((λ c. absurd c), (λ c. absurd c.0)) }; at_most = omega arith; below = λ d h e. tt }

-- what is written lies below the next run
pub written_below : (L M written : List (ℤ × ℤ)) (k from : ℕ) (d : ℤ × ℤ) → IsMaximal L → k < length L → d ≡ get_or L k d → SharedSoFar L M written k from → IsBelow (pos 2) (Covers written) (IsBetween d)
written_below L M written k from d m h is s x y c b =
    let far = taken_below L k d x m h ((s.runs.members x).0 c).0 in
    let start : d.0 ≡ (get_or L k d).0 = ap (λ (r : ℤ × ℤ). r.0) is in
    let low = b.0 in
    omega (arith, ints, far, start, low)

covered_more : (L : List (ℤ × ℤ)) (k : ℕ) (d : ℤ × ℤ) (z : ℤ) → k < length L → Covers (take (k + 1) L) z → Covers (take k L) z ⊎ IsBetween (get_or L k d) z
covered_more [] k d z h c = absurd (omega arith)
covered_more (p ∷ L) zero d z h (inl b) = inr b
covered_more (p ∷ L) zero d z h (inr c) = absurd c
covered_more (p ∷ L) (suc k) d z h c =
    let e : suc k + 1 ≡ suc (k + 1) = omega arith in
    ⊎_elim (λ b. inl (inl b)) (λ t. ⊎_elim (λ c. inl (inr c)) (λ b. inr b) (covered_more L k d z (omega arith) t)) (subst (λ (n : ℕ). Covers (take n (p ∷ L)) z) e c)

covered_by_more : (L : List (ℤ × ℤ)) (k : ℕ) (d : ℤ × ℤ) (z : ℤ) → k < length L → Covers (take k L) z ⊎ IsBetween (get_or L k d) z → Covers (take (k + 1) L) z
covered_by_more [] k d z h c = absurd (omega arith)
covered_by_more (p ∷ L) zero d z h (inl c) = absurd c
covered_by_more (p ∷ L) zero d z h (inr b) = inl b
covered_by_more (p ∷ L) (suc k) d z h c =
    let e : suc (k + 1) ≡ suc k + 1 = omega arith in
    subst (λ (n : ℕ). Covers (take n (p ∷ L)) z) e
    (⊎_elim (⊎_elim (λ b. inl b) (λ t. inr (covered_by_more L k d z (omega arith) (inl t)))) (λ b. inr (covered_by_more L k d z (omega arith) (inr b))) c)

-- what ends below a run ends below the next one
below_next : (L M : List (ℤ × ℤ)) (k i : ℕ) (d : ℤ × ℤ) → IsMaximal L → k < length L → d ≡ get_or L k d → EndBelow d.0 (take i M) →
    (next : ℤ × ℤ) → k + 1 < length L → next ≡ get_or L (k + 1) next → EndBelow next.0 (take i M)
below_next L M k i d m h is e next more there =
    let far = runs_ascend L k (k + 1) (pos 0, pos 0) m (omega arith) more in
    let open_run = open_at L k (pos 0, pos 0) m h in
    let start : d.0 ≡ (get_or L k (pos 0, pos 0)).0 = ap (λ (p : ℤ × ℤ). p.0) (is ∙ same_item L k d (pos 0, pos 0) h) in
    let later : next.0 ≡ (get_or L (k + 1) (pos 0, pos 0)).0 = ap (λ (p : ℤ × ℤ). p.0) (there ∙ same_item L (k + 1) next (pos 0, pos 0) more) in
    EndBelow-more (take i M) d.0 next.0 (omega (arith, ints, far, open_run, start, later)) e

pub shared_by_next : (L M written added : List (ℤ × ℤ)) (k from i : ℕ) (d : ℤ × ℤ) → IsMaximal L → k < length L → d ≡ get_or L k d → SharedSoFar L M written k from →
    IsRunsOf added (Union (Covers written) (Intersection (Covers M) (IsBetween d))) → i ≤ length M → EndBelow d.0 (take i M) → SharedSoFar L M added (k + 1) i
shared_by_next L M written added k from i d m h is s r le e = record {
  runs = record {
    maximal = r.maximal;
    members = λ z. (
      (λ c. ⊎_elim
          (λ w. let t = (s.runs.members z).0 w in (covered_by_more L k d z h (inl t.0), t.1))
          (λ (t, b). (covered_by_more L k d z h (inr (subst (λ (p : ℤ × ℤ). IsBetween p z) is b)), t))
          ((r.members z).0 c)),
      (λ (c, t). (r.members z).1 (⊎_elim (λ w. inl ((s.runs.members z).1 (w, t))) (λ b. inr (t, subst (λ (p : ℤ × ℤ). IsBetween p z) (sym is) b)) (covered_more L k d z h c))),
    );
  };
  at_most = le;
  below = below_next L M k i d m h is e;
}

-- all of the few are done
pub shared_by_all : (L M written : List (ℤ × ℤ)) (k from : ℕ) → length L ≤ k → SharedSoFar L M written k from → IsRunsOf written (Intersection (Covers L) (Covers M))
shared_by_all L M written k from n s = subst (λ (K : List (ℤ × ℤ)). IsRunsOf written (Intersection (Covers K) (Covers M))) (take_all k L n) s.runs

-- what the first k of the few have in common with the many, M, are n numbers, and the next one is looked for from a place below it
pub record CountedSoFar (L M : List (ℤ × ℤ)) (n k from : ℕ) : Type 0 where
  pub count : IsCountOf n (Intersection (Covers (take k L)) (Covers M))
  pub at_most : from ≤ length M
  pub below : (d : ℤ × ℤ) → k < length L → d ≡ get_or L k d → EndBelow d.0 (take from M)

pub counted_by_none : (L M : List (ℤ × ℤ)) (n : ℕ) → n ≡ 0 → CountedSoFar L M n 0 0
counted_by_none L M n e = record { count = parts_none L (Covers M) n e; at_most = omega arith; below = λ d h is. tt }

-- K has what the many have in the next run
pub counted_more : (L M K : List (ℤ × ℤ)) (n more k from : ℕ) (d : ℤ × ℤ) → IsMaximal L → k < length L → d ≡ get_or L k d → CountedSoFar L M n k from →
    SameMembers (Intersection (Covers K) (IsBetween d)) (Intersection (Covers M) (IsBetween d)) → IsCountOf more (Intersection (Covers K) (IsBetween d)) →
    IsCountOf (n + more) (Intersection (Covers (take (k + 1) L)) (Covers M))
counted_more L M K n more k from d m h is s same here =
    parts_more L k d m h is (Intersection (Covers K) (IsBetween d)) (Covers M) n more
    (λ z. ((λ i. let t = (same z).0 i in (t.1, t.0)), (λ i. (same z).1 (i.1, i.0)))) s.count here

pub counted_by_next : (L M : List (ℤ × ℤ)) (n k i : ℕ) (d : ℤ × ℤ) → IsMaximal L → k < length L → d ≡ get_or L k d →
    IsCountOf n (Intersection (Covers (take (k + 1) L)) (Covers M)) → i ≤ length M → EndBelow d.0 (take i M) → CountedSoFar L M n (k + 1) i
counted_by_next L M n k i d m h is count le e = record { count = count; at_most = le; below = below_next L M k i d m h is e }

-- looks of one run more, and of no more runs than there are
pub more_looks : (k x old before now : ℕ) → before ≤ old + k * x → now ≤ before + x → now ≤ old + (k + 1) * x
more_looks k x old before now b h = let e : (k + 1) * x ≡ k * x + x = omega arith in omega (arith, h, b, e)

pub all_looks : (k n x old now : ℕ) → k ≤ n → now ≤ old + k * x → now ≤ old + n * x
all_looks k n x old now le h = let most = mul-le-mul_right x le in omega (arith, h, most)

-- F and C are few runs and what they have in common with many, M, as two walks saw them
pub without_shared : {E : Type 0} (r : Result (List (ℤ × ℤ)) E) (F C few shared M : List (ℤ × ℤ)) → F ≡ few → C ≡ shared → IsRunsOf shared (Intersection (Covers few) (Covers M)) →
    IfOk r (λ R. IsRunsOf R (Without (Covers F) (Covers C))) → IfOk r (λ R. IsRunsOf R (Without (Covers few) (Covers M)))
without_shared r F C few shared M e f u = IfOk-weaker r _ _ (λ R i. IsRunsOf-same (Without (Covers few) (Covers shared)) (Without (Covers few) (Covers M)) R
    (λ z. ((λ (c, n). (c, λ m. n ((u.members z).1 (c, m)))), (λ (c, n). (c, λ s. n ((u.members z).0 s).1))))
    (subst (λ (K : List (ℤ × ℤ)). IsRunsOf R (Without (Covers few) (Covers K))) f (subst (λ (K : List (ℤ × ℤ)). IsRunsOf R (Without (Covers K) (Covers C))) e i)))

-- F is the complement of few runs
pub without_free : {E : Type 0} (r : Result (List (ℤ × ℤ)) E) (whole : ℤ × ℤ) (F many few : List (ℤ × ℤ)) → IsRunListIn whole many → IsRunsOf F (Complement whole (Covers few)) →
    IfOk r (λ R. IsRunsOf R (Intersection (Covers F) (Covers many))) → IfOk r (λ R. IsRunsOf R (Without (Covers many) (Covers few)))
without_free r whole F many few m f = IfOk-weaker r _ _ (λ R i. IsRunsOf-same (Intersection (Covers F) (Covers many)) (Without (Covers many) (Covers few)) R
    (λ z. ((λ (a, b). (b, ((f.members z).0 a).1)), (λ (b, n). ((f.members z).1 (m.within z b, n), b)))) i)

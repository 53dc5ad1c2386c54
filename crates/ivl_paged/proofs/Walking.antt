-- Two lists of runs that are read side by side.
use Rattle.std.proofs.Common.{◌≡◌, ◌⊎◌, ⊎_elim, inl, inr, ℤ, pos, ◌+ℤ◌, ◌≤ℤ◌, List, [], ◌∷◌, ◌++◌, Some, None, refl, sym, ap, subst, ◌∙◌, arith, append_assoc}
use Rattle.std.specs.Prelude.{◌<ℤ◌, IsSomeAnd, Option}
use Rattle.std.specs.Iterator.{YieldsFirst}
use Rattle.std.proofs.lemmas.Int.{ints, by_lt_z}
use Rattle.ivl_laws.specs.Sets.{HasSome, Intersection, IsBetween, IsSubset}
use Rattle.ivl_laws.specs.Runs.{Covers, IsMaximal}
use Rattle.ivl_laws.proofs.Merging.{covers-append, covers-append_right}
use Rattle.ivl_laws.proofs.Runs.{covered_after, covered_from, lower_end}
use Rattle.ivl_places.specs.Places.{EndBelow}
use Rattle.ivl_places.proofs.Windows.{below_all}
use Rattle.ivl_paged.specs.Walks.{IsReadPast, IsReadTo, put_back}
use Rattle.ivl_paged.proofs.Paging.{IsMaximal-second}

-- ---- reading on

below_push : (v : ℤ) (L : List (ℤ × ℤ)) (p : ℤ × ℤ) → EndBelow v L → p.1 <ℤ v → EndBelow v (L ++ p ∷ [])
below_push v [] p e h = (h, tt)
below_push v (q ∷ L) p e h = (e.0, below_push v L p e.1 h)

pub none_passed : (v : ℤ) (L : List (ℤ × ℤ)) → IsReadPast v L L
none_passed v L = record { passed = []; list = refl; below = tt }

pub one_passed : (v : ℤ) (L A B : List (ℤ × ℤ)) (p : ℤ × ℤ) → IsReadPast v L A → A ≡ p ∷ B → p.1 <ℤ v → IsReadPast v L B
one_passed v L A B p s e h = record {
  passed = s.passed ++ p ∷ [];
  list = s.list ∙ ap (λ (K : List (ℤ × ℤ)). s.passed ++ K) e ∙ sym (append_assoc s.passed (p ∷ []) B);
  below = below_push v s.passed p s.below h;
}

pub read_here : (v : ℤ) (L A B : List (ℤ × ℤ)) (p : ℤ × ℤ) → IsReadPast v L A → A ≡ p ∷ B → v ≤ℤ p.1 → IsReadTo v L (Some p) B
read_here v L A B p s e h = record { passed = subst (IsReadPast v L) e s; next = h }

pub read_to_end : (v : ℤ) (L A B : List (ℤ × ℤ)) (r : Option (ℤ × ℤ)) → IsReadPast v L A → YieldsFirst (λ (l : List (ℤ × ℤ)). l) A r B → ((x : ℤ × ℤ) → ¬ (r ≡ Some x)) → IsReadTo v L None B
read_to_end v L A B None s y n = record { passed = subst (IsReadPast v L) (y.0 ∙ sym y.1) s; next = y.1 }
read_to_end v L A B (Some x) s y n = absurd (n x refl)

pub in_hand_stays : (v : ℤ) (L : List (ℤ × ℤ)) (o : Option (ℤ × ℤ)) → IsSomeAnd o (λ run. v ≤ℤ run.1) → IsReadTo v (put_back o L) o L
in_hand_stays v L None h = absurd h
in_hand_stays v L (Some run) h = record { passed = none_passed v (run ∷ L); next = h }

pub in_hand_passed : (v : ℤ) (L : List (ℤ × ℤ)) (o r : Option (ℤ × ℤ)) (R : List (ℤ × ℤ)) → ¬ (IsSomeAnd o (λ run. v ≤ℤ run.1)) → IsReadTo v L r R → IsReadTo v (put_back o L) r R
in_hand_passed v L None r R n s = s
in_hand_passed v L (Some run) r R n s = record {
  passed = record {
    passed = run ∷ s.passed.passed;
    list = ap (λ (K : List (ℤ × ℤ)). run ∷ K) s.passed.list;
    below = (by_lt_z run.1 v (λ h. h) (λ h. absurd (n h)), s.passed.below);
  };
  next = s.next;
}

-- ---- what both have in common

-- M and N are left of the lists A and B, and what both have in common is left
pub record IsFacing (A B M N : List (ℤ × ℤ)) : Type 0 where
  pub left : IsMaximal M
  pub right : IsMaximal N
  pub of_left : IsSubset (Covers M) (Covers A)
  pub of_right : IsSubset (Covers N) (Covers B)
  pub ahead : (z : ℤ) → Covers A z → Covers B z → Covers M z × Covers N z

pub facing_all : (A B : List (ℤ × ℤ)) → IsMaximal A → IsMaximal B → IsFacing A B A B
facing_all A B m n = record { left = m; right = n; of_left = λ z c. c; of_right = λ z c. c; ahead = λ z c d. (c, d) }

-- where a number stands in a list that is read
in_read : {C : Type 0} (v z : ℤ) (N R : List (ℤ × ℤ)) (o : Option (ℤ × ℤ)) → IsReadTo v N o R → Covers N z → (z <ℤ v → C) → (Covers (put_back o R) z → C) → C
in_read v z N R o s c f h =
    ⊎_elim (λ a. f (below_all v s.passed.passed z s.passed.below a)) h
    (covers-append s.passed.passed (put_back o R) z (subst (λ (K : List (ℤ × ℤ)). Covers K z) s.passed.list c))

rest_is_maximal : (v : ℤ) (N R : List (ℤ × ℤ)) (o : Option (ℤ × ℤ)) → IsReadTo v N o R → IsMaximal N → IsMaximal (put_back o R)
rest_is_maximal v N R o s m = IsMaximal-second s.passed.passed (put_back o R) (subst IsMaximal s.passed.list m)

rest_in : (v : ℤ) (N R : List (ℤ × ℤ)) (o : Option (ℤ × ℤ)) → IsReadTo v N o R → IsSubset (Covers (put_back o R)) (Covers N)
rest_in v N R o s z c = subst (λ (K : List (ℤ × ℤ)). Covers K z) (sym s.passed.list) (covers-append_right s.passed.passed (put_back o R) z c)

-- the run p comes next in the first list, and of the second is read up to where p starts
module _ (A B M M' N R : List (ℤ × ℤ)) (p : ℤ × ℤ) (v : ℤ) (s : IsFacing A B M N) (e : M ≡ p ∷ M') (is : v ≡ p.0) where
  first_is_maximal : IsMaximal (p ∷ M')
  first_is_maximal = subst IsMaximal e s.left

  first_in : (z : ℤ) → Covers (p ∷ M') z → Covers A z
  first_in z c = s.of_left z (subst (λ (K : List (ℤ × ℤ)). Covers K z) (sym e) c)

  pub facing_next : (q : ℤ × ℤ) → IsReadTo v N (Some q) R → p.1 <ℤ q.0 → IsFacing A B M' (q ∷ R)
  facing_next q r apart = record {
    left = first_is_maximal.2;
    right = rest_is_maximal v N R (Some q) r s.right;
    of_left = λ z c. first_in z (inr c);
    of_right = λ z c. s.of_right z (rest_in v N R (Some q) r z c);
    ahead = λ z a b. let h = s.ahead z a b in
        in_read v z N R (Some q) r h.1
        (λ low. absurd (let from = covered_from p M' z first_is_maximal (subst (λ (K : List (ℤ × ℤ)). Covers K z) e h.0) in omega (arith, ints, from, low, is)))
        (λ c. (
          ⊎_elim (λ (b : IsBetween p z). absurd (let from = covered_from q R z (rest_is_maximal v N R (Some q) r s.right) c in omega (arith, ints, from, b.1, apart))) (λ d. d)
              (subst (λ (K : List (ℤ × ℤ)). Covers K z) e h.0),
          c,
        ));
  }

  pub facing_meets : (q : ℤ × ℤ) → IsReadTo v N (Some q) R → q.0 ≤ℤ p.1 → HasSome (Intersection (Covers A) (Covers B))
  facing_meets q r meet =
      let filled = first_is_maximal.0 in
      let other = (rest_is_maximal v N R (Some q) r s.right).0 in
      let up = r.next in
      by_lt_z p.0 q.0
      (λ low. (q.0, (first_in q.0 (inl (omega (arith, ints, low), meet)), s.of_right q.0 (rest_in v N R (Some q) r q.0 (inl (lower_end q other))))))
      (λ le. (p.0, (first_in p.0 (inl (lower_end p filled)), s.of_right p.0 (rest_in v N R (Some q) r p.0 (inl (le, omega (arith, ints, up, is)))))))

  facing_none : IsReadTo v N None R → ¬ (HasSome (Intersection (Covers A) (Covers B)))
  facing_none r (z, (a, b)) = let h = s.ahead z a b in
      in_read v z N R None r h.1
      (λ low. let from = covered_from p M' z first_is_maximal (subst (λ (K : List (ℤ × ℤ)). Covers K z) e h.0) in omega (arith, ints, from, low, is))
      (λ c. subst (λ (K : List (ℤ × ℤ)). Covers K z) r.next c)

  pub facing_stops : (o : Option (ℤ × ℤ)) → IsReadTo v N o R → ((x : ℤ × ℤ) → ¬ (o ≡ Some x)) → ¬ (HasSome (Intersection (Covers A) (Covers B)))
  facing_stops None r n = facing_none r
  facing_stops (Some x) r n = absurd (n x refl)

pub facing_ends : (A B M M' N : List (ℤ × ℤ)) (r : Option (ℤ × ℤ)) → IsFacing A B M N → YieldsFirst (λ (l : List (ℤ × ℤ)). l) M r M' → ((x : ℤ × ℤ) → ¬ (r ≡ Some x)) → ¬ (HasSome (Intersection (Covers A) (Covers B)))
facing_ends A B M M' N None s y n (z, (a, b)) = subst (λ (K : List (ℤ × ℤ)). Covers K z) y.0 (s.ahead z a b).0
facing_ends A B M M' N (Some x) s y n h = n x refl

-- ---- whether the one lies within the other

-- M and N are left of the lists A and B; what is gone of A lies in B, and what B has of M is left
pub record IsHeldSoFar (A B M N : List (ℤ × ℤ)) : Type 0 where
  pub left : IsMaximal M
  pub right : IsMaximal N
  pub of_left : IsSubset (Covers M) (Covers A)
  pub of_right : IsSubset (Covers N) (Covers B)
  pub held : (z : ℤ) → Covers A z → Covers M z ⊎ Covers B z
  pub ahead : (z : ℤ) → Covers M z → Covers B z → Covers N z

pub held_all : (A B : List (ℤ × ℤ)) → IsMaximal A → IsMaximal B → IsHeldSoFar A B A B
held_all A B m n = record { left = m; right = n; of_left = λ z c. c; of_right = λ z c. c; held = λ z c. inl c; ahead = λ z c d. d }

module _ (A B M M' N R : List (ℤ × ℤ)) (p : ℤ × ℤ) (v : ℤ) (s : IsHeldSoFar A B M N) (e : M ≡ p ∷ M') (is : v ≡ p.0) where
  next_is_maximal : IsMaximal (p ∷ M')
  next_is_maximal = subst IsMaximal e s.left

  next_in : (z : ℤ) → Covers (p ∷ M') z → Covers M z
  next_in z c = subst (λ (K : List (ℤ × ℤ)). Covers K z) (sym e) c

  from_next : (z : ℤ) → Covers M z → v ≤ℤ z
  from_next z c = let from = covered_from p M' z next_is_maximal (subst (λ (K : List (ℤ × ℤ)). Covers K z) e c) in omega (arith, ints, from, is)

  -- what B has of M is in the part that is read to, or behind it
  read_has : (o : Option (ℤ × ℤ)) → IsReadTo v N o R → (z : ℤ) → Covers M z → Covers B z → Covers (put_back o R) z
  read_has o r z c b = in_read v z N R o r (s.ahead z c b) (λ low. absurd (let from = from_next z c in omega (arith, ints, from, low))) (λ d. d)

  pub held_next : (q : ℤ × ℤ) → IsReadTo v N (Some q) R → IsSubset (IsBetween p) (IsBetween q) → IsHeldSoFar A B M' (q ∷ R)
  held_next q r within = record {
    left = next_is_maximal.2;
    right = rest_is_maximal v N R (Some q) r s.right;
    of_left = λ z c. s.of_left z (next_in z (inr c));
    of_right = λ z c. s.of_right z (rest_in v N R (Some q) r z c);
    held = λ z a. ⊎_elim
        (λ c. ⊎_elim
        (λ (i : IsBetween p z). inr (s.of_right z (rest_in v N R (Some q) r z (inl (within z i)))))
        (λ d. inl d)
        (subst (λ (K : List (ℤ × ℤ)). Covers K z) e c))
        (λ b. inr b)
        (s.held z a);
    ahead = λ z c b. read_has (Some q) r z (next_in z (inr c)) b;
  }

  not_held_below : (q : ℤ × ℤ) → IsReadTo v N (Some q) R → p.0 <ℤ q.0 → ¬ (IsSubset (Covers A) (Covers B))
  not_held_below q r less h =
      let here = next_in p.0 (inl (lower_end p next_is_maximal.0)) in
      let from = covered_from q R p.0 (rest_is_maximal v N R (Some q) r s.right) (read_has (Some q) r p.0 here (h p.0 (s.of_left p.0 here))) in
      omega (arith, ints, from, less)

  not_held_above : (q : ℤ × ℤ) → IsReadTo v N (Some q) R → q.1 <ℤ p.1 → ¬ (IsSubset (Covers A) (Covers B))
  not_held_above q r less h =
      let up = r.next in
      let m = rest_is_maximal v N R (Some q) r s.right in
      let here = next_in (q.1 +ℤ pos 1) (inl (omega (arith, ints, up, is), omega (arith, ints, less))) in
      ⊎_elim
      (λ (i : IsBetween q (q.1 +ℤ pos 1)). let k = i.1 in omega (arith, ints, k))
      (λ c. let far = covered_after q.1 R (q.1 +ℤ pos 1) m.1 m.2 c in omega (arith, ints, far))
      (read_has (Some q) r (q.1 +ℤ pos 1) here (h (q.1 +ℤ pos 1) (s.of_left (q.1 +ℤ pos 1) here)))

  pub not_held : (q : ℤ × ℤ) → IsReadTo v N (Some q) R → ¬ (IsSubset (IsBetween p) (IsBetween q)) → ¬ (IsSubset (Covers A) (Covers B))
  not_held q r n = by_lt_z p.0 q.0
      (λ less. not_held_below q r less)
      (λ low. by_lt_z q.1 p.1
      (λ less. not_held_above q r less)
      (λ high. absurd (n (λ z b. (omega (arith, ints, b.0, low), omega (arith, ints, b.1, high))))))

  not_held_none : IsReadTo v N None R → ¬ (IsSubset (Covers A) (Covers B))
  not_held_none r h =
      let here = next_in p.0 (inl (lower_end p next_is_maximal.0)) in
      subst (λ (K : List (ℤ × ℤ)). Covers K p.0) r.next (read_has None r p.0 here (h p.0 (s.of_left p.0 here)))

  pub not_held_stops : (o : Option (ℤ × ℤ)) → IsReadTo v N o R → ((x : ℤ × ℤ) → ¬ (o ≡ Some x)) → ¬ (IsSubset (Covers A) (Covers B))
  not_held_stops None r n = not_held_none r
  not_held_stops (Some x) r n = absurd (n x refl)

pub held_ends : (A B M M' N : List (ℤ × ℤ)) (r : Option (ℤ × ℤ)) → IsHeldSoFar A B M N → YieldsFirst (λ (l : List (ℤ × ℤ)). l) M r M' → ((x : ℤ × ℤ) → ¬ (r ≡ Some x)) → IsSubset (Covers A) (Covers B)
held_ends A B M M' N None s y n z a = ⊎_elim (λ c. absurd (subst (λ (K : List (ℤ × ℤ)). Covers K z) y.0 c)) (λ b. b) (s.held z a)
held_ends A B M M' N (Some x) s y n z a = absurd (n x refl)

-- ---- one list, and a set that is asked about each of its runs

-- M is left of the list A, and the runs before it have nothing in common with S
pub record IsMissedSoFar (A M : List (ℤ × ℤ)) (S : ℤ → Type 0) : Type 0 where
  pub of_list : IsSubset (Covers M) (Covers A)
  pub ahead : (z : ℤ) → Covers A z → S z → Covers M z

pub missed_none : (A : List (ℤ × ℤ)) (S : ℤ → Type 0) → IsMissedSoFar A A S
missed_none A S = record { of_list = λ z c. c; ahead = λ z c d. c }

pub missed_next : (A M M' : List (ℤ × ℤ)) (S : ℤ → Type 0) (p : ℤ × ℤ) → IsMissedSoFar A M S → M ≡ p ∷ M' → ¬ (HasSome (Intersection S (IsBetween p))) → IsMissedSoFar A M' S
missed_next A M M' S p s e n = record {
  of_list = λ z c. s.of_list z (subst (λ (K : List (ℤ × ℤ)). Covers K z) (sym e) (inr c));
  ahead = λ z a b. ⊎_elim (λ i. absurd (n (z, (b, i)))) (λ c. c) (subst (λ (K : List (ℤ × ℤ)). Covers K z) e (s.ahead z a b));
}

pub missed_hit : (A M M' : List (ℤ × ℤ)) (S : ℤ → Type 0) (p : ℤ × ℤ) → IsMissedSoFar A M S → M ≡ p ∷ M' → HasSome (Intersection S (IsBetween p)) → HasSome (Intersection (Covers A) S)
missed_hit A M M' S p s e (z, (b, i)) = (z, (s.of_list z (subst (λ (K : List (ℤ × ℤ)). Covers K z) (sym e) (inl i)), b))

pub missed_all : (A M M' : List (ℤ × ℤ)) (S : ℤ → Type 0) (r : Option (ℤ × ℤ)) → IsMissedSoFar A M S → YieldsFirst (λ (l : List (ℤ × ℤ)). l) M r M' → ((x : ℤ × ℤ) → ¬ (r ≡ Some x)) → ¬ (HasSome (Intersection (Covers A) S))
missed_all A M M' S None s y n (z, (a, b)) = subst (λ (K : List (ℤ × ℤ)). Covers K z) y.0 (s.ahead z a b)
missed_all A M M' S (Some x) s y n h = n x refl

-- M is left of the list A, and the runs before it lie in S
pub record IsInSoFar (A M : List (ℤ × ℤ)) (S : ℤ → Type 0) : Type 0 where
  pub of_list : IsSubset (Covers M) (Covers A)
  pub held : (z : ℤ) → Covers A z → Covers M z ⊎ S z

pub in_none : (A : List (ℤ × ℤ)) (S : ℤ → Type 0) → IsInSoFar A A S
in_none A S = record { of_list = λ z c. c; held = λ z c. inl c }

pub in_next : (A M M' : List (ℤ × ℤ)) (S : ℤ → Type 0) (p : ℤ × ℤ) → IsInSoFar A M S → M ≡ p ∷ M' → IsSubset (IsBetween p) S → IsInSoFar A M' S
in_next A M M' S p s e h = record {
  of_list = λ z c. s.of_list z (subst (λ (K : List (ℤ × ℤ)). Covers K z) (sym e) (inr c));
  held = λ z a. ⊎_elim (λ c. ⊎_elim (λ i. inr (h z i)) (λ d. inl d) (subst (λ (K : List (ℤ × ℤ)). Covers K z) e c)) (λ b. inr b) (s.held z a);
}

pub not_in : (A M M' : List (ℤ × ℤ)) (S : ℤ → Type 0) (p : ℤ × ℤ) → IsInSoFar A M S → M ≡ p ∷ M' → ¬ (IsSubset (IsBetween p) S) → ¬ (IsSubset (Covers A) S)
not_in A M M' S p s e n h = n (λ z i. h z (s.of_list z (subst (λ (K : List (ℤ × ℤ)). Covers K z) (sym e) (inl i))))

pub in_all : (A M M' : List (ℤ × ℤ)) (S : ℤ → Type 0) (r : Option (ℤ × ℤ)) → IsInSoFar A M S → YieldsFirst (λ (l : List (ℤ × ℤ)). l) M r M' → ((x : ℤ × ℤ) → ¬ (r ≡ Some x)) → IsSubset (Covers A) S
in_all A M M' S None s y n z a = ⊎_elim (λ c. absurd (subst (λ (K : List (ℤ × ℤ)). Covers K z) y.0 c)) (λ b. b) (s.held z a)
in_all A M M' S (Some x) s y n z a = absurd (n x refl)

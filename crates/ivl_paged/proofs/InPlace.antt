-- Edits by the runs of a list, one after the other: what those so far made of the set, and that they can be undone.
use Rattle.std.proofs.Common.{◌≡◌, ◌⊎◌, ⊎_elim, inl, inr, ℕ, zero, suc, ◌+◌, ◌<◌, ℤ, pos, ◌-ℤ◌, ◌≤ℤ◌, List, [], ◌∷◌, ◌++◌, length, get_or, drop, take, sym, ap, subst, ◌∙◌, arith}
use Rattle.std.specs.Prelude.{All, Bool, Err, Ok, OnErr, OnOk, Result, false, is_err, true}
use Rattle.std.proofs.lemmas.Int.{ints}
use Rattle.std.proofs.lemmas.List.Elements.{All-append, All-get_or}
use Rattle.std.proofs.lemmas.List.{take_more}
use Rattle.ivl_laws.specs.Sets.{Complement, HasSome, Intersection, IsBetween, IsSubset, Union, Without}
use Rattle.ivl_laws.specs.Runs.{Covers, IsMaximal, IsRunsOf}
use Rattle.ivl_laws.proofs.Lengths.{decide_covers}
use Rattle.ivl_laws.proofs.Merging.{covers-append, covers-append_left, covers-append_right}
use Rattle.ivl_laws.proofs.Places.{covers_at}
use Rattle.ivl_laws.proofs.Runs.{lower_end, runs_are_unique}
use Rattle.ivl_places.specs.Edits.{widened}
use Rattle.ivl_paged.specs.InPlace.{AreCut, AreTouching, IsAddedIfApart, IsRemovedIfInside}

-- ---- one element more

all_more : (F : ℤ × ℤ → Type 0) (L : List (ℤ × ℤ)) (x : ℤ × ℤ) → All F L → F x → All F (L ++ x ∷ [])
all_more F L x a f = All-append F L (x ∷ []) a (single F x f)
  where
    single : (F : ℤ × ℤ → Type 0) (x : ℤ × ℤ) → F x → (k : ℕ) (d : ℤ × ℤ) → k < 1 → F (get_or (x ∷ []) k d)
    single F x f zero d h = f
    single F x f (suc k) d h = absurd (omega (arith, h))

all_weaker : (F G : ℤ × ℤ → Type 0) (L : List (ℤ × ℤ)) → ((p : ℤ × ℤ) → F p → G p) → All F L → All G L
all_weaker F G L w a k d h = w (get_or L k d) (a k d h)

-- x is the element at place k
module _ (L : List (ℤ × ℤ)) (k : ℕ) (x : ℤ × ℤ) (h : k < length L) (e : x ≡ get_or L k x) where
  all_next : (F : ℤ × ℤ → Type 0) → All F (take k L) → F x → All F (take (k + 1) L)
  all_next F a f = subst (All F) (sym (take_more L k x h ∙ ap (λ (y : ℤ × ℤ). take k L ++ y ∷ []) (sym e))) (all_more F (take k L) x a f)

  pub all_there : (F : ℤ × ℤ → Type 0) → All F L → F x
  all_there F a = subst F (sym e) (All-get_or F L k x h a)

  covers_next : (z : ℤ) → Covers (take (k + 1) L) z → Covers (take k L) z ⊎ IsBetween x z
  covers_next z c = ⊎_elim inl (λ d. ⊎_elim inr (λ f. absurd f) d) (covers-append (take k L) (x ∷ []) z (subst (λ (M : List (ℤ × ℤ)). Covers M z) (take_more L k x h ∙ ap (λ (y : ℤ × ℤ). take k L ++ y ∷ []) (sym e)) c))

  next_covers : (z : ℤ) → Covers (take k L) z ⊎ IsBetween x z → Covers (take (k + 1) L) z
  next_covers z u = subst (λ (M : List (ℤ × ℤ)). Covers M z) (sym (take_more L k x h ∙ ap (λ (y : ℤ × ℤ). take k L ++ y ∷ []) (sym e)))
      (⊎_elim (covers-append_left (take k L) (x ∷ []) z) (λ b. covers-append_right (take k L) (x ∷ []) z (inl b)) u)

  there : (z : ℤ) → IsBetween x z → Covers L z
  there z b = covers_at L k x z h (subst (λ (p : ℤ × ℤ). IsBetween p z) e b)

  pub added_next : (N M : List (ℤ × ℤ)) (S : ℤ → Type 0) → IsRunsOf N (Union S (Covers (take k L))) → IsRunsOf M (Union (Covers N) (IsBetween x)) → IsRunsOf M (Union S (Covers (take (k + 1) L)))
  added_next N M S n m = record {
    maximal = m.maximal;
    members = λ z. (
      (λ c. ⊎_elim
          (λ d. ⊎_elim (λ s. inl s) (λ t. inr (next_covers z (inl t))) ((n.members z).0 d))
          (λ b. inr (next_covers z (inr b)))
          ((m.members z).0 c)),
      ⊎_elim
          (λ s. (m.members z).1 (inl ((n.members z).1 (inl s))))
          (λ c. ⊎_elim (λ t. (m.members z).1 (inl ((n.members z).1 (inr t)))) (λ b. (m.members z).1 (inr b)) (covers_next z c)),
    );
  }

  drop_more : drop k L ≡ x ∷ drop (k + 1) L
  drop_more = from L k h e
    where
      from : (M : List (ℤ × ℤ)) (i : ℕ) → i < length M → x ≡ get_or M i x → drop i M ≡ x ∷ drop (i + 1) M
      from [] i h e = absurd (omega arith)
      from (q ∷ M) zero h e = ap (λ (y : ℤ × ℤ). y ∷ M) (sym e)
      from (q ∷ M) (suc i) h e =
          let n : suc i + 1 ≡ suc (i + 1) = omega arith in
          from M i (omega arith) e ∙ ap (λ (j : ℕ). x ∷ drop j (q ∷ M)) (sym n)

  pub removed_next : (N M : List (ℤ × ℤ)) (S : ℤ → Type 0) → IsRunsOf N (Without S (Covers (drop (k + 1) L))) → IsRunsOf M (Without (Covers N) (IsBetween x)) → IsRunsOf M (Without S (Covers (drop k L)))
  removed_next N M S n m = subst (λ (D : List (ℤ × ℤ)). IsRunsOf M (Without S (Covers D))) (sym drop_more) (record {
    maximal = m.maximal;
    members = λ z. (
      (λ c. let (d, out) = (m.members z).0 c in let (s, free) = (n.members z).0 d in (s, ⊎_elim out free)),
      (λ (s, free). (m.members z).1 ((n.members z).1 (s, λ t. free (inr t)), λ b. free (inl b))),
    );
  })

pub none_added : (A L : List (ℤ × ℤ)) → IsMaximal A → IsRunsOf A (Union (Covers A) (Covers (take 0 L)))
none_added A L m = record { maximal = m; members = λ z. ((λ c. inl c), ⊎_elim (λ c. c) (λ f. absurd f)) }

pub none_removed : (A : List (ℤ × ℤ)) → IsMaximal A → IsRunsOf A (Without (Covers A) (Covers []))
none_removed A m = record { maximal = m; members = λ z. ((λ c. (c, λ f. absurd f)), (λ s. s.0)) }

pub touching_still : (S T : ℤ → Type 0) (p : ℤ × ℤ) → IsSubset S T → HasSome (Intersection S (IsBetween (widened p))) → HasSome (Intersection T (IsBetween (widened p)))
touching_still S T p more (z, (c, b)) = (z, (more z c, b))

pub cut_still : (S T : ℤ → Type 0) (p : ℤ × ℤ) → IsSubset S T → ¬ (IsSubset (IsBetween (widened p)) T) → ¬ (IsSubset (IsBetween (widened p)) S)
cut_still S T p more n h = n (λ z b. more z (h z b))

-- ---- what an edit that may have failed has left

pub on_err_holds : {A E : Type 0} (X : Type 0) (r : Result A E) (t : Bool) → t ≡ is_err r → t ≡ true → OnErr r X → X
on_err_holds X (Ok a) t e h m = absurd (cc)
on_err_holds X (Err x) t e h m = m

pub on_ok_there : {A E : Type 0} (X : Type 0) (r : Result A E) (t : Bool) → t ≡ is_err r → t ≡ false → OnOk r X → X
on_ok_there X (Ok a) t e h m = m
on_ok_there X (Err x) t e h m = absurd (cc)

-- ---- the runs that are apart from the others, added

-- of the first k runs of L those in D were added to A, which makes N
pub record IsAddedSoFar (A N D L : List (ℤ × ℤ)) (k : ℕ) : Type 0 where
  pub members : IsRunsOf N (Union (Covers A) (Covers D))
  pub apart : (z : ℤ) → Covers D z → ¬ (Covers A z)
  pub of_list : IsSubset (Covers D) (Covers L)
  pub starts : All (λ p. (p.0 ≤ℤ p.1) × (Covers N p.0 × ¬ (Covers N (p.0 -ℤ pos 1)))) D
  pub touching : AreTouching (Covers N) (take k L)

pub added_none : (A L : List (ℤ × ℤ)) → IsMaximal A → IsAddedSoFar A A [] L 0
added_none A L m = record {
  members = none_added A L m;
  apart = λ z c. absurd c;
  of_list = λ z c. absurd c;
  starts = λ k d h. absurd (omega (arith, h));
  touching = λ k d h. absurd (omega (arith, h));
}

pub added_more : (A N M D E L : List (ℤ × ℤ)) (k : ℕ) (p : ℤ × ℤ) → k < length L → p ≡ get_or L k p → p.0 ≤ℤ p.1 → IsAddedSoFar A N D L k → IsAddedIfApart N M D E p → IsAddedSoFar A M E L (k + 1)
added_more A N M D E L k p h e filled s (inl (touched, same, still)) =
    subst (λ (Q : List (ℤ × ℤ)). IsAddedSoFar A Q E L (k + 1)) (sym same) (subst (λ (F : List (ℤ × ℤ)). IsAddedSoFar A N F L (k + 1)) (sym still) (record {
      members = s.members;
      apart = s.apart;
      of_list = s.of_list;
      starts = s.starts;
      touching = all_next L k p h e (λ q. HasSome (Intersection (Covers N) (IsBetween (widened q)))) s.touching touched;
    }))
added_more A N M D E L k p h e filled s (inr (free, made, longer)) =
    subst (λ (F : List (ℤ × ℤ)). IsAddedSoFar A M F L (k + 1)) (sym longer) (record {
      members = record {
        maximal = made.maximal;
        members = λ z. (
          (λ c. ⊎_elim
              (λ d. ⊎_elim (λ a. inl a) (λ t. inr (covers-append_left D (p ∷ []) z t)) ((s.members.members z).0 d))
              (λ b. inr (covers-append_right D (p ∷ []) z (inl b)))
              ((made.members z).0 c)),
          ⊎_elim
              (λ a. (made.members z).1 (inl ((s.members.members z).1 (inl a))))
              (λ t. ⊎_elim
              (λ d. (made.members z).1 (inl ((s.members.members z).1 (inr d))))
              (⊎_elim (λ b. (made.members z).1 (inr b)) (λ f. absurd f))
              (covers-append D (p ∷ []) z t)),
        );
      };
      apart = λ z c a. ⊎_elim
          (λ d. s.apart z d a)
          (⊎_elim (λ b. let low = b.0 in let high = b.1 in free z ((s.members.members z).1 (inl a), (omega (arith, ints, low), omega (arith, ints, high)))) (λ f. absurd f))
          (covers-append D (p ∷ []) z c);
      of_list = λ z c. ⊎_elim (s.of_list z) (⊎_elim (there L k p h e z) (λ f. absurd f)) (covers-append D (p ∷ []) z c);
      starts = all_more (λ q. (q.0 ≤ℤ q.1) × (Covers M q.0 × ¬ (Covers M (q.0 -ℤ pos 1)))) D p
          (all_weaker (λ q. (q.0 ≤ℤ q.1) × (Covers N q.0 × ¬ (Covers N (q.0 -ℤ pos 1)))) (λ q. (q.0 ≤ℤ q.1) × (Covers M q.0 × ¬ (Covers M (q.0 -ℤ pos 1)))) D
          (λ q (o, (c, n)). (o, ((made.members q.0).1 (inl c), λ d. ⊎_elim n (λ b. let low = b.0 in let high = b.1 in free q.0 (c, (omega (arith, ints, low), omega (arith, ints, high)))) ((made.members (q.0 -ℤ pos 1)).0 d))))
          s.starts) (
            filled,
            (
              (made.members p.0).1 (inr (lower_end p filled)),
              λ d. ⊎_elim
                  (λ c. free (p.0 -ℤ pos 1) (c, (omega (arith, ints), omega (arith, ints, filled))))
                  (λ b. let low = b.0 in omega (arith, ints, low))
                  ((made.members (p.0 -ℤ pos 1)).0 d),
            ),
          );
      touching = all_next L k p h e (λ q. HasSome (Intersection (Covers M) (IsBetween (widened q))))
          (all_weaker (λ q. HasSome (Intersection (Covers N) (IsBetween (widened q)))) (λ q. HasSome (Intersection (Covers M) (IsBetween (widened q)))) (take k L)
          (λ q. touching_still (Covers N) (Covers M) q (λ z c. (made.members z).1 (inl c))) s.touching)
          (p.0, ((made.members p.0).1 (inr (lower_end p filled)), (omega (arith, ints), omega (arith, ints, filled))));
    })

pub added_same : (A N M D E L : List (ℤ × ℤ)) (k : ℕ) → IsAddedSoFar A N D L k → (M ≡ N) × (E ≡ D) → IsAddedSoFar A M E L k
added_same A N M D E L k s (same, still) = subst (λ (Q : List (ℤ × ℤ)). IsAddedSoFar A Q E L k) (sym same) (subst (λ (F : List (ℤ × ℤ)). IsAddedSoFar A N F L k) (sym still) s)

-- they can be removed again
pub added_are_cut : (A N D L : List (ℤ × ℤ)) (k : ℕ) → IsAddedSoFar A N D L k → AreCut (Covers N) D
added_are_cut A N D L k s = all_weaker (λ p. (p.0 ≤ℤ p.1) × (Covers N p.0 × ¬ (Covers N (p.0 -ℤ pos 1)))) (λ p. ¬ (IsSubset (IsBetween (widened p)) (Covers N))) D
    (λ p (o, (c, n)) w. n (w (p.0 -ℤ pos 1) (omega (arith, ints), omega (arith, ints, o)))) s.starts

pub added_undone : (A N R D L : List (ℤ × ℤ)) (k : ℕ) → IsMaximal A → IsAddedSoFar A N D L k → IsRunsOf R (Without (Covers N) (Covers D)) → R ≡ A
added_undone A N R D L k m s r = runs_are_unique R A r.maximal m (λ z. (
  (λ c. let (d, free) = (r.members z).0 c in ⊎_elim (λ a. a) (λ t. absurd (free t)) ((s.members.members z).0 d)),
  (λ a. (r.members z).1 ((s.members.members z).1 (inl a), λ t. s.apart z t a)),
))

-- ---- the runs that lie inside others, removed

-- of the first k runs of L those in D were removed from A, which makes N
pub record IsRemovedSoFar (A N D L : List (ℤ × ℤ)) (k : ℕ) : Type 0 where
  pub members : IsRunsOf N (Without (Covers A) (Covers D))
  pub inside : IsSubset (Covers D) (Covers A)
  pub of_list : IsSubset (Covers D) (Covers L)
  pub starts : All (λ p. (p.0 ≤ℤ p.1) × (Covers N (p.0 -ℤ pos 1) × ¬ (Covers N p.0))) D
  pub cut : AreCut (Covers N) (take k L)

pub removed_none : (A L : List (ℤ × ℤ)) → IsMaximal A → IsRemovedSoFar A A [] L 0
removed_none A L m = record {
  members = none_removed A m;
  inside = λ z c. absurd c;
  of_list = λ z c. absurd c;
  starts = λ k d h. absurd (omega (arith, h));
  cut = λ k d h. absurd (omega (arith, h));
}

pub removed_more : (A N M D E L : List (ℤ × ℤ)) (k : ℕ) (p : ℤ × ℤ) → k < length L → p ≡ get_or L k p → p.0 ≤ℤ p.1 → IsRemovedSoFar A N D L k → IsRemovedIfInside N M D E p → IsRemovedSoFar A M E L (k + 1)
removed_more A N M D E L k p h e filled s (inl (out, same, still)) =
    subst (λ (Q : List (ℤ × ℤ)). IsRemovedSoFar A Q E L (k + 1)) (sym same) (subst (λ (F : List (ℤ × ℤ)). IsRemovedSoFar A N F L (k + 1)) (sym still) (record {
      members = s.members;
      inside = s.inside;
      of_list = s.of_list;
      starts = s.starts;
      cut = all_next L k p h e (λ q. ¬ (IsSubset (IsBetween (widened q)) (Covers N))) s.cut out;
    }))
removed_more A N M D E L k p h e filled s (inr (within, made, longer)) =
    subst (λ (F : List (ℤ × ℤ)). IsRemovedSoFar A M F L (k + 1)) (sym longer) (record {
      members = record {
        maximal = made.maximal;
        members = λ z. (
          (λ c.
              let (d, out) = (made.members z).0 c in
              let (a, free) = (s.members.members z).0 d in
              (a, λ t. ⊎_elim free (⊎_elim out (λ f. absurd f)) (covers-append D (p ∷ []) z t))),
          (λ (a, free). (made.members z).1 ((s.members.members z).1 (a, λ t. free (covers-append_left D (p ∷ []) z t)), λ b. free (covers-append_right D (p ∷ []) z (inl b)))),
        );
      };
      inside = λ z c. ⊎_elim
          (s.inside z)
          (⊎_elim (λ b. let low = b.0 in let high = b.1 in ((s.members.members z).0 (within z (omega (arith, ints, low), omega (arith, ints, high)))).0) (λ f. absurd f))
          (covers-append D (p ∷ []) z c);
      of_list = λ z c. ⊎_elim (s.of_list z) (⊎_elim (there L k p h e z) (λ f. absurd f)) (covers-append D (p ∷ []) z c);
      starts = all_more (λ q. (q.0 ≤ℤ q.1) × (Covers M (q.0 -ℤ pos 1) × ¬ (Covers M q.0))) D p
          (all_weaker (λ q. (q.0 ≤ℤ q.1) × (Covers N (q.0 -ℤ pos 1) × ¬ (Covers N q.0))) (λ q. (q.0 ≤ℤ q.1) × (Covers M (q.0 -ℤ pos 1) × ¬ (Covers M q.0))) D
          (λ q (o, (c, n)). (
            o,
            (
              (made.members (q.0 -ℤ pos 1)).1 (c, λ b. let low = b.0 in let high = b.1 in n (within q.0 (omega (arith, ints, low), omega (arith, ints, high)))),
              λ d. n ((made.members q.0).0 d).0,
            ),
          ))
          s.starts) (
            filled,
            (
              (made.members (p.0 -ℤ pos 1)).1 (within (p.0 -ℤ pos 1) (omega (arith, ints), omega (arith, ints, filled)), λ b. let low = b.0 in omega (arith, ints, low)),
              λ d. ((made.members p.0).0 d).1 (lower_end p filled),
            ),
          );
      cut = all_next L k p h e (λ q. ¬ (IsSubset (IsBetween (widened q)) (Covers M)))
          (all_weaker (λ q. ¬ (IsSubset (IsBetween (widened q)) (Covers N))) (λ q. ¬ (IsSubset (IsBetween (widened q)) (Covers M))) (take k L)
          (λ q. cut_still (Covers M) (Covers N) q (λ z c. ((made.members z).0 c).0)) s.cut)
          (λ w. ((made.members p.0).0 (w p.0 (omega (arith, ints), omega (arith, ints, filled)))).1 (lower_end p filled));
    })

pub removed_same : (A N M D E L : List (ℤ × ℤ)) (k : ℕ) → IsRemovedSoFar A N D L k → (M ≡ N) × (E ≡ D) → IsRemovedSoFar A M E L k
removed_same A N M D E L k s (same, still) = subst (λ (Q : List (ℤ × ℤ)). IsRemovedSoFar A Q E L k) (sym same) (subst (λ (F : List (ℤ × ℤ)). IsRemovedSoFar A N F L k) (sym still) s)

-- they can be added again
pub removed_are_touching : (A N D L : List (ℤ × ℤ)) (k : ℕ) → IsRemovedSoFar A N D L k → AreTouching (Covers N) D
removed_are_touching A N D L k s = all_weaker (λ p. (p.0 ≤ℤ p.1) × (Covers N (p.0 -ℤ pos 1) × ¬ (Covers N p.0))) (λ p. HasSome (Intersection (Covers N) (IsBetween (widened p)))) D
    (λ p (o, (c, n)). (p.0 -ℤ pos 1, (c, (omega (arith, ints), omega (arith, ints, o))))) s.starts

pub removed_undone : (A N R D L : List (ℤ × ℤ)) (k : ℕ) → IsMaximal A → IsRemovedSoFar A N D L k → IsRunsOf R (Union (Covers N) (Covers D)) → R ≡ A
removed_undone A N R D L k m s r = runs_are_unique R A r.maximal m (λ z. (
  (λ c. ⊎_elim (λ d. ((s.members.members z).0 d).0) (s.inside z) ((r.members z).0 c)),
  (λ a. (r.members z).1 (⊎_elim (λ d. inr d) (λ free. inl ((s.members.members z).1 (a, free))) (decide_covers D z))),
))

-- ---- all runs, then

pub all_added : (A N R L : List (ℤ × ℤ)) → IsSubset (Covers A) (Covers N) → IsSubset (Covers N) (Union (Covers A) (Covers L)) → IsRunsOf R (Union (Covers N) (Covers L)) → IsRunsOf R (Union (Covers A) (Covers L))
all_added A N R L kept added r = record {
  maximal = r.maximal;
  members = λ z. (
    (λ c. ⊎_elim (added z) (λ l. inr l) ((r.members z).0 c)),
    ⊎_elim (λ a. (r.members z).1 (inl (kept z a))) (λ l. (r.members z).1 (inr l)),
  );
}

pub all_removed : (A N R L : List (ℤ × ℤ)) → IsSubset (Covers N) (Covers A) → IsSubset (Without (Covers A) (Covers L)) (Covers N) → IsRunsOf R (Without (Covers N) (Covers L)) → IsRunsOf R (Without (Covers A) (Covers L))
all_removed A N R L left removed r = record {
  maximal = r.maximal;
  members = λ z. (
    (λ c. let (d, free) = (r.members z).0 c in (left z d, free)),
    (λ (a, free). (r.members z).1 (removed z (a, free), free)),
  );
}

-- what lies between the members of S is removed
pub kept_of_few : (whole : ℤ × ℤ) (A R B : List (ℤ × ℤ)) (S : ℤ → Type 0) → IsSubset (Covers A) (IsBetween whole) → ((z : ℤ) → S z ⊎ (¬ (S z))) → IsRunsOf B (Complement whole S) → IsRunsOf R (Without (Covers A) (Covers B)) →
    IsRunsOf R (Intersection (Covers A) S)
kept_of_few whole A R B S within decide b r = record {
  maximal = r.maximal;
  members = λ z. (
    (λ c. let (a, free) = (r.members z).0 c in (a, ⊎_elim (λ s. s) (λ n. absurd (free ((b.members z).1 (within z a, n)))) (decide z))),
    (λ (a, s). (r.members z).1 (a, λ c. ((b.members z).0 c).1 s)),
  );
}

-- What one of two lists of runs has alone, written from the left: nothing below a number f is left to write.
use Rattle.std.proofs.Common.{◌≡◌, ◌⊎◌, ◌↔◌, inl, inr, ⊎_elim, Bool, true, false, IsTrue, ◌-◌, ℤ, pos, ◌+ℤ◌, ◌-ℤ◌, ◌≤ℤ◌, ◌<ℤ◌, List, [], ◌∷◌, Some, length, refl, sym, subst, arith}
use Rattle.std.proofs.lemmas.Int.{ints, clamps, by_lt_z}
use Rattle.std.specs.Int.{int_max}
use Rattle.std.specs.Prelude.{slice_get}
use Rattle.ivl_laws.specs.Sets.{Above, IsBetween, SameMembers, SymmetricDifference, Union}
use Rattle.ivl_laws.specs.Runs.{Covers, IsMaximal, IsRunListIn, IsRunsOf}
use Rattle.ivl_laws.proofs.Runs.{covered_after, covered_from}
use Rattle.ivl_walks.proofs.MergeState.{IsBuilding, building_same, building_starts, building_takes}
use Rattle.ivl_walks.proofs.Placing.{MeetsAt}
use Rattle.ivl_walks.proofs.SymmetricDifferences.{LowerPart, both_done, both_done_below, one_done, one_done_below, turned}
use Rattle.ivl_walks.proofs.Trimmed.{trimmed, trimmed_above, trimmed_after, trimmed_within}

-- what is still to write
abbrev pub alone_from : ℤ → List (ℤ × ℤ) → List (ℤ × ℤ) → ℤ → Type 0
alone_from f A B = SymmetricDifference (Covers (trimmed f A)) (Covers (trimmed f B))

-- s is where the last run starts, if the rest goes on with it
pub record IsAlone (W A B : List (ℤ × ℤ)) (f s : ℤ) (joined : Bool) (S : ℤ → Type 0) : Type 0 where
  pub state : IsBuilding (pos 1) W (alone_from f A B) S
  pub first : IsMaximal (trimmed f A)
  pub second : IsMaximal (trimmed f B)
  pub before : (x : ℤ) → Covers W x → x <ℤ f
  pub meets : MeetsAt joined W s f (alone_from f A B)

meets_same : (joined : Bool) (W : List (ℤ × ℤ)) (s f : ℤ) (R R' : ℤ → Type 0) → SameMembers R R' → MeetsAt joined W s f R → MeetsAt joined W s f R'
meets_same true W s f R R' e m = (m.0, (e f).0 m.1)
meets_same false W s f R R' e m = λ x y c r. m x y c ((e y).1 r)

pub alone_turned : (W A B : List (ℤ × ℤ)) (f s : ℤ) (joined : Bool) (S : ℤ → Type 0) → IsAlone W A B f s joined S → IsAlone W B A f s joined S
alone_turned W A B f s joined S u =
    let same = turned (Covers (trimmed f A)) (Covers (trimmed f B)) in
    record {
      state = building_same (pos 1) W _ _ S same u.state;
      first = u.second;
      second = u.first;
      before = u.before;
      meets = meets_same joined W s f _ _ same u.meets;
    }

-- one of the two first runs, p and q, ends before the other, or both end together
module _ (W W' A B : List (ℤ × ℤ)) (p q : ℤ × ℤ) (f : ℤ) (S : ℤ → Type 0) (m : IsMaximal (trimmed f (p ∷ A))) (n : IsMaximal (trimmed f (q ∷ B)))
    (u : IsBuilding (pos 1) W (alone_from f (p ∷ A) (q ∷ B)) S) (before : (x : ℤ) → Covers W x → x <ℤ f)
    (added : IsRunsOf W' (Union (Covers W) (LowerPart (int_max p.0 f, p.1) (int_max q.0 f, q.1)))) where
  abbrev x : ℤ
  x = int_max p.0 f

  abbrev y : ℤ
  y = int_max q.0 f

  module _ (g : ℤ) (h : p.1 <ℤ q.1) (e : g ≡ p.1 +ℤ pos 1) where
    abbrev above : ℤ × ℤ
    above = (int_max q.0 g, q.1)

    is_above : SameMembers (IsBetween above) (Above p.1 (IsBetween (y, q.1)))
    is_above = trimmed_above q p.1 g f (let o = m.0 in omega (arith, ints, clamps)) e

    rest : trimmed g A ≡ A
    rest = trimmed_after g p.1 A m.1 (omega (arith, ints))

    above_maximal : IsMaximal (above ∷ B)
    above_maximal = (let o = n.0 in omega (arith, ints, clamps), n.1, n.2)

    state_one : IsBuilding (pos 1) W' (alone_from g A (q ∷ B)) S
    state_one = subst (λ (L : List (ℤ × ℤ)). IsBuilding (pos 1) W' (SymmetricDifference (Covers L) (Covers (above ∷ B))) S) (sym rest)
        (building_takes (pos 1) W W' _ (LowerPart (x, p.1) (y, q.1)) _ S u (one_done (x, p.1) (y, q.1) A B m n above h is_above)
        (one_done_below (x, p.1) (y, q.1) A B m n above h is_above) added)

    before_one : (z : ℤ) → Covers W' z → z <ℤ g
    before_one z c = let o = m.0 in ⊎_elim
        (λ w. let low = before z w in omega (arith, ints, clamps))
        (⊎_elim (λ (i, lt). let high = i.1 in omega (arith, ints, clamps)) (λ (i, lt). omega (arith, ints, clamps)))
        ((added.members z).0 c)

    -- where what is left lies
    left_at : (z : ℤ) → alone_from g A (q ∷ B) z → ((p.1 +ℤ pos 2) ≤ℤ z) ⊎ (int_max q.0 g ≤ℤ z)
    left_at z (inl (c, free)) = inl (covered_after p.1 A z m.1 m.2 (subst (λ (L : List (ℤ × ℤ)). Covers L z) rest c))
    left_at z (inr (c, free)) = inr (covered_from above B z above_maximal c)

    pub meets_one : (joined : Bool) (s : ℤ) → (IsTrue joined ↔ (int_max x y ≡ g)) → (int_max x y ≡ g → Some (s, p.1) ≡ slice_get W' (length W' - 1)) →
        MeetsAt joined W' s g (alone_from g A (q ∷ B))
    meets_one true s t last =
        let k : int_max x y ≡ g = t.0 refl in
        let o = m.0 in
        let end : p.1 ≡ g -ℤ pos 1 = omega (arith, ints) in (
          subst (λ (v : ℤ). Some (s, v) ≡ slice_get W' (length W' - 1)) end (last k),
          inr (
            inl (omega (arith, ints, clamps), omega (arith, ints)),
            λ c. let far = covered_after p.1 A g m.1 m.2 (subst (λ (L : List (ℤ × ℤ)). Covers L g) rest c) in omega (arith, ints),
          ),
        )
    meets_one false s t last = λ a z c r. apart a z (added_at a c) (left_at z r)
      where
        far : ¬ (int_max x y ≡ g)
        far k = let r : IsTrue false = t.1 k in absurd (cc)

        added_at : (a : ℤ) → Covers W' a → (a <ℤ f) ⊎ ((a ≤ℤ p.1) × (a <ℤ int_max x y))
        added_at a c = let o = m.0 in ⊎_elim
            (λ w. inl (before a w))
            (⊎_elim (λ (i, lt). let high = i.1 in inr (high, omega (arith, ints, clamps))) (λ (i, lt). inr (omega (arith, ints, clamps), omega (arith, ints, clamps))))
            ((added.members a).0 c)

        apart : (a z : ℤ) → (a <ℤ f) ⊎ ((a ≤ℤ p.1) × (a <ℤ int_max x y)) → ((p.1 +ℤ pos 2) ≤ℤ z) ⊎ (int_max q.0 g ≤ℤ z) → (a +ℤ pos 2) ≤ℤ z
        apart a z (inl lt) (inl w) = let o = m.0 in omega (arith, ints, clamps)
        apart a z (inl lt) (inr w) = let o = m.0 in omega (arith, ints, clamps)
        apart a z (inr (i, j)) (inl w) = omega (arith, ints)
        apart a z (inr (i, j)) (inr w) = let o = m.0 in by_lt_z (int_max x y) g
            (λ lt. omega (arith, ints, clamps))
            (λ le. by_lt_z g (int_max x y) (λ lt. omega (arith, ints, clamps)) (λ ge. absurd (far (omega (arith, ints)))))

    pub one_next : (joined : Bool) (s : ℤ) → (IsTrue joined ↔ (int_max x y ≡ g)) → (int_max x y ≡ g → Some (s, p.1) ≡ slice_get W' (length W' - 1)) →
        IsAlone W' A (q ∷ B) g s joined S
    one_next joined s t last = record {
      state = state_one;
      first = subst IsMaximal (sym rest) m.2;
      second = above_maximal;
      before = before_one;
      meets = meets_one joined s t last;
    }

  module _ (g : ℤ) (h : p.1 ≡ q.1) (e : g ≡ p.1) where
    rest_first : trimmed g A ≡ A
    rest_first = trimmed_after g p.1 A m.1 (omega (arith, ints))

    rest_second : trimmed g B ≡ B
    rest_second = trimmed_after g q.1 B n.1 (omega (arith, ints))

    state_both : IsBuilding (pos 1) W' (alone_from g A B) S
    state_both = subst (λ (L : List (ℤ × ℤ)). IsBuilding (pos 1) W' (SymmetricDifference (Covers L) (Covers (trimmed g B))) S) (sym rest_first)
        (subst (λ (L : List (ℤ × ℤ)). IsBuilding (pos 1) W' (SymmetricDifference (Covers A) (Covers L)) S) (sym rest_second)
        (building_takes (pos 1) W W' _ (LowerPart (x, p.1) (y, q.1)) _ S u (both_done (x, p.1) (y, q.1) A B m n h) (both_done_below (x, p.1) (y, q.1) A B m n h) added))

    before_both : (z : ℤ) → Covers W' z → z <ℤ g
    before_both z c = let o = m.0 in let o' = n.0 in ⊎_elim
        (λ w. let low = before z w in omega (arith, ints, clamps))
        (⊎_elim (λ (i, lt). omega (arith, ints, clamps)) (λ (i, lt). omega (arith, ints, clamps)))
        ((added.members z).0 c)

    past_both : (z : ℤ) → alone_from g A B z → (g +ℤ pos 2) ≤ℤ z
    past_both z (inl (c, free)) = let far = covered_after p.1 A z m.1 m.2 (subst (λ (L : List (ℤ × ℤ)). Covers L z) rest_first c) in omega (arith, ints)
    past_both z (inr (c, free)) = let far = covered_after q.1 B z n.1 n.2 (subst (λ (L : List (ℤ × ℤ)). Covers L z) rest_second c) in omega (arith, ints)

    pub both_next : (s : ℤ) → IsAlone W' A B g s false S
    both_next s = record {
      state = state_both;
      first = subst IsMaximal (sym rest_first) m.2;
      second = subst IsMaximal (sym rest_second) n.2;
      before = before_both;
      meets = λ a z c r. let low = before_both a c in let high = past_both z r in omega (arith, ints);
    }

pub alone_starts : (whole : ℤ × ℤ) (W A B : List (ℤ × ℤ)) (f s : ℤ) → W ≡ [] → f ≡ whole.0 → IsRunListIn whole A → IsRunListIn whole B →
    IsAlone W A B f s false (SymmetricDifference (Covers A) (Covers B))
alone_starts whole W A B f s e k a b =
    let first = trimmed_within f whole A k a in
    let second = trimmed_within f whole B k b in
    subst (λ (M : List (ℤ × ℤ)). IsAlone M A B f s false (SymmetricDifference (Covers A) (Covers B))) (sym e) (record {
      state = subst (λ (L : List (ℤ × ℤ)). IsBuilding (pos 1) [] (SymmetricDifference (Covers L) (Covers (trimmed f B))) (SymmetricDifference (Covers A) (Covers B))) (sym first)
          (subst (λ (L : List (ℤ × ℤ)). IsBuilding (pos 1) [] (SymmetricDifference (Covers A) (Covers L)) (SymmetricDifference (Covers A) (Covers B))) (sym second)
          (building_starts (pos 1) [] (SymmetricDifference (Covers A) (Covers B)) refl));
      first = subst IsMaximal (sym first) a.maximal;
      second = subst IsMaximal (sym second) b.maximal;
      before = λ z c. absurd c;
      meets = λ x y c r. absurd c;
    })

-- The runs on both sides of a number, and the members next to it.
use Rattle.std.proofs.Common.{◌≡◌, ◌<◌, ◌≤◌, ◌-◌, inl, inr, ⊎_elim, ℕ, zero, suc, ℤ, List, [], ◌∷◌, length, take, drop, take_all, Some, None, arith, refl, sym, subst}
use Rattle.std.specs.Prelude.{◌<ℤ◌, Option, MatchOption, IfSome, slice_get, IsSomeAnd}
use Rattle.std.proofs.lemmas.Int.{ints}
use Rattle.ivl_laws.specs.Sets.{AtLeast, AtMost, HasNone, IsBetween, SameMembers}
use Rattle.ivl_laws.specs.Runs.{Covers, IsMaximal, runs_below}
use Rattle.ivl_laws.proofs.Lengths.{free_below}
use Rattle.ivl_laws.proofs.Places.{free_above_end, start_in}
use Rattle.ivl_laws.proofs.Products.{one_covers}
use Rattle.ivl_laws.proofs.Runs.{covered_after, covered_from, lower_end, upper_end}
use Rattle.ivl_places.specs.Neighbours.{IsBeside, IsGapAt, IsGreatest, IsLeast, IsRunWith}
use Rattle.ivl_places.specs.Places.{EndBelow, IsPlaceOf, StartAbove}
use Rattle.ivl_places.specs.declared.place.Place.{Place}
use Rattle.ivl_places.specs.declared.place.Place.TheVariants.{In, Gap}
use Rattle.ivl_places.proofs.Finding.{has_at_place, in_from_place}
use Rattle.ivl_places.proofs.Windows.{above_all, below_all, split_by_gap}

-- ---- the next member

pub least_same : (o : Option (ℤ × ℤ)) (S T : ℤ → Type 0) → SameMembers S T → MatchOption o (HasNone S) (λ run. IsLeast run.0 S) → MatchOption o (HasNone T) (λ run. IsLeast run.0 T)
least_same None S T s n = λ z t. n z ((s z).1 t)
least_same (Some run) S T s l = ((s run.0).0 l.0, λ z t. l.1 z ((s z).1 t))

next_of_rest : (p : ℤ × ℤ) (L : List (ℤ × ℤ)) (v : ℤ) → p.1 <ℤ v → SameMembers (AtLeast v (Covers L)) (AtLeast v (Covers (p ∷ L)))
next_of_rest p L v h z = (
  (λ c. (inr c.0, c.1)),
  (λ c. (⊎_elim (λ (b : IsBetween p z). let high = b.1 in let low = c.1 in absurd (omega (arith, ints))) (λ (d : Covers L z). d) c.0, c.1)),
)

pub next_of_gap : (L : List (ℤ × ℤ)) (i : ℕ) (v : ℤ) → IsMaximal L → EndBelow v (take i L) → StartAbove v (drop i L) →
    MatchOption (slice_get L i) (HasNone (AtLeast v (Covers L))) (λ run. IsLeast run.0 (AtLeast v (Covers L)))
next_of_gap [] i v m b a = λ z c. c.0
next_of_gap (p ∷ L) zero v m b a = let above = a.0 in ((inl (lower_end p m.0), omega (arith, ints)), λ z c. covered_from p L z m c.0)
next_of_gap (p ∷ L) (suc i) v m b a = least_same (slice_get L i) _ _ (next_of_rest p L v b.0) (next_of_gap L i v m.2 b.1 a)

-- the runs of a set M, which a search saw as L, and N after it
pub next_at : (L M N : List (ℤ × ℤ)) (i : ℕ) (v x : ℤ) (run : ℤ × ℤ) → L ≡ M → N ≡ L → IsGapAt L v i → slice_get N i ≡ Some run → x ≡ run.0 → IsLeast x (AtLeast v (Covers M))
next_at L M N i v x run e f gap s h =
    let P : Option (ℤ × ℤ) → Type 0 = λ o. MatchOption o (HasNone (AtLeast v (Covers L))) (λ r. IsLeast r.0 (AtLeast v (Covers L))) in
    let least : IsLeast run.0 (AtLeast v (Covers L)) = subst P (subst (λ (K : List (ℤ × ℤ)). slice_get K i ≡ Some run) f s) gap.next in
    subst (λ (K : List (ℤ × ℤ)). IsLeast x (AtLeast v (Covers K))) e (subst (λ (y : ℤ). IsLeast y (AtLeast v (Covers L))) (sym h) least)

pub no_next : (L M : List (ℤ × ℤ)) (i : ℕ) (v : ℤ) → L ≡ M → IsGapAt L v i → length L ≤ i → HasNone (AtLeast v (Covers M))
no_next L M i v e gap h = subst (λ (K : List (ℤ × ℤ)). HasNone (AtLeast v (Covers K))) e
    (λ z c. let low = below_all v L z (subst (EndBelow v) (take_all i L h) gap.below) c.0 in let high = c.1 in omega (arith, ints))

-- ---- the previous member

greatest_more : (p : ℤ × ℤ) (L : List (ℤ × ℤ)) (v x : ℤ) → IsMaximal (p ∷ L) → IsGreatest x (AtMost v (Covers L)) → IsGreatest x (AtMost v (Covers (p ∷ L)))
greatest_more p L v x m g =
    let far = covered_after p.1 L x m.1 m.2 g.0.0 in
    ((inr g.0.0, g.0.1), λ z c. ⊎_elim (λ (b : IsBetween p z). let high = b.1 in omega (arith, ints)) (λ (d : Covers L z). g.1 z (d, c.1)) c.0)

greatest_some : (o : Option (ℤ × ℤ)) (p : ℤ × ℤ) (L : List (ℤ × ℤ)) (v : ℤ) → IsMaximal (p ∷ L) → IfSome o (λ run. IsGreatest run.1 (AtMost v (Covers L))) →
    IfSome o (λ run. IsGreatest run.1 (AtMost v (Covers (p ∷ L))))
greatest_some None p L v m g = tt
greatest_some (Some run) p L v m g = greatest_more p L v run.1 m g

previous_at : (L : List (ℤ × ℤ)) (k : ℕ) (v : ℤ) → IsMaximal L → EndBelow v (take (suc k) L) → StartAbove v (drop (suc k) L) →
    IfSome (slice_get L k) (λ run. IsGreatest run.1 (AtMost v (Covers L)))
previous_at [] k v m b a = tt
previous_at (p ∷ L) zero v m b a =
    let low = b.0 in (
      (inl (upper_end p m.0), omega (arith, ints)),
      λ z c. ⊎_elim (λ (i : IsBetween p z). i.1) (λ (d : Covers L z). let high = above_all v L z (subst (StartAbove v) (drop_none L) a) d in let at_most = c.1 in absurd (omega (arith, ints))) c.0,
    )
  where
    drop_none : (M : List (ℤ × ℤ)) → drop zero M ≡ M
    drop_none M = search
previous_at (p ∷ L) (suc k) v m b a = greatest_some (slice_get L k) p L v m (previous_at L k v m.2 b.1 a)

pub previous_of_gap : (L : List (ℤ × ℤ)) (i : ℕ) (v : ℤ) → IsMaximal L → EndBelow v (take i L) → StartAbove v (drop i L) → 0 < i →
    IfSome (slice_get L (i - 1)) (λ run. IsGreatest run.1 (AtMost v (Covers L)))
previous_of_gap L zero v m b a h = absurd (omega arith)
previous_of_gap L (suc k) v m b a h =
    let e : k ≡ suc k - 1 = omega arith in
    subst (λ (n : ℕ). IfSome (slice_get L n) (λ run. IsGreatest run.1 (AtMost v (Covers L)))) e (previous_at L k v m b a)

none_before : (L : List (ℤ × ℤ)) (i : ℕ) (v : ℤ) → i ≡ 0 → StartAbove v (drop i L) → HasNone (AtMost v (Covers L))
none_before L i v e a z c =
    let all : StartAbove v L = subst (λ (n : ℕ). StartAbove v (drop n L)) e a in
    let high = above_all v L z all c.0 in
    let low = c.1 in
    omega (arith, ints)

-- ---- both, for the place of a search

pub is_gap : (L : List (ℤ × ℤ)) (i : ℕ) (v : ℤ) → IsMaximal L → ¬ (Covers L v) → runs_below v L ≡ i → IsGapAt L v i
is_gap L i v m n e =
    let s = split_by_gap L i v m n e in
    record {
      at_most = s.at_most;
      below = s.below;
      above = s.above;
      next = next_of_gap L i v m s.below s.above;
      first = λ z. none_before L i v z s.above;
      previous = previous_of_gap L i v m s.below s.above;
    }

pub run_at_place : (L : List (ℤ × ℤ)) (i : ℕ) (run : ℤ × ℤ) (v : ℤ) → IsMaximal L → slice_get L i ≡ Some run → IsSomeAnd (slice_get L i) (λ r. IsBetween r v) → IsRunWith v (Covers L) run
run_at_place L i run v m e h =
    let here = in_from_place L i run e in
    record {
      holds = has_at_place L i run v e h;
      inside = λ z b. one_covers L run z here b;
      free_below = free_below L run.0 m (start_in L run here);
      free_above = free_above_end L run m here;
    }

run_of_some : (L : List (ℤ × ℤ)) (i : ℕ) (v : ℤ) → IsMaximal L → IsSomeAnd (slice_get L i) (λ r. IsBetween r v) → (o : Option (ℤ × ℤ)) → slice_get L i ≡ o → IfSome o (IsRunWith v (Covers L))
run_of_some L i v m h None e = tt
run_of_some L i v m h (Some run) e = run_at_place L i run v m e h

pub is_beside : (L : List (ℤ × ℤ)) (v : ℤ) (place : Place) → IsMaximal L → IsPlaceOf L v place → IsBeside L v place
is_beside L v (In i) m h = run_of_some L i v m h (slice_get L i) refl
is_beside L v (Gap i) m h = is_gap L i v m h.0 h.1

-- The whole runs of a list that meet an interval, and what they say of its members.
use Rattle.std.proofs.Common.{◌≡◌, inl, inr, ⊎_elim, ◌⊎◌, ℕ, zero, suc, ◌-◌, ◌≤◌, ◌<◌, ℤ, pos, ◌+ℤ◌, ◌-ℤ◌, ◌≤ℤ◌, List, [], ◌∷◌, length, get_or, take, drop, arith, sym, ap, subst, ◌∙◌}
use Rattle.std.specs.Int.{int_max}
use Rattle.std.proofs.lemmas.Int.{ints, clamps, by_lt_z}
use Rattle.std.proofs.lemmas.List.{drop-drop}
use Rattle.ivl_laws.specs.Sets.{HasNone, HasSome, Intersection, IsBetween, SameMembers}
use Rattle.ivl_laws.specs.Runs.{Covers, IsMaximal, IsRunsOf, StartsBy}
use Rattle.ivl_laws.proofs.Runs.{covered_after, covered_from}
use Rattle.ivl_laws.proofs.Places.{covers-take, covers-drop}
use Rattle.ivl_laws.proofs.SetLaws.{one_run_of_member}
use Rattle.ivl_places.specs.Places.{EndBelow, EndsFrom, StartAbove}
use Rattle.ivl_places.specs.Windows.{OfRunsThatMeet}
use Rattle.ivl_places.proofs.Windows.{covers_split}

end_between : (y z : ℤ) → IsBetween (y, z) z ⊎ IsBetween (z, y) z
end_between y z = by_lt_z z y (λ h. inr (omega (arith, ints), omega (arith, ints))) (λ h. inl (h, omega (arith, ints)))

-- the first run of a part that is met ends at u or above, so the next does too
next_ends : (u : ℤ) (p : ℤ × ℤ) (L : List (ℤ × ℤ)) → u ≤ℤ p.1 → IsMaximal (p ∷ L) → EndsFrom u L
next_ends u p [] h m = tt
next_ends u p (q ∷ L) h m = let gap = m.1 in let o = m.2.0 in omega (arith, ints)

-- the number of the window that a run has: the higher of the two starts
met_at : (W p : ℤ × ℤ) → W.0 ≤ℤ W.1 → p.0 ≤ℤ p.1 → W.0 ≤ℤ p.1 → p.0 ≤ℤ W.1 → Intersection (IsBetween p) (IsBetween W) (int_max p.0 W.0)
met_at W p o m e s = ((omega (arith, ints, clamps), omega (arith, ints, clamps)), (omega (arith, ints, clamps), omega (arith, ints, clamps)))

-- each run of a part that ends at the window's start or above, and starts at its end or below, meets it
pub each_meets : (W : ℤ × ℤ) (K : List (ℤ × ℤ)) → W.0 ≤ℤ W.1 → IsMaximal K → EndsFrom W.0 K → StartsBy W.1 K →
    (k : ℕ) (d : ℤ × ℤ) → k < length K → HasSome (Intersection (IsBetween (get_or K k d)) (IsBetween W))
each_meets W [] o m e s k d h = absurd (omega arith)
each_meets W (p ∷ K) o m e s zero d h = (int_max p.0 W.0, met_at W p o m.0 e s.0)
each_meets W (p ∷ K) o m e s (suc k) d h = each_meets W K o m.2 (next_ends W.0 p K e m) s.1 k d (omega arith)

-- each number of such a part stands in one run with a number of the window
part_is_met : (W : ℤ × ℤ) (K : List (ℤ × ℤ)) → W.0 ≤ℤ W.1 → IsMaximal K → EndsFrom W.0 K → StartsBy W.1 K → (z : ℤ) → Covers K z → OfRunsThatMeet (IsBetween W) (Covers K) z
part_is_met W [] o m e s z c = absurd c
part_is_met W (p ∷ K) o m e s z (inl b) =
    let at = met_at W p o m.0 e s.0 in
    let y = int_max p.0 W.0 in (
      y,
      at.1,
      λ x. ⊎_elim
          (λ (i : IsBetween (y, z) x). let low = i.0 in let high = i.1 in let l = at.0.0 in let h = b.1 in inl (omega (arith, ints, clamps), omega (arith, ints, clamps)))
          (λ (i : IsBetween (z, y) x). let low = i.0 in let high = i.1 in let l = b.0 in let h = at.0.1 in inl (omega (arith, ints, clamps), omega (arith, ints, clamps))),
    )
part_is_met W (p ∷ K) o m e s z (inr c) =
    let (y, w, f) = part_is_met W K o m.2 (next_ends W.0 p K e m) s.1 z c in
    (y, w, λ x i. inr (f x i))

-- a number below u is free above each number of the runs that end below u
free_after : (L : List (ℤ × ℤ)) (i : ℕ) (u z : ℤ) → IsMaximal L → EndBelow u (take i L) → Covers (take i L) z → (f : ℤ) × (z ≤ℤ f) × (f ≤ℤ u) × (¬ (Covers L f))
free_after [] zero u z m e c = absurd c
free_after [] (suc i) u z m e c = absurd c
free_after (p ∷ L) zero u z m e c = absurd c
free_after (p ∷ L) (suc i) u z m e (inl b) =
    let high = b.1 in
    let below = e.0 in (
      p.1 +ℤ pos 1,
      omega (arith, ints),
      omega (arith, ints),
      ⊎_elim
          (λ (t : IsBetween p (p.1 +ℤ pos 1)). let k = t.1 in omega (arith, ints))
          (λ (t : Covers L (p.1 +ℤ pos 1)). let far = covered_after p.1 L (p.1 +ℤ pos 1) m.1 m.2 t in omega (arith, ints)),
    )
free_after (p ∷ L) (suc i) u z m e (inr c) =
    let (f, low, high, free) = free_after L i u z m.2 e.1 c in
    let far = covered_after p.1 L z m.1 m.2 (covers-take L i z c) in
    (f, low, high, ⊎_elim (λ (t : IsBetween p f). let k = t.1 in omega (arith, ints)) free)

-- and one at v or above is free below each number of the runs that start above v
free_before : (L : List (ℤ × ℤ)) (j : ℕ) (v z : ℤ) → IsMaximal L → StartAbove v (drop j L) → Covers (drop j L) z → (f : ℤ) × (v ≤ℤ f) × (f ≤ℤ z) × (¬ (Covers L f))
free_before [] zero v z m a c = absurd c
free_before [] (suc j) v z m a c = absurd c
free_before (p ∷ L) zero v z m a c =
    let low = covered_from p L z m c in
    let above = a.0 in
    (p.0 -ℤ pos 1, omega (arith, ints), omega (arith, ints), λ t. let k = covered_from p L (p.0 -ℤ pos 1) m t in omega (arith, ints))
free_before (p ∷ L) (suc j) v z m a c =
    let (f, low, high, free) = free_before L j v z m.2 a c in
    by_lt_z p.1 f
    (λ k. (f, low, high, ⊎_elim (λ (t : IsBetween p f). let h = t.1 in omega (arith, ints)) free))
    (λ k. (p.1 +ℤ pos 1, omega (arith, ints), (let far = covered_after p.1 L z m.1 m.2 (covers-drop L j z c) in omega (arith, ints)), after))
  where
    after : ¬ (Covers (p ∷ L) (p.1 +ℤ pos 1))
    after = ⊎_elim
        (λ (t : IsBetween p (p.1 +ℤ pos 1)). let k = t.1 in omega (arith, ints))
        (λ (t : Covers L (p.1 +ℤ pos 1)). let far = covered_after p.1 L (p.1 +ℤ pos 1) m.1 m.2 t in omega (arith, ints))

-- the runs from place i to before place j are those that meet W
pub met_runs : (L : List (ℤ × ℤ)) (W : ℤ × ℤ) (i j : ℕ) → i ≤ j → W.0 ≤ℤ W.1 → IsMaximal L → IsMaximal (take (j - i) (drop i L)) →
    EndBelow W.0 (take i L) → EndsFrom W.0 (take (j - i) (drop i L)) → StartsBy W.1 (take (j - i) (drop i L)) → StartAbove W.1 (drop j L) →
    IsRunsOf (take (j - i) (drop i L)) (OfRunsThatMeet (IsBetween W) (Covers L))
met_runs L W i j o w m n b e s a = record {
  maximal = n;
  members = λ z. (
    (λ c. let (y, h, f) = part_is_met W (take (j - i) (drop i L)) w n e s z c in (y, h, λ x t. covers-drop L i x (covers-take (drop i L) (j - i) x (f x t)))),
    (λ (y, h, f).
        let low = h.0 in
        let high = h.1 in
        ⊎_elim
        (λ (c : Covers (take i L) z).
        let (x, l, u, free) = free_after L i W.0 z m b c in absurd (free (f x (inr (l, omega (arith, ints))))))
        (λ (c : Covers (drop i L) z). ⊎_elim
        (λ (t : Covers (take (j - i) (drop i L)) z). t)
        (λ (d : Covers (drop (j - i) (drop i L)) z).
        let (x, l, u, free) = free_before L j W.1 z m a (subst (λ (M : List (ℤ × ℤ)). Covers M z) rest d) in absurd (free (f x (inl (omega (arith, ints), u)))))
        (covers_split (drop i L) (j - i) z c))
        (covers_split L i z (f z (end_between y z)))),
  );
}
  where
    rest : drop (j - i) (drop i L) ≡ drop j L
    rest = drop-drop (j - i) i L ∙ ap (λ (n : ℕ). drop n L) (omega arith)

-- no run meets a window that has no number
pub none_met : (W : ℤ × ℤ) (L M : List (ℤ × ℤ)) → HasNone (IsBetween W) → M ≡ [] → IsRunsOf M (OfRunsThatMeet (IsBetween W) (Covers L))
none_met W L M n e = subst (λ (K : List (ℤ × ℤ)). IsRunsOf K (OfRunsThatMeet (IsBetween W) (Covers L))) (sym e)
    (record { maximal = tt; members = λ z. ((λ c. absurd c), (λ (y, h, f). absurd (n y h))) })

-- the runs that meet W have what the list has in W
pub met_have_all : (W S : ℤ → Type 0) (K : List (ℤ × ℤ)) → IsRunsOf K (OfRunsThatMeet W S) → SameMembers (Intersection (Covers K) W) (Intersection S W)
met_have_all W S K r z = (
  (λ (c, w). let (y, h, f) = (r.members z).0 c in (f z (end_between y z), w)),
  (λ (s, w). ((r.members z).1 (z, w, one_run_of_member S z s), w)),
)

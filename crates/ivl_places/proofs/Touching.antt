-- The runs that an interval overlaps or touches, by a search for the numbers beside it.
use Rattle.std.proofs.Common.{◌≡◌, ◌⊎◌, inl, inr, ℕ, ℤ, pos, ◌+ℤ◌, ◌-ℤ◌, ◌≤ℤ◌, List, [], ◌∷◌, take, drop, arith}
use Rattle.std.proofs.lemmas.Int.{ints}
use Rattle.ivl_laws.specs.Sets.{IsBetween, IsSubset}
use Rattle.ivl_laws.specs.Runs.{Covers, IsMaximal, IsRunListIn}
use Rattle.ivl_laws.proofs.Merging.{StartsBy-more}
use Rattle.ivl_laws.proofs.Places.{IsMaximal-drop, IsMaximal-take, covers-drop, covers-take}
use Rattle.ivl_laws.proofs.Runs.{lower_end, upper_end}
use Rattle.ivl_places.specs.Edits.{IsSpan}
use Rattle.ivl_places.specs.Places.{EndBelow, EndsFrom, StartAbove}

-- no run ends below the range, and none starts above it
none_below : (whole : ℤ × ℤ) (v : ℤ) (L : List (ℤ × ℤ)) → IsMaximal L → IsSubset (Covers L) (IsBetween whole) → EndBelow whole.0 L → EndBelow v L
none_below whole v [] m w e = tt
none_below whole v (p ∷ L) m w e = let low = (w p.1 (inl (upper_end p m.0))).0 in let lt = e.0 in absurd (omega (arith, ints))

none_above : (whole : ℤ × ℤ) (v : ℤ) (L : List (ℤ × ℤ)) → IsMaximal L → IsSubset (Covers L) (IsBetween whole) → StartAbove whole.1 L → StartAbove v L
none_above whole v [] m w s = tt
none_above whole v (p ∷ L) m w s = let high = (w p.0 (inl (lower_end p m.0))).1 in let lt = s.0 in absurd (omega (arith, ints))

ends_from_less : (v w : ℤ) (L : List (ℤ × ℤ)) → w ≤ℤ v → EndsFrom v L → EndsFrom w L
ends_from_less v w [] h e = tt
ends_from_less v w (p ∷ L) h e = omega (arith, ints, h, e)

-- one below u, or u itself at the range's lower end
abbrev pub IsBefore : ℤ × ℤ → ℤ → ℤ → Type 0
IsBefore whole u a = (a ≡ u -ℤ pos 1) ⊎ ((a ≡ u) × (u ≡ whole.0))

abbrev pub IsAfter : ℤ × ℤ → ℤ → ℤ → Type 0
IsAfter whole v b = (b ≡ v +ℤ pos 1) ⊎ ((b ≡ v) × (v ≡ whole.1))

module _ (whole : ℤ × ℤ) (L : List (ℤ × ℤ)) (u v a b : ℤ) (i j : ℕ) (l : IsRunListIn whole L) (s : IsSpan L a b i j) where
  below_of : IsBefore whole u a → EndBelow (u -ℤ pos 1) (take i L)
  below_of (inl e) = rw (← e) s.below
  below_of (inr (e, f)) = none_below whole (u -ℤ pos 1) (take i L) (IsMaximal-take L i l.maximal) (λ z c. l.within z (covers-take L i z c)) (rw (← f, ← e) s.below)

  above_of : IsAfter whole v b → StartAbove (v +ℤ pos 1) (drop j L)
  above_of (inl e) = rw (← e) s.above
  above_of (inr (e, f)) = none_above whole (v +ℤ pos 1) (drop j L) (IsMaximal-drop L j l.maximal) (λ z c. l.within z (covers-drop L j z c)) (rw (← f, ← e) s.above)

  before_le : IsBefore whole u a → (u -ℤ pos 1) ≤ℤ a
  before_le (inl e) = omega (arith, ints, e)
  before_le (inr (e, f)) = omega (arith, ints, e)

  after_le : IsAfter whole v b → b ≤ℤ (v +ℤ pos 1)
  after_le (inl e) = omega (arith, ints, e)
  after_le (inr (e, f)) = omega (arith, ints, e)

  pub IsSpan-beside : IsBefore whole u a → IsAfter whole v b → IsSpan L (u -ℤ pos 1) (v +ℤ pos 1) i j
  IsSpan-beside x y = record {
    in_order = s.in_order;
    at_most = s.at_most;
    below = below_of x;
    ends = ends_from_less a (u -ℤ pos 1) (drop i L) (before_le x) s.ends;
    starts = StartsBy-more (take j L) b (v +ℤ pos 1) s.starts (after_le y);
    above = above_of y;
  }

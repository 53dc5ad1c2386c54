-- Runs that are added to a list one by one, from left to right.
use Rattle.std.proofs.Common.{◌≡◌, ◌⊎◌, inl, inr, ℕ, ◌+◌, ◌≤◌, ◌<◌, ℤ, pos, ◌≤ℤ◌, List, [], ◌∷◌, ◌++◌, length, length-append, get_or, take, map, ap, ◌∙◌, sym, subst, arith}
use Rattle.std.proofs.lemmas.Int.{ints, by_lt_z}
use Rattle.std.proofs.lemmas.List.{append-nil, append_assoc, map-append, take_more}
use Rattle.ivl_laws.specs.Sets.{HasNone, IsBetween, Union}
use Rattle.ivl_laws.specs.Runs.{Covers, IsMaximal, IsRunsOf}
use Rattle.ivl_laws.proofs.Intervals.{none_is_crossed}
use Rattle.ivl_walks.specs.Order.{IsBelow}
use Rattle.ivl_walks.specs.Sinks.{AddsFilled, IsMerged}
use Rattle.ivl_walks.proofs.MergeState.{IsBuilding, adds_above, adds_none, building_ends}

pub length_more : (L : List (ℤ × ℤ)) (p : ℤ × ℤ) (n : ℕ) → n ≡ length L → n + 1 ≡ length (L ++ p ∷ [])
length_more L p n e = let k = length-append L (p ∷ []) in omega arith

-- ---- what is written, and what is still to write to make up S

-- the runs of S are written
pub record IsHeld (S : ℤ → Type 0) (H : List (ℤ × ℤ) → Type 0) (L : List (ℤ × ℤ)) : Type 0 where
  pub runs : IsRunsOf L S
  pub held : H L

pub record IsLaying (rest S : ℤ → Type 0) (H : List (ℤ × ℤ) → Type 0) (W : List (ℤ × ℤ)) : Type 0 where
  pub state : IsBuilding (pos 2) W rest S
  pub held : H W

pub laying_begins : (S : ℤ → Type 0) (H : List (ℤ × ℤ) → Type 0) → H [] → (W : List (ℤ × ℤ)) × IsLaying S S H W
laying_begins S H h = (
  [],
  record {
    state = record { maximal = tt; below = λ x y c. absurd c; members = λ z. ((λ s. inr s), begun z) };
    held = h;
  },
)
  where
    begun : (z : ℤ) → Covers [] z ⊎ S z → S z
    begun z (inl c) = absurd c
    begun z (inr s) = s

pub laying_ends : (rest S : ℤ → Type 0) (H : List (ℤ × ℤ) → Type 0) → HasNone rest → (W : List (ℤ × ℤ)) × IsLaying rest S H W → (L : List (ℤ × ℤ)) × IsHeld S H L
laying_ends rest S H n (W, u) = (W, record { runs = building_ends (pos 2) W rest S u.state n; held = u.held })

-- the next pair adds its numbers, none where it is crossed
pub lays : (W : List (ℤ × ℤ)) (r : ℤ × ℤ) (H H' : List (ℤ × ℤ) → Type 0) → IsMaximal W → IsBelow (pos 2) (Covers W) (IsBetween r) → H W →
    AddsFilled r H H' → (W' : List (ℤ × ℤ)) × IsHeld (Union (Covers W) (IsBetween r)) H' W'
lays W r H H' m b h l = by_lt_z r.1 r.0
    (λ lt. (W, record { runs = adds_none W (IsBetween r) m ((none_is_crossed r).1 lt); held = l.crossed lt W h }))
    (λ le. (W ++ r ∷ [], record { runs = (adds_above W r m le b).runs; held = l.filled le W h }))

-- a run that is not crossed is added
pub adds_filled : (r p : ℤ × ℤ) (H H' : List (ℤ × ℤ) → Type 0) → p ≡ r → r.0 ≤ℤ r.1 → ((L : List (ℤ × ℤ)) → H L → H' (L ++ p ∷ [])) → AddsFilled r H H'
adds_filled r p H H' e o h = record {
  crossed = λ lt. absurd (omega (arith, ints, lt, o));
  filled = λ _ L x. subst (λ (t : ℤ × ℤ). H' (L ++ t ∷ [])) e (h L x);
}

-- a crossed one is left out
pub adds_no_run : (r : ℤ × ℤ) (H : List (ℤ × ℤ) → Type 0) → ¬ (r.0 ≤ℤ r.1) → AddsFilled r H H
adds_no_run r H n = record { crossed = λ lt L x. x; filled = λ le. absurd (n le) }

pub merged : (S : ℤ → Type 0) (H : List (ℤ × ℤ) → Type 0) (most : ℕ) → ((L : List (ℤ × ℤ)) → IsRunsOf L S → length L ≤ most) → (L : List (ℤ × ℤ)) × IsHeld S H L → (L : List (ℤ × ℤ)) × IsMerged H S most L
merged S H most few (L, u) = (L, record { runs = u.runs; held = u.held; at_most = few L u.runs })

-- ---- pairs of a list that are added one by one

module _ {X : Type 0} (pair : X → ℤ × ℤ) (runs : List X) where
  pub added_none : (H : List (ℤ × ℤ) → Type 0) (L : List (ℤ × ℤ)) → H L → H (L ++ map pair (take 0 runs))
  added_none H L h = subst H (sym (append-nil L)) h

  pub added_next : (H' : List (ℤ × ℤ) → Type 0) (k : ℕ) (d : X) (L : List (ℤ × ℤ)) → k < length runs → d ≡ get_or runs k d → H' ((L ++ map pair (take k runs)) ++ pair d ∷ []) → H' (L ++ map pair (take (k + 1) runs))
  added_next H' k d L h is x =
      let more : map pair (take k runs) ++ pair d ∷ [] ≡ map pair (take (k + 1) runs) =
      sym (map-append pair (take k runs) (d ∷ [])) ∙ ap (λ (N : List X). map pair N) (sym (take_more runs k d h ∙ ap (λ (e : X). take k runs ++ e ∷ []) (sym is))) in
      subst H' (append_assoc L (map pair (take k runs)) (pair d ∷ []) ∙ ap (λ (N : List (ℤ × ℤ)). L ++ N) more) x

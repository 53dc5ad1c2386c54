-- A round of narrowings.
use Rattle.std.proofs.Common.{◌≡◌, ◌↔◌, ℕ, ◌+◌, ◌<◌, inl, inr, ◌∙◌, List, [], length, get_or, take, Bool, true, false}
use Rattle.std.specs.Prelude.{ℤ, All}
use Rattle.std.proofs.lemmas.List.Elements.{All-more, All-weaker, All-get_or}
use Rattle.std.proofs.lemmas.Bool.{iff_false}
use Rattle.ivl_laws.specs.Families.{set_at}
use Rattle.ivl_laws.proofs.SetLaws.{sums_are_monotone, differences_are_monotone}
use Rattle.ivl_laws.proofs.Lengths.{decide_covers}
use Rattle.ivl_store.specs.declared.store.constraint.Constraint.{Constraint}
use Rattle.ivl_store.specs.Solutions.{AreDistinct, Supports, LiesWithin, IsGreatestFamily, LostMember}
use Rattle.ivl_store.specs.Narrowing.{Narrowed, IsFixed, Keeps}
use Rattle.ivl_store.proofs.Families.{narrowing_keeps, unchanged_supported}

-- nothing was done
pub Keeps-refl : (constraints : List Constraint) (s : List (List (ℤ × ℤ))) → Keeps constraints s s
Keeps-refl constraints s = record { within = (λ i v h. h); families = (λ f u w. w) }

-- one change after another
pub Keeps-trans : (constraints : List Constraint) (a b c : List (List (ℤ × ℤ))) → Keeps constraints a b → Keeps constraints b c → Keeps constraints a c
Keeps-trans constraints a b c f g = record { within = (λ i v h. f.within i v (g.within i v h)); families = (λ t u w. g.families t u (f.families t u w)) }

-- one narrowing
pub Keeps-narrowed : (constraints : List Constraint) (k : ℕ) (d : Constraint) (s t : List (List (ℤ × ℤ))) → k < length constraints
    → ((i : ℕ) (v : ℤ) → set_at t i v ↔ Narrowed (get_or constraints k d) (set_at s) i v) → Keeps constraints s t
Keeps-narrowed constraints k d s t lt n = record {
  within = (λ i v h. ((n i v).0 h).kept);
  families = (λ f u w i v h. (n i v).1 (narrowing_keeps (get_or constraints k d) (set_at f) (set_at s) (All-get_or (λ c. Supports c (set_at f)) constraints k d lt u) w i v h));
}

-- a larger family narrows to a larger one
pub Narrowed-mono : (c : Constraint) (inner outer : ℕ → ℤ → Type 0) → LiesWithin inner outer → LiesWithin (Narrowed c inner) (Narrowed c outer)
Narrowed-mono c inner outer w i v n = record {
  kept = w i v n.kept;
  at_x = (λ e f g. differences_are_monotone _ _ _ _ (w c.z) (w c.y) v (n.at_x e f g));
  at_y = (λ e f. differences_are_monotone _ _ _ _ (w c.z) (w c.x) v (n.at_y e f));
  at_z = (λ e. sums_are_monotone _ _ _ _ (w c.x) (w c.y) v (n.at_z e));
}

-- a constraint stays fixed where the sets have the same members
IsFixed-same : (s t : ℕ → ℤ → Type 0) → LiesWithin s t → LiesWithin t s → (c : Constraint) → IsFixed s c → IsFixed t c
IsFixed-same s t w u c h i v k = Narrowed-mono c s t w i v (h i v (u i v k))

-- where no member was lost, each is still there
pub none_lost : (s t : List (List (ℤ × ℤ))) → (LostMember (set_at s) (set_at t) → ⊥) → LiesWithin (set_at s) (set_at t)
none_lost s t none i v h =
    elim (decide_covers (get_or t i []) v) [ inl k ↦ k | inr gone ↦ absurd (none (record { variable = i; member = v; was = h; gone = gone })) ]

-- a narrowing that loses nothing leaves one more constraint fixed
pub fixed_more : (constraints : List Constraint) (k : ℕ) (d : Constraint) (s t : List (List (ℤ × ℤ))) → k < length constraints
    → ((i : ℕ) (v : ℤ) → set_at t i v ↔ Narrowed (get_or constraints k d) (set_at s) i v) → (LostMember (set_at s) (set_at t) → ⊥)
    → All (IsFixed (set_at s)) (take k constraints) → All (IsFixed (set_at t)) (take (k + 1) constraints)
fixed_more constraints k d s t lt n none h =
    let w = none_lost s t none in
    let u : LiesWithin (set_at t) (set_at s) = (λ i v m. ((n i v).0 m).kept) in
    All-more (IsFixed (set_at t)) constraints k d lt
    (All-weaker (IsFixed (set_at s)) (IsFixed (set_at t)) (IsFixed-same (set_at s) (set_at t) w u) (take k constraints) h)
    (λ i v m. Narrowed-mono _ (set_at s) (set_at t) w i v ((n i v).0 m))

-- where every constraint is fixed and has three variables, the domains are the greatest supported family
pub fixed_greatest : (constraints : List Constraint) (old new : List (List (ℤ × ℤ))) → Keeps constraints old new
    → All AreDistinct constraints → All (IsFixed (set_at new)) constraints → IsGreatestFamily constraints (set_at old) (set_at new)
fixed_greatest constraints old new k distinct fixed = record {
  within = k.within;
  supported = (λ i d lt. unchanged_supported _ (set_at new) (distinct i d lt) (fixed i d lt));
  greatest = (λ other w u. k.families other u w);
}

-- a round as far as it has come
pub record RoundSoFar (constraints : List Constraint) (old new : List (List (ℤ × ℤ))) (lost : Bool) (k : ℕ) : Type 0 where
  pub same_count : length new ≡ length old
  pub keeps : Keeps constraints old new
  pub fixed : lost ≡ false → All (IsFixed (set_at new)) (take k constraints)

-- one more narrowing of a round
pub round_step : (constraints : List Constraint) (old mid new : List (List (ℤ × ℤ))) (lost less lost' : Bool) (k : ℕ) (d : Constraint) → k < length constraints
    → RoundSoFar constraints old mid lost k → length new ≡ length mid
    → ((i : ℕ) (v : ℤ) → set_at new i v ↔ Narrowed (get_or constraints k d) (set_at mid) i v)
    → (less ≡ true ↔ LostMember (set_at mid) (set_at new))
    → (lost' ≡ false → (lost ≡ false) × (less ≡ false))
    → RoundSoFar constraints old new lost' (k + 1)
round_step constraints old mid new lost less lost' k d lt so_far count n l parts = record {
  same_count = count ∙ so_far.same_count;
  keeps = Keeps-trans constraints old mid new so_far.keeps (Keeps-narrowed constraints k d mid new lt n);
  fixed = (λ f. fixed_more constraints k d mid new lt n (iff_false l (parts f).1) (so_far.fixed (parts f).0));
}

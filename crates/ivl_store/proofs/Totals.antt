-- Sets that lose a member have fewer together.
use Rattle.std.proofs.Common.{◌≡◌, ◌↔◌, ℕ, zero, suc, ◌≤◌, ◌<◌, ◌⊎◌, inl, inr, arith, Bool, true, List, [], ◌∷◌, length}
use Rattle.std.specs.Prelude.{ℤ, pos, ◌+ℤ◌, ◌≤ℤ◌, ◌<ℤ◌, All}
use Rattle.std.proofs.lemmas.Int.{ints}
use Rattle.ivl_laws.specs.Sets.{IsBetween}
use Rattle.ivl_laws.specs.Bounds.{width_of}
use Rattle.ivl_laws.specs.Runs.{IsRunListIn}
use Rattle.ivl_laws.specs.Families.{set_at}
use Rattle.ivl_laws.proofs.Intervals.{width_of-filled}
use Rattle.ivl_store.specs.declared.store.constraint.Constraint.{Constraint}
use Rattle.ivl_store.specs.Solutions.{LiesWithin, LostMember}
use Rattle.ivl_store.specs.Narrowing.{Narrowed}
use Rattle.ivl_store.specs.Measure.{total_from, total}
use Rattle.ivl_store.proofs.Counting.{count_le, count_less}

-- sets within others have no more members
total_le : (low : ℤ) (n : ℕ) (new old : List (List (ℤ × ℤ))) → length new ≡ length old → LiesWithin (set_at new) (set_at old)
    → total_from low n new ≤ total_from low n old
total_le low n [] old e w = omega arith
total_le low n (s ∷ new) [] e w = absurd (omega arith)
total_le low n (s ∷ new) (t ∷ old) e w =
    let h = count_le s t low n (w 0) in
    let k = total_le low n new old (omega arith) (λ i v. w (suc i) v) in
    omega arith

-- and fewer where one of the range is gone
total_less : (low : ℤ) (n : ℕ) (new old : List (List (ℤ × ℤ))) → length new ≡ length old → LiesWithin (set_at new) (set_at old)
    → (i : ℕ) (v : ℤ) → set_at old i v → ¬ (set_at new i v) → low ≤ℤ v → v <ℤ (low +ℤ pos n) → total_from low n new < total_from low n old
total_less low n new [] e w i v was gone a b = absurd was
total_less low n [] (t ∷ old) e w i v was gone a b = absurd (omega arith)
total_less low n (s ∷ new) (t ∷ old) e w zero v was gone a b =
    let h = count_less s t low n (w 0) v a b was gone in
    let k = total_le low n new old (omega arith) (λ i v. w (suc i) v) in
    omega arith
total_less low n (s ∷ new) (t ∷ old) e w (suc i) v was gone a b =
    let h = count_le s t low n (w 0) in
    let k = total_less low n new old (omega arith) (λ i v. w (suc i) v) i v was gone a b in
    omega arith

-- a number of the range is among those counted
below_end : (whole : ℤ × ℤ) (v : ℤ) → whole.0 ≤ℤ v → v ≤ℤ whole.1 → v <ℤ (whole.0 +ℤ pos (width_of whole))
below_end whole v a b = let filled : whole.0 ≤ℤ whole.1 = omega (arith, ints) in let e = width_of-filled whole filled in omega (arith, ints)

-- a member of a set whose runs lie in the range does so too
within_range : (whole : ℤ × ℤ) (sets : List (List (ℤ × ℤ))) (i : ℕ) (v : ℤ) → All (IsRunListIn whole) sets → set_at sets i v → IsBetween whole v
within_range whole [] i v h m = absurd m
within_range whole (s ∷ sets) zero v h m = (h 0 s (omega arith)).within v m
within_range whole (s ∷ sets) (suc i) v h m = within_range whole sets i v (λ k d lt. h (suc k) d (omega arith)) m

-- sets that lose a member have fewer
pub total_falls : (whole : ℤ × ℤ) (old new : List (List (ℤ × ℤ))) → All (IsRunListIn whole) old → length new ≡ length old
    → LiesWithin (set_at new) (set_at old) → LostMember (set_at old) (set_at new) → total whole new < total whole old
total_falls whole old new h e w lost =
    let p = within_range whole old lost.variable lost.member h lost.was in
    total_less whole.0 (width_of whole) new old e w lost.variable lost.member lost.was lost.gone p.0 (below_end whole lost.member p.0 p.1)

-- any narrowing leaves no more
pub narrowing_adds_none : (whole : ℤ × ℤ) (c : Constraint) (old new : List (List (ℤ × ℤ))) → length new ≡ length old
    → ((i : ℕ) (v : ℤ) → set_at new i v ↔ Narrowed c (set_at old) i v) → total whole new ≤ total whole old
narrowing_adds_none whole c old new e n = total_le whole.0 (width_of whole) new old e (λ i v h. ((n i v).0 h).kept)

-- what a part of a round has taken
pub record TakenSoFar (whole : ℤ × ℤ) (old new : List (List (ℤ × ℤ))) (lost : Bool) : Type 0 where
  pub no_more : total whole new ≤ total whole old
  pub fewer : lost ≡ true → total whole new < total whole old

-- one more narrowing of a round
pub taken_step : (whole : ℤ × ℤ) (c : Constraint) (old mid new : List (List (ℤ × ℤ))) (lost less lost' : Bool)
    → TakenSoFar whole old mid lost → length new ≡ length mid
    → ((i : ℕ) (v : ℤ) → set_at new i v ↔ Narrowed c (set_at mid) i v)
    → (less ≡ true → total whole new < total whole mid) → (lost' ≡ true → (lost ≡ true) ⊎ (less ≡ true))
    → TakenSoFar whole old new lost'
taken_step whole c old mid new lost less lost' so_far same n fewer parts =
    let step = narrowing_adds_none whole c mid new same n in
    let before = so_far.no_more in
    record {
      no_more = omega arith;
      fewer = (λ t. elim (parts t) [
        | inl was ↦ (let a = so_far.fewer was in omega arith)
        | inr now ↦ (let a = fewer now in omega arith)
      ]);
    }

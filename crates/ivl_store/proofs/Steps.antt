-- What the rounds leave, step by step.
use Rattle.std.proofs.Common.{◌≡◌, ◌↔◌, ℕ, zero, suc, ◌+◌, ◌<◌, ◌≤◌, ◌⊎◌, inl, inr, refl, sym, subst, arith, List, [], ◌∷◌, length, get_or, take, Bool, true, false}
use Rattle.std.specs.Prelude.{ℤ, Result, Ok, Err, OnErr}
use Rattle.std.proofs.lemmas.List.{take_all}
use Rattle.std.proofs.lemmas.Bool.{cases_eq, iff_false}
use Rattle.ivl_laws.specs.Families.{set_at}
use Rattle.ivl_store.specs.declared.store.constraint.Constraint.{Constraint}
use Rattle.ivl_store.specs.Solutions.{LiesWithin, LostMember}
use Rattle.ivl_store.specs.Narrowing.{Narrowed}
use Rattle.ivl_store.specs.Rounds.{narrowed_by, rounds_of, IsNarrowedBy, After, AfterSome, EachLost}
use Rattle.ivl_store.proofs.Rounds.{Narrowed-mono, none_lost}

-- a larger family is left larger
pub narrowed_by-mono : (constraints : List Constraint) (inner outer : ℕ → ℤ → Type 0) → LiesWithin inner outer
    → LiesWithin (narrowed_by constraints inner) (narrowed_by constraints outer)
narrowed_by-mono [] inner outer w = w
narrowed_by-mono (c ∷ cs) inner outer w = narrowed_by-mono cs (Narrowed c inner) (Narrowed c outer) (Narrowed-mono c inner outer w)

-- narrowing by one more constraint
narrowed_by-more : (constraints : List Constraint) (k : ℕ) (d : Constraint) (sets : ℕ → ℤ → Type 0) → k < length constraints
    → (i : ℕ) (v : ℤ) → narrowed_by (take (suc k) constraints) sets i v ↔ Narrowed (get_or constraints k d) (narrowed_by (take k constraints) sets) i v
narrowed_by-more [] k d sets lt i v = absurd (omega arith)
narrowed_by-more (c ∷ cs) zero d sets lt i v = ((λ h. h), (λ h. h))
narrowed_by-more (c ∷ cs) (suc k) d sets lt i v = narrowed_by-more cs k d (Narrowed c sets) (omega arith) i v

-- one more round
rounds_of-more : (constraints : List Constraint) (k : ℕ) (sets : ℕ → ℤ → Type 0)
    → (i : ℕ) (v : ℤ) → rounds_of constraints (suc k) sets i v ↔ narrowed_by constraints (rounds_of constraints k sets) i v
rounds_of-more constraints zero sets i v = ((λ h. h), (λ h. h))
rounds_of-more constraints (suc k) sets i v = rounds_of-more constraints k (narrowed_by constraints sets) i v

-- a lost member, in sets that have the same members
pub LostMember-same : (s s' t t' : ℕ → ℤ → Type 0) → ((i : ℕ) (v : ℤ) → s i v ↔ s' i v) → ((i : ℕ) (v : ℤ) → t i v ↔ t' i v) → LostMember s t → LostMember s' t'
LostMember-same s s' t t' a b l = record {
  variable = l.variable;
  member = l.member;
  was = (a l.variable l.member).0 l.was;
  gone = (λ h. l.gone ((b l.variable l.member).1 h));
}

-- one more narrowing of a round
pub narrowed_more : (constraints : List Constraint) (k : ℕ) (d : Constraint) (sets mid new : ℕ → ℤ → Type 0) → k < length constraints
    → IsNarrowedBy (take k constraints) sets mid → ((i : ℕ) (v : ℤ) → new i v ↔ Narrowed (get_or constraints k d) mid i v)
    → IsNarrowedBy (take (k + 1) constraints) sets new
narrowed_more constraints k d sets mid new lt so_far n =
    let e : suc k ≡ k + 1 = omega arith in
    let c = get_or constraints k d in
    subst (λ m. IsNarrowedBy (take m constraints) sets new) e (λ i v. (
      (λ h. (narrowed_by-more constraints k d sets lt i v).1 (Narrowed-mono c mid (narrowed_by (take k constraints) sets) (λ j w u. (so_far j w).0 u) i v ((n i v).0 h))),
      (λ h. (n i v).1 (Narrowed-mono c (narrowed_by (take k constraints) sets) mid (λ j w u. (so_far j w).1 u) i v ((narrowed_by-more constraints k d sets lt i v).0 h))),
    ))

-- what the rounds made so far have done
pub record RoundsSoFar (constraints : List Constraint) (count : ℕ) (before after : ℕ → ℤ → Type 0) : Type 0 where
  pub steps : After constraints count before after
  pub each_lost : EachLost constraints count before

-- no round so far
pub no_rounds : (constraints : List Constraint) (sets : ℕ → ℤ → Type 0) → RoundsSoFar constraints 0 sets sets
no_rounds constraints sets = record { steps = (λ i v. ((λ h. h), (λ h. h))); each_lost = (λ m lt. absurd (omega arith)) }

-- some narrowings after the rounds so far
pub after_some : (constraints : List Constraint) (k j : ℕ) (sets mid new : ℕ → ℤ → Type 0) → After constraints k sets mid
    → IsNarrowedBy (take j constraints) mid new → AfterSome constraints k j sets new
after_some constraints k j sets mid new so_far n i v = (
  (λ h. narrowed_by-mono (take j constraints) mid (rounds_of constraints k sets) (λ a b u. (so_far a b).0 u) i v ((n i v).0 h)),
  (λ h. (n i v).1 (narrowed_by-mono (take j constraints) (rounds_of constraints k sets) mid (λ a b u. (so_far a b).1 u) i v h)),
)

-- one more round after those so far
after_more : (constraints : List Constraint) (k : ℕ) (sets mid new : ℕ → ℤ → Type 0) → After constraints k sets mid
    → IsNarrowedBy constraints mid new → After constraints (k + 1) sets new
after_more constraints k sets mid new so_far n =
    let e : suc k ≡ k + 1 = omega arith in
    subst (λ m. After constraints m sets new) e (λ i v. (
      (λ h. (rounds_of-more constraints k sets i v).1 (narrowed_by-mono constraints mid (rounds_of constraints k sets) (λ a b u. (so_far a b).0 u) i v ((n i v).0 h))),
      (λ h. (n i v).1 (narrowed_by-mono constraints (rounds_of constraints k sets) mid (λ a b u. (so_far a b).1 u) i v ((rounds_of-more constraints k sets i v).0 h))),
    ))

-- one more round that took a member
pub rounds_step : (constraints : List Constraint) (k : ℕ) (sets mid new : ℕ → ℤ → Type 0) → RoundsSoFar constraints k sets mid
    → IsNarrowedBy constraints mid new → LostMember mid new → RoundsSoFar constraints (k + 1) sets new
rounds_step constraints k sets mid new so_far n lost =
    let steps = after_more constraints k sets mid new so_far.steps n in
    record {
      steps = steps;
      each_lost = (λ m lt. elim (cases_eq m k) [
        | inl e ↦ subst (λ j. LostMember (rounds_of constraints j sets) (rounds_of constraints (j + 1) sets)) (sym e)
            (LostMember-same mid (rounds_of constraints k sets) new (rounds_of constraints (k + 1) sets) so_far.steps steps lost)
        | inr f ↦ so_far.each_lost m (omega arith)
      ]);
    }

-- a round that took no member
pub rounds_end : (constraints : List Constraint) (k : ℕ) (sets mid new : ℕ → ℤ → Type 0) → After constraints k sets mid
    → LiesWithin mid new → LiesWithin new mid → After constraints k sets new
rounds_end constraints k sets mid new so_far w u i v = ((λ h. (so_far i v).0 (u i v h)), (λ h. w i v ((so_far i v).1 h)))

-- the narrowings of a whole round
pub narrowed_all : (constraints : List Constraint) (k : ℕ) (before after : ℕ → ℤ → Type 0) → length constraints ≤ k
    → IsNarrowedBy (take k constraints) before after → IsNarrowedBy constraints before after
narrowed_all constraints k before after le n = subst (λ cs. IsNarrowedBy cs before after) (take_all k constraints le) n

-- what a part of a round leaves, and whether it took a member
pub record StepsSoFar (constraints : List Constraint) (before after : ℕ → ℤ → Type 0) (lost : Bool) (k : ℕ) : Type 0 where
  pub steps : IsNarrowedBy (take k constraints) before after
  pub taken : lost ≡ true → LostMember before after
  pub kept : lost ≡ false → LiesWithin before after

-- one more narrowing of a round
pub steps_step : (constraints : List Constraint) (sets : ℕ → ℤ → Type 0) (mid new : List (List (ℤ × ℤ))) (lost less lost' : Bool) (k : ℕ) (d : Constraint)
    → k < length constraints → LiesWithin (set_at mid) sets → StepsSoFar constraints sets (set_at mid) lost k
    → ((i : ℕ) (v : ℤ) → set_at new i v ↔ Narrowed (get_or constraints k d) (set_at mid) i v)
    → (less ≡ true ↔ LostMember (set_at mid) (set_at new))
    → (lost' ≡ true → (lost ≡ true) ⊎ (less ≡ true)) → (lost' ≡ false → (lost ≡ false) × (less ≡ false))
    → StepsSoFar constraints sets (set_at new) lost' (k + 1)
steps_step constraints sets mid new lost less lost' k d lt within so_far n l some none = record {
  steps = narrowed_more constraints k d sets (set_at mid) (set_at new) lt so_far.steps n;
  taken = (λ t. elim (some t) [
    | inl was ↦ (let m = so_far.taken was in
        record { variable = m.variable; member = m.member; was = m.was; gone = (λ h. m.gone (((n m.variable m.member).0 h).kept)) })
    | inr now ↦ (let m = l.0 now in
        record { variable = m.variable; member = m.member; was = within m.variable m.member m.was; gone = m.gone })
  ]);
  kept = (λ f i v h. none_lost mid new (iff_false l (none f).1) i v (so_far.kept (none f).0 i v h));
}

-- the answer of a whole round
pub lost_is : (before after : ℕ → ℤ → Type 0) (lost : Bool) → (lost ≡ true → LostMember before after) → (lost ≡ false → LiesWithin before after)
    → lost ≡ true ↔ LostMember before after
lost_is before after true taken kept = (taken, (λ _. refl))
lost_is before after false taken kept = (taken, (λ m. absurd (m.gone (kept refl m.variable m.member m.was))))

-- what holds anyhow holds on an error
pub on_err : {T E : Type 0} (r : Result T E) (P : Type 0) → P → OnErr r P
on_err (Ok t) P p = tt
on_err (Err e) P p = p

-- Constraints that stay settled.
use Rattle.std.proofs.Common.{◌≡◌, ◌↔◌, ℕ, zero, suc, ◌+◌, ◌<◌, ◌⊎◌, inl, inr, refl, sym, subst, ap, ◌∙◌, arith, List, [], ◌∷◌, ◌++◌, length, get_or, set, replicate, Bool, true, false}
use Rattle.std.specs.Prelude.{ℤ}
use Rattle.std.proofs.Math.ListN.{get_or-append}
use Rattle.std.proofs.lemmas.List.{get_or-set_same, get_or-set_other, get_or_default, get_or_push, length-set, length_push}
use Rattle.std.proofs.lemmas.Bool.{cases_eq, false≢true}
use Rattle.ivl_laws.specs.Families.{set_at}
use Rattle.ivl_laws.proofs.SetLaws.{sums_are_monotone, differences_are_monotone}
use Rattle.ivl_store.specs.declared.store.constraint.Constraint.{Constraint}
use Rattle.ivl_store.specs.Solutions.{AreDistinct, Names, HasSolutionAt, Supports, LiesWithin}
use Rattle.ivl_store.specs.Narrowing.{Narrowed, IsFixed}
use Rattle.ivl_store.specs.declared.store.settled.Lost.{Lost}
use Rattle.ivl_store.specs.Settled.{any_lost, AreLost, AreSettled, AreCleared}
use Rattle.ivl_store.proofs.Families.{narrowing_keeps, narrowed_has_solution, has_solution_narrowed}
use Rattle.ivl_store.proofs.Places.{none_lost_at}
use Rattle.ivl_store.proofs.Rounds.{Narrowed-mono, none_lost}

-- narrowing by a constraint over three variables leaves what it supports
narrowed_supports : (c : Constraint) (before after : ℕ → ℤ → Type 0) → AreDistinct c
    → ((i : ℕ) (v : ℤ) → after i v ↔ Narrowed c before i v) → Supports c after
narrowed_supports c before after d n i names v h =
    let s : HasSolutionAt c before i v = narrowed_has_solution c before d i names v ((n i v).0 h) in
    let left = λ (j : ℕ) (w : Names c j). (n j (s.point j)).1 (has_solution_narrowed c before j w (s.point j) (record { point = s.point; solution = s.solution; at = refl })) in
    record {
      point = s.point;
      solution = record { in_x = left c.x (inl refl); in_y = left c.y (inr (inl refl)); in_z = left c.z (inr (inr refl)); sum = s.solution.sum };
      at = s.at;
    }

-- so a second narrowing by it changes nothing
pub narrowed_fixed : (c : Constraint) (before after : ℕ → ℤ → Type 0) → AreDistinct c
    → ((i : ℕ) (v : ℤ) → after i v ↔ Narrowed c before i v) → IsFixed after c
narrowed_fixed c before after d n = narrowing_keeps c after after (narrowed_supports c before after d n) (λ i v h. h)

-- nor does one that has lost nothing
pub unchanged_fixed : (c : Constraint) (before after : ℕ → ℤ → Type 0) → LiesWithin before after
    → ((i : ℕ) (v : ℤ) → after i v ↔ Narrowed c before i v) → IsFixed after c
unchanged_fixed c before after w n i v h = Narrowed-mono c before after w i v ((n i v).0 h)

-- narrowing by a constraint that changes nothing leaves the sets as they are
pub fixed_narrowed : (c : Constraint) (sets : ℕ → ℤ → Type 0) → IsFixed sets c → (i : ℕ) (v : ℤ) → sets i v ↔ Narrowed c sets i v
fixed_narrowed c sets f i v = (f i v, (λ n. n.kept))

-- a constraint stays fixed where only sets that it does not name lose members
fixed_elsewhere : (c : Constraint) (before after : ℕ → ℤ → Type 0) → LiesWithin after before
    → ((i : ℕ) → Names c i → (v : ℤ) → before i v → after i v) → IsFixed before c → IsFixed after c
fixed_elsewhere c before after w same f i v h =
    let n : Narrowed c before i v = f i v (w i v h) in
    record {
      kept = h;
      at_x = (λ e p q. differences_are_monotone _ _ _ _ (same c.z (inr (inr refl))) (same c.y (inr (inl refl))) v (n.at_x e p q));
      at_y = (λ e p. differences_are_monotone _ _ _ _ (same c.z (inr (inr refl))) (same c.x (inl refl)) v (n.at_y e p));
      at_z = (λ e. sums_are_monotone _ _ _ _ (same c.x (inl refl)) (same c.y (inr (inl refl))) v (n.at_z e));
    }

-- flags that are left, where no set that a settled constraint names has lost a member
pub settled_kept : (constraints : List Constraint) (flags flags' : List Bool) (before after : ℕ → ℤ → Type 0) → AreSettled constraints flags before
    → length flags' ≡ length flags → ((k : ℕ) → get_or flags' k false ≡ true → get_or flags k false ≡ true) → LiesWithin after before
    → ((k : ℕ) (d : Constraint) → k < length constraints → get_or flags' k false ≡ true → (i : ℕ) → Names (get_or constraints k d) i → (v : ℤ) → before i v → after i v)
    → AreSettled constraints flags' after
settled_kept constraints flags flags' before after s count cleared w same = record {
  one_each = count ∙ s.one_each;
  fixed = (λ k d lt m. fixed_elsewhere (get_or constraints k d) before after w (same k d lt m) (s.fixed k d lt (cleared k m)));
}

-- a flag that is set where it may be
pub settled_set : (constraints : List Constraint) (flags : List Bool) (sets : ℕ → ℤ → Type 0) (i : ℕ) (b : Bool) → AreSettled constraints flags sets
    → i < length constraints → (b ≡ true → (d : Constraint) → IsFixed sets (get_or constraints i d)) → AreSettled constraints (set flags i b) sets
settled_set constraints flags sets i b s lt f = record {
  one_each = length-set flags i b ∙ s.one_each;
  fixed = (λ k d h m. elim (cases_eq k i) [
    | inl e ↦ subst (λ j. IsFixed sets (get_or constraints j d)) (sym e)
        (f (sym (ap (λ j. get_or (set flags i b) j false) e ∙ get_or-set_same flags i b false (let q = s.one_each in omega arith)) ∙ m) d)
    | inr ne ↦ s.fixed k d h (sym (get_or-set_other flags i k b false ne) ∙ m)
  ]);
}

-- no flag in a list of cleared ones
replicate_false : (n k : ℕ) → get_or (replicate n false) k false ≡ true → ⊥
replicate_false zero k h = false≢true h
replicate_false (suc n) zero h = false≢true h
replicate_false (suc n) (suc k) h = replicate_false n k h

-- no constraint is settled at first
pub none_settled : (constraints : List Constraint) (flags : List Bool) (sets : ℕ → ℤ → Type 0) (n : ℕ) → flags ≡ replicate n false → length flags ≡ length constraints
    → AreSettled constraints flags sets
none_settled constraints flags sets n e count = record {
  one_each = count;
  fixed = (λ k d lt m. absurd (replicate_false n k (ap (λ l. get_or l k false) (sym e) ∙ m)));
}

-- the flags of the first k constraints are cleared where these name the variable
pub record ClearedSoFar (constraints : List Constraint) (variable : ℕ) (before after : List Bool) (k : ℕ) : Type 0 where
  pub same_count : length after ≡ length before
  pub only_cleared : (j : ℕ) → get_or after j false ≡ true → get_or before j false ≡ true
  pub apart : (j : ℕ) (d : Constraint) → j < k → get_or after j false ≡ true → Names (get_or constraints j d) variable → ⊥

-- before the first
pub none_cleared : (constraints : List Constraint) (variable : ℕ) (flags : List Bool) → ClearedSoFar constraints variable flags flags 0
none_cleared constraints variable flags = record { same_count = refl; only_cleared = (λ j m. m); apart = (λ j d lt m n. absurd (omega arith)) }

-- a flag that is cleared
pub clear_one : (constraints : List Constraint) (variable : ℕ) (before after : List Bool) (k : ℕ) → ClearedSoFar constraints variable before after k
    → k < length after → ClearedSoFar constraints variable before (set after k false) (k + 1)
clear_one constraints variable before after k so_far lt = record {
  same_count = length-set after k false ∙ so_far.same_count;
  only_cleared = (λ j m. so_far.only_cleared j (was j m));
  apart = (λ j d h m n. elim (cases_eq j k) [
    | inl e ↦ false≢true (sym (here j e) ∙ m)
    | inr ne ↦ so_far.apart j d (omega arith) (was j m) n
  ]);
}
  where
    here : (j : ℕ) → j ≡ k → get_or (set after k false) j false ≡ false
    here j e = ap (λ i. get_or (set after k false) i false) e ∙ get_or-set_same after k false false lt

    was : (j : ℕ) → get_or (set after k false) j false ≡ true → get_or after j false ≡ true
    was j m = elim (cases_eq j k) [
      | inl e ↦ absurd (false≢true (sym (here j e) ∙ m))
      | inr ne ↦ sym (get_or-set_other after k j false false ne) ∙ m
    ]

-- a flag that may stay
pub keep_one : (constraints : List Constraint) (variable : ℕ) (before after : List Bool) (k : ℕ) (e : Constraint) → ClearedSoFar constraints variable before after k
    → k < length constraints → (Names (get_or constraints k e) variable → ⊥) → ClearedSoFar constraints variable before after (k + 1)
keep_one constraints variable before after k e so_far lt apart = record {
  same_count = so_far.same_count;
  only_cleared = so_far.only_cleared;
  apart = (λ j d h m n. elim (cases_eq j k) [
    | inl f ↦ apart (subst (λ c. Names c variable) (ap (λ i. get_or constraints i d) f ∙ get_or_default constraints k d e lt) n)
    | inr ne ↦ so_far.apart j d (omega arith) m n
  ]);
}

-- what is not true
pub not_true : (b : Bool) → (b ≡ true → ⊥) → b ≡ false
not_true true n = absurd (n refl)
not_true false n = refl

-- where a settled constraint names the variable, the variable has not changed
unchanged_at : (constraints : List Constraint) (changed : Bool) (variable : ℕ) (before after : List Bool) → AreCleared changed constraints variable before after
    → (k : ℕ) (d : Constraint) → k < length constraints → get_or after k false ≡ true → (i : ℕ) → Names (get_or constraints k d) i → i ≡ variable → changed ≡ false
unchanged_at constraints changed variable before after a k d lt m i names e =
    not_true changed (λ t. a.apart t k d lt m (subst (Names (get_or constraints k d)) e names))

-- the flags once constraint i was narrowed by: those of others at variables that have changed are cleared, and its own is set where it may be
pub flags_moved : (constraints : List Constraint) (i : ℕ) (e : Constraint) (lost : Lost) (m0 m1 m2 m3 : List Bool) (own : Bool) → i < length constraints
    → AreCleared lost.x constraints (get_or constraints i e).x m0 m1 → AreCleared lost.y constraints (get_or constraints i e).y m1 m2
    → AreCleared lost.z constraints (get_or constraints i e).z m2 m3 → (own ≡ true → (any_lost lost ≡ false) ⊎ AreDistinct (get_or constraints i e))
    → (old new : List (List (ℤ × ℤ))) → ((d : Constraint) (j : ℕ) (v : ℤ) → set_at new j v ↔ Narrowed (get_or constraints i d) (set_at old) j v)
    → ((d : Constraint) → AreLost (get_or constraints i d) lost (set_at old) (set_at new))
    → AreSettled constraints m0 (set_at old) → AreSettled constraints (set m3 i own) (set_at new)
flags_moved constraints i e lost m0 m1 m2 m3 own lt ax ay az may old new n l s =
    settled_set constraints m3 (set_at new) i own
    (settled_kept constraints m0 m3 (set_at old) (set_at new) s (az.same_count ∙ ay.same_count ∙ ax.same_count) (λ k m. ax.only_cleared k (m1_of k m))
    (λ j v h. ((n e j v).0 h).kept)
    (λ k d h m j names v was. (l e).others j
    (unchanged_at constraints lost.x _ m0 m1 ax k d h (m1_of k m) j names)
    (unchanged_at constraints lost.y _ m1 m2 ay k d h (az.only_cleared k m) j names)
    (unchanged_at constraints lost.z _ m2 m3 az k d h m j names) v was))
    lt
    (λ t d. elim (may t) [
      | inl none ↦ unchanged_fixed (get_or constraints i d) (set_at old) (set_at new)
          (none_lost old new (λ lost_one. false≢true (sym none ∙ (l d).some.1 lost_one))) (n d)
      | inr distinct ↦ narrowed_fixed (get_or constraints i d) (set_at old) (set_at new)
          (subst AreDistinct (get_or_default constraints i e d lt) distinct) (n d)
    ])
  where
    m1_of : (k : ℕ) → get_or m3 k false ≡ true → get_or m1 k false ≡ true
    m1_of k m = ay.only_cleared k (az.only_cleared k m)

-- where nothing was lost, only the flag of constraint i may have changed
pub only_one_moved : (constraints : List Constraint) (c : Constraint) (lost : Lost) (m0 m1 m2 m3 : List Bool)
    → AreCleared lost.x constraints c.x m0 m1 → AreCleared lost.y constraints c.y m1 m2 → AreCleared lost.z constraints c.z m2 m3 → any_lost lost ≡ false → m3 ≡ m0
only_one_moved constraints c lost m0 m1 m2 m3 ax ay az none =
    let n = none_lost_at lost none in
    az.kept n.2 ∙ ay.kept n.1 ∙ ax.kept n.0

-- ---- from post to post

-- the flags once a domain was cut
pub settled_cut : (constraints : List Constraint) (flags flags' : List Bool) (i : ℕ) (lost : Bool) (old new : List (List (ℤ × ℤ)))
    → AreSettled constraints flags (set_at old) → AreCleared lost constraints i flags flags' → (lost ≡ false → new ≡ old)
    → LiesWithin (set_at new) (set_at old) → ((j : ℕ) (v : ℤ) → (j ≡ i → ⊥) → set_at old j v → set_at new j v) → AreSettled constraints flags' (set_at new)
settled_cut constraints flags flags' i lost old new s cleared same within apart =
    settled_kept constraints flags flags' (set_at old) (set_at new) s cleared.same_count cleared.only_cleared within
    (λ k d lt m j names v was. elim (cases_eq j i) [
      | inl e ↦ subst (λ sets. set_at sets j v) (sym (same (unchanged_at constraints lost i flags flags' cleared k d lt m j names e))) was
      | inr ne ↦ apart j v ne was
    ])

-- the flags with one more constraint, which is not settled
pub settled_push : (constraints constraints' : List Constraint) (flags flags' : List Bool) (c : Constraint) (sets : ℕ → ℤ → Type 0)
    → constraints' ≡ constraints ++ c ∷ [] → flags' ≡ flags ++ false ∷ [] → AreSettled constraints flags sets → AreSettled constraints' flags' sets
settled_push constraints constraints' flags flags' c sets e f s =
    subst (λ cs. AreSettled cs flags' sets) (sym e) (subst (λ ms. AreSettled (constraints ++ c ∷ []) ms sets) (sym f) (record {
      one_each = (let n = s.one_each in let a = length_push flags false in let b = length_push constraints c in omega arith);
      fixed = (λ k d lt m. let n = s.one_each in let b = length_push constraints c in elim (cases_eq k (length flags)) [
        | inl here ↦ absurd (false≢true (sym (get_or_push flags false false k (sym here)) ∙ m))
        | inr ne ↦ (let below : k < length constraints = omega arith in
            subst (IsFixed sets) (sym (get_or-append constraints (c ∷ []) d k below))
            (s.fixed k d below (sym (get_or-append flags (false ∷ []) false k (omega arith)) ∙ m)))
      ]);
    }))

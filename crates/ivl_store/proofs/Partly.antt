-- What a call that ran out of memory leaves.
use Rattle.std.proofs.Common.{◌≡◌, ◌↔◌, ◌∙◌, ℕ, zero, suc, ◌+◌, ◌<◌, ◌⊎◌, inl, inr, refl, sym, ap, subst, arith, List, [], ◌∷◌, ◌++◌, length, get_or, take, Bool}
use Rattle.std.specs.Prelude.{ℤ}
use Rattle.ivl_laws.specs.Families.{set_at}
use Rattle.ivl_store.specs.declared.store.constraint.Constraint.{Constraint}
use Rattle.ivl_store.specs.declared.store.post.Post.{Post}
use Rattle.ivl_store.specs.Rounds.{narrowed_by, rounds_of, IsPartlyNarrowedBy, IsPartlySettled}
use Rattle.ivl_store.specs.Posts.{constraints_of, AllAllow, CutBy, IsPartlyPosted}
use Rattle.ivl_store.proofs.Steps.{RoundsSoFar, LostMember-same, narrowed_by-mono, after_some}
use Rattle.ivl_store.proofs.Posting.{PostedSoFar, AllAllow-parts, AllAllow-append, left_none, next_post, next_constraints}

-- narrowed families have the same members where the families have
narrowed_same : (constraints : List Constraint) (s t : ℕ → ℤ → Type 0) → ((i : ℕ) (v : ℤ) → s i v ↔ t i v)
    → (i : ℕ) (v : ℤ) → narrowed_by constraints s i v ↔ narrowed_by constraints t i v
narrowed_same constraints s t same i v = (
  narrowed_by-mono constraints s t (λ j w. (same j w).0) i v,
  narrowed_by-mono constraints t s (λ j w. (same j w).1) i v,
)

-- and so after some rounds
rounds_same : (constraints : List Constraint) (k : ℕ) (s t : ℕ → ℤ → Type 0) → ((i : ℕ) (v : ℤ) → s i v ↔ t i v)
    → (i : ℕ) (v : ℤ) → rounds_of constraints k s i v ↔ rounds_of constraints k t i v
rounds_same constraints zero s t same = same
rounds_same constraints (suc k) s t same =
    rounds_same constraints k (narrowed_by constraints s) (narrowed_by constraints t) (narrowed_same constraints s t same)

-- what partly settles a family partly settles one with the same members
partly_same : (constraints : List Constraint) (s t after : ℕ → ℤ → Type 0) → ((i : ℕ) (v : ℤ) → s i v ↔ t i v)
    → IsPartlySettled constraints s after → IsPartlySettled constraints t after
partly_same constraints s t after same p = record {
  rounds = p.rounds;
  narrowings = p.narrowings;
  in_list = p.in_list;
  each_lost = (λ m lt. LostMember-same _ _ _ _ (rounds_same constraints m s t same) (rounds_same constraints (m + 1) s t same) (p.each_lost m lt));
  left = (λ i v.
      let n = narrowed_same (take p.narrowings constraints) (rounds_of constraints p.rounds s) (rounds_of constraints p.rounds t) (rounds_same constraints p.rounds s t same) i v in
      ((λ h. n.0 ((p.left i v).0 h)), (λ h. (p.left i v).1 (n.1 h))));
}

-- the rounds so far, and a part of one more
pub partly_settled : (constraints : List Constraint) (k : ℕ) (before mid after : ℕ → ℤ → Type 0) → RoundsSoFar constraints k before mid
    → IsPartlyNarrowedBy constraints mid after → IsPartlySettled constraints before after
partly_settled constraints k before mid after so_far n = record {
  rounds = k;
  narrowings = n.0;
  in_list = n.1;
  each_lost = so_far.each_lost;
  left = after_some constraints k n.0 before mid after so_far.steps n.2;
}

-- a cut and then a part of the narrowings
pub partly_taken : (constraints more : List Constraint) (cut mid after : ℕ → ℤ → Type 0) → more ≡ constraints → ((i : ℕ) (v : ℤ) → mid i v ↔ cut i v)
    → IsPartlySettled more mid after → IsPartlySettled constraints cut after
partly_taken constraints more cut mid after e same p =
    subst (λ cs. IsPartlySettled cs cut after) e (partly_same more mid cut after same p)

-- no post was taken
pub nothing_posted : {B O : Type 0} (posts : List (Post B O)) (old new : List (List (ℤ × ℤ))) → new ≡ old → IsPartlyPosted posts old new
nothing_posted posts old new e = record { done = 0; in_list = omega arith; family = old; left = left_none (take 0 posts) old refl; next = inl e }

-- the posts so far, and a part of what one more does
pub partly_posted : {B O : Type 0} (posts : List (Post B O)) (old mid new : List (List (ℤ × ℤ))) (constraints : List Constraint) (replies : List Bool) (k : ℕ) (p : Post B O)
    → k < length posts → p ≡ get_or posts k p → PostedSoFar posts old mid constraints replies k
    → (new ≡ mid) ⊎ IsPartlySettled (constraints ++ constraints_of (p ∷ [])) (CutBy (p ∷ []) (set_at mid)) (set_at new)
    → IsPartlyPosted posts old new
partly_posted posts old mid new constraints replies k p lt e so_far (inl same) =
    record { done = k; in_list = omega arith; family = mid; left = so_far.left; next = inl same }
partly_posted posts old mid new constraints replies k p lt e so_far (inr part) =
    let taken = next_post posts k p lt e in
    let all = next_constraints posts constraints k p lt e so_far.constraints_are ∙ ap constraints_of (sym taken) in
    let same : (i : ℕ) (v : ℤ) → CutBy (p ∷ []) (set_at mid) i v ↔ CutBy (take (k + 1) posts) (set_at mid) i v = (λ i v. (
      (λ h. (h.0, subst (λ ps. AllAllow ps i v) (sym taken) (AllAllow-append (take k posts) (p ∷ []) i v (so_far.left.within i v h.0).1 h.1))),
      (λ h. (h.0, (AllAllow-parts (take k posts) (p ∷ []) i v (subst (λ ps. AllAllow ps i v) taken h.1)).1)),
    )) in
    record {
      done = k;
      in_list = omega arith;
      family = mid;
      left = so_far.left;
      next = inr (lt, partly_taken (constraints_of (take (k + 1) posts)) (constraints ++ constraints_of (p ∷ [])) _ _ _ all same part);
    }

-- What a list of posts leaves does not depend on their order, nor what constraints leave on that of their list.
use Rattle.std.proofs.Common.{◌≡◌, ◌↔◌, ℕ, List, [], ◌∷◌}
use Rattle.std.specs.Prelude.{ℤ, All}
use Rattle.std.specs.List.Sorted.{IsPermutation}
use Rattle.std.proofs.lemmas.List.Elements.{All-nil, All-cons}
use Rattle.std.proofs.lemmas.List.Sorted.{All-permutation, IsPermutation-sym}
use Rattle.ivl_laws.specs.Runs.{Covers}
use Rattle.ivl_store.proofs.Lists.{All-rest, All-head}
use Rattle.ivl_store.specs.declared.store.constraint.Constraint.{Constraint}
use Rattle.ivl_store.specs.declared.store.post.Post.{Post}
use Rattle.ivl_store.specs.declared.store.post.Post.TheVariants.{Restrict, Require}
use Rattle.ivl_laws.specs.Families.{set_at}
use Rattle.ivl_store.specs.Solutions.{Supports, IsGreatestFamily}
use Rattle.ivl_store.specs.Posts.{constraints_of, OfConstraint, AllAllow, IsLeftBy}
use Rattle.ivl_store.proofs.Families.{greatest_unique}

-- what holds of the constraint of each post holds of each constraint among them
pub constraints_all : {B O : Type 0} (P : Constraint → Type 0) (posts : List (Post B O)) → All (OfConstraint P) posts → All P (constraints_of posts)
constraints_all P [] h = All-nil P
constraints_all P (Restrict i s ∷ posts) h = constraints_all P posts (All-rest (OfConstraint P) (Restrict i s) posts h)
constraints_all P (Require c ∷ posts) h =
    All-cons P c (constraints_of posts) (All-head (OfConstraint P) (Require c) posts h) (constraints_all P posts (All-rest (OfConstraint P) (Require c) posts h))

-- and the other way round
pub all_constraints : {B O : Type 0} (P : Constraint → Type 0) (posts : List (Post B O)) → All P (constraints_of posts) → All (OfConstraint P) posts
all_constraints P [] h = All-nil (OfConstraint P)
all_constraints P (Restrict i s ∷ posts) h = All-cons (OfConstraint P) (Restrict i s) posts tt (all_constraints P posts h)
all_constraints P (Require c ∷ posts) h =
    All-cons (OfConstraint P) (Require c) posts (All-head P c (constraints_of posts) h) (all_constraints P posts (All-rest P c (constraints_of posts) h))

-- the post's set has the number, if the post restricts the variable
abbrev Allows : {B O : Type 0} → ℕ → ℤ → Post B O → Type 0
Allows i v (Restrict j s) = i ≡ j → Covers s v
Allows i v (Require c) = Unit {0}

-- what all posts allow, each of them allows
allowed_by_each : {B O : Type 0} (posts : List (Post B O)) (i : ℕ) (v : ℤ) → AllAllow posts i v → All (Allows i v) posts
allowed_by_each [] i v h = All-nil (Allows i v)
allowed_by_each (Restrict j s ∷ posts) i v h = All-cons (Allows i v) (Restrict j s) posts h.0 (allowed_by_each posts i v h.1)
allowed_by_each (Require c ∷ posts) i v h = All-cons (Allows i v) (Require c) posts tt (allowed_by_each posts i v h)

-- and the other way round
each_allows : {B O : Type 0} (posts : List (Post B O)) (i : ℕ) (v : ℤ) → All (Allows i v) posts → AllAllow posts i v
each_allows [] i v h = tt
each_allows (Restrict j s ∷ posts) i v h = (All-head (Allows i v) (Restrict j s) posts h, each_allows posts i v (All-rest (Allows i v) (Restrict j s) posts h))
each_allows (Require c ∷ posts) i v h = each_allows posts i v (All-rest (Allows i v) (Require c) posts h)

-- a property of all constraints stays one in another order
constraints_moved : {B O : Type 0} (P : Constraint → Type 0) (posts others : List (Post B O)) → IsPermutation posts others → All P (constraints_of posts) → All P (constraints_of others)
constraints_moved P posts others p h = constraints_all P others (All-permutation (OfConstraint P) posts others p (all_constraints P posts h))

-- what all posts allow, they allow in another order
allowed_moved : {B O : Type 0} (posts others : List (Post B O)) → IsPermutation posts others → (i : ℕ) (v : ℤ) → AllAllow posts i v → AllAllow others i v
allowed_moved posts others p i v h = each_allows others i v (All-permutation (Allows i v) posts others p (allowed_by_each posts i v h))

-- what the posts leave, they leave in another order
pub left_ordered : {B O : Type 0} (posts others : List (Post B O)) → IsPermutation posts others
    → (old family : List (List (ℤ × ℤ))) → IsLeftBy posts (set_at old) (set_at family) → IsLeftBy others (set_at old) (set_at family)
left_ordered posts others p old family g =
    let q = IsPermutation-sym posts others p in
    record {
      within = (λ i v h. let u = g.within i v h in (u.0, allowed_moved posts others p i v u.1));
      supported = constraints_moved (λ c. Supports c (set_at family)) posts others p g.supported;
      greatest = (λ other w s. g.greatest other
          (λ i v h. let u = w i v h in (u.0, allowed_moved others posts q i v u.1))
          (constraints_moved (λ c. Supports c (set_at other)) others posts q s));
    }

-- the greatest families for a list of constraints, and for it in another order, have the same members
pub greatest_ordered : (constraints others : List Constraint) → IsPermutation constraints others → (old first second : List (List (ℤ × ℤ)))
    → IsGreatestFamily constraints (set_at old) (set_at first) → IsGreatestFamily others (set_at old) (set_at second)
    → (i : ℕ) (v : ℤ) → set_at first i v ↔ set_at second i v
greatest_ordered constraints others p old first second g h =
    let q = IsPermutation-sym constraints others p in
    greatest_unique others (set_at old) first second (record {
      within = g.within;
      supported = All-permutation (λ c. Supports c (set_at first)) constraints others p g.supported;
      greatest = (λ other w s. g.greatest other w (All-permutation (λ c. Supports c (set_at other)) others constraints q s));
    }) h

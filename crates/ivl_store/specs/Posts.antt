-- What a list of posts asks of the domains.
--     constraints_of posts      the constraints among the posts, in their order
--     OfConstraint P post      P holds of the post's constraint, if it has one
--     AllAllow posts i v      the sets of all posts on variable i have the number
--     CutBy posts sets      the family cut by the sets of all posts
--     IsLeftBy posts given family      the greatest family that the constraints among the posts support, within the
--         given one cut by their sets
--     HasEmpty count sets      one of the first `count` sets is empty
--     empty_count sets      how many sets are empty
--     AnswersPosts posts old replies      one reply per post: whether what the posts up to it leave has an empty set
--     IsKnown count post      the post names only variables below the count
--     unknown_in count post, first_unknown_post count posts      the first index that is not below it, in list order; `None` if there is none
--     CutKeeps cs posts old new      the new sets only lack members, and none of a supported family within the cut
--     IsPartlyPosted posts old new      some first posts leave these sets; or they leave others, and these are left
--         of those by the cut of the next post and a part of the rounds after it (`IsPartlySettled`)
use Rattle.std.specs.Prelude.{◌≡◌, ◌<◌, ◌≤◌, ◌+◌, ◌↔◌, ◌⊎◌, ℕ, ℤ, Bool, true, false, IsTrue, List, [], ◌∷◌, length, take, slice_index_or, Option, Some, None, nat_le, if◌then◌else◌}
use Rattle.std.specs.List.{count_by}
use Rattle.std.specs.Option.{option_or}
use Rattle.ivl_laws.specs.Runs.{Covers}
use Rattle.ivl_laws.specs.Families.{set_at}
use Rattle.ivl_store.specs.declared.store.constraint.Constraint.{Constraint}
use Rattle.ivl_store.specs.declared.store.post.Post.{Post}
use Rattle.ivl_store.specs.declared.store.post.Post.TheVariants.{Restrict, Require}
use Rattle.ivl_store.specs.Solutions.{IsGreatestFamily, LiesWithin, SupportedBy}
use Rattle.ivl_store.specs.Narrowing.{AllPresent, first_unknown}
use Rattle.ivl_store.specs.Rounds.{IsPartlySettled}

abbrev pub constraints_of : {B O : Type 0} → List (Post B O) → List Constraint
constraints_of [] = []
constraints_of (Restrict i s ∷ posts) = constraints_of posts
constraints_of (Require c ∷ posts) = c ∷ constraints_of posts

abbrev pub OfConstraint : {B O : Type 0} → (Constraint → Type 0) → Post B O → Type 0
OfConstraint P (Restrict i s) = Unit {0}
OfConstraint P (Require c) = P c

abbrev pub AllAllow : {B O : Type 0} → List (Post B O) → ℕ → ℤ → Type 0
AllAllow [] i v = Unit {0}
AllAllow (Restrict j s ∷ posts) i v = (i ≡ j → Covers s v) × AllAllow posts i v
AllAllow (Require c ∷ posts) i v = AllAllow posts i v

abbrev pub CutBy : {B O : Type 0} → List (Post B O) → (ℕ → ℤ → Type 0) → ℕ → ℤ → Type 0
CutBy posts sets i v = sets i v × AllAllow posts i v

abbrev pub IsLeftBy : {B O : Type 0} → List (Post B O) → (ℕ → ℤ → Type 0) → (ℕ → ℤ → Type 0) → Type 0
IsLeftBy posts given family = IsGreatestFamily (constraints_of posts) (CutBy posts given) family

pub record HasEmpty (count : ℕ) (sets : ℕ → ℤ → Type 0) : Type 0 where
  pub variable : ℕ
  pub known : variable < count
  pub empty : (v : ℤ) → ¬ (sets variable v)

abbrev pub has_no_run : List (ℤ × ℤ) → Bool
has_no_run [] = true
has_no_run (run ∷ runs) = false

abbrev pub empty_count : List (List (ℤ × ℤ)) → ℕ
empty_count sets = count_by has_no_run sets

pub record AnswersPost {B O : Type 0} (posts : List (Post B O)) (old : List (List (ℤ × ℤ))) (reply : Bool) : Type 0 where
  pub family : List (List (ℤ × ℤ))
  pub left : IsLeftBy posts (set_at old) (set_at family)
  pub reply_is : IsTrue reply ↔ HasEmpty (length old) (set_at family)

pub record AnswersPosts {B O : Type 0} (posts : List (Post B O)) (old : List (List (ℤ × ℤ))) (replies : List Bool) : Type 0 where
  pub one_each : length replies ≡ length posts
  pub each : (k : ℕ) → k < length posts → AnswersPost (take (k + 1) posts) old (slice_index_or replies k false)

abbrev pub IsKnown : {B O : Type 0} → ℕ → Post B O → Type 0
IsKnown count (Restrict i s) = i < count
IsKnown count (Require c) = AllPresent count c

abbrev pub unknown_in : {B O : Type 0} → ℕ → Post B O → Option ℕ
unknown_in count (Restrict i s) = if nat_le count i then Some i else None
unknown_in count (Require c) = first_unknown count c

abbrev pub first_unknown_post : {B O : Type 0} → ℕ → List (Post B O) → Option ℕ
first_unknown_post count [] = None
first_unknown_post count (post ∷ posts) = option_or (unknown_in count post) (first_unknown_post count posts)

pub record CutKeeps {B O : Type 0} (constraints : List Constraint) (posts : List (Post B O)) (old new : List (List (ℤ × ℤ))) : Type 0 where
  pub within : LiesWithin (set_at new) (set_at old)
  pub families : (family : List (List (ℤ × ℤ))) → SupportedBy constraints (set_at family) → LiesWithin (set_at family) (CutBy posts (set_at old)) → LiesWithin (set_at family) (set_at new)

pub record IsPartlyPosted {B O : Type 0} (posts : List (Post B O)) (old new : List (List (ℤ × ℤ))) : Type 0 where
  pub done : ℕ
  pub in_list : done ≤ length posts
  pub family : List (List (ℤ × ℤ))
  pub left : IsLeftBy (take done posts) (set_at old) (set_at family)
  pub next : (new ≡ family) ⊎ ((done < length posts) × IsPartlySettled (constraints_of (take (done + 1) posts)) (CutBy (take (done + 1) posts) (set_at family)) (set_at new))

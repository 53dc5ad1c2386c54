-- What a search finds at domains.
--     AreSingle sets      each set has one member
--     IsOnlyPoint sets point      each set has the point's number, and no other
--     AreFilled sets      each set has a member
--     IsCut value wanted whole sets variable cut      no set is empty, and that of the variable is cut at one of its members, than which another is worse
--     IsNodeOf value wanted whole sets node      some set is empty at a dead node, and none where narrowing is not done; each is single at a leaf; an open one is cut
use Rattle.std.specs.Prelude.{◌≡◌, ◌<◌, ℕ, ℤ, List, length}
use Rattle.ivl_laws.specs.Families.{set_at}
use Rattle.ivl_laws.specs.Sets.{HasSome, IsBetween, Only, SameMembers}
use Rattle.ivl_store.specs.Posts.{HasEmpty}
use Rattle.ivl_search.specs.Best.{IsBetter}
use Rattle.ivl_search.specs.declared.search.choice.Wanted.{Wanted}
use Rattle.ivl_search.specs.declared.search.choice.Node.{Node}
use Rattle.ivl_search.specs.declared.search.choice.Node.TheVariants.{Unsettled, Dead, Leaf, Open}
use Rattle.ivl_search.specs.Points.{coordinate}

abbrev pub AreSingle : List (List (ℤ × ℤ)) → Type 0
AreSingle sets = (i : ℕ) → i < length sets → (x : ℤ) × SameMembers (set_at sets i) (Only x)

pub record IsOnlyPoint (sets : List (List (ℤ × ℤ))) (point : List ℤ) : Type 0 where
  pub one_each : length point ≡ length sets
  pub only : (i : ℕ) → i < length sets → SameMembers (set_at sets i) (Only (coordinate point i))

abbrev pub AreFilled : List (List (ℤ × ℤ)) → Type 0
AreFilled sets = (i : ℕ) → i < length sets → HasSome (set_at sets i)

pub record IsCut {B : Type 0} (value : B → ℤ) (wanted : Wanted) (whole : ℤ × ℤ) (sets : List (List (ℤ × ℤ))) (variable : ℕ) (cut : B) : Type 0 where
  pub filled : AreFilled sets
  pub known : variable < length sets
  pub in_range : IsBetween whole (value cut)
  pub member : set_at sets variable (value cut)
  pub worse : HasSome (λ v. set_at sets variable v × IsBetter wanted v (value cut))

abbrev pub IsNodeOf : {B : Type 0} → (B → ℤ) → Wanted → ℤ × ℤ → List (List (ℤ × ℤ)) → Node B → Type 0
IsNodeOf value wanted whole sets Unsettled = AreFilled sets
IsNodeOf value wanted whole sets Dead = HasEmpty (length sets) (set_at sets)
IsNodeOf value wanted whole sets Leaf = AreSingle sets
IsNodeOf value wanted whole sets (Open variable cut) = IsCut value wanted whole sets variable cut

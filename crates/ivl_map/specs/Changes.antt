-- What a change by a function leaves: the values that it gives at some numbers, and all others as they were.
--     WrittenPast eq p x q y F      the map with x at the numbers of p that are not in q, and y at those that are; none of p has a value before
--     WrittenPair eq p x q y m F      the map with x at the numbers of p below q, y at those of q below p, and m at those of both; none of p and q has a value before
--     IsMergeOf eq Gives E D M      M has at each number of both E and D what Gives says of the two values, and at the others what one of the two has
--     IsUpdated eq Gives S E D      D has at each number of S that has a value in E what Gives says of this one, and else what E has
--     NeedsRoom eq E e      the write of e to E may need room: its interval has a number, no entry lies within it, and no number of it, or next to it, has an equal value
use Rattle.std.specs.Prelude.{◌≡◌, ◌⊎◌, ◌↔◌, ℤ, ◌≤ℤ◌, ◌<ℤ◌, Bool, true, List}
use Rattle.ivl_laws.specs.Counts.{IsIn}
use Rattle.ivl_laws.specs.Sets.{HasSome, IsBetween}
use Rattle.ivl_places.specs.Edits.{widened}
use Rattle.ivl_map.specs.Entries.{HasAt, HasValue, IsEntryList}
use Rattle.ivl_map.specs.Lookups.{IsStoredAt}

-- x written at the numbers of p, and of these y at the numbers of q
abbrev pub WrittenPast : {V : Type 0} → (V → V → Bool) → ℤ × ℤ → V → ℤ × ℤ → V → (ℤ → V → Type 0) → ℤ → V → Type 0
WrittenPast eq p x q y F z v = (IsBetween p z × (¬ (IsBetween q z)) × (eq x v ≡ true)) ⊎ ((IsBetween p z × IsBetween q z × (eq y v ≡ true)) ⊎ F z v)

pub record IsUpdated {V : Type 0} (eq : V → V → Bool) (Gives : V → V → Type 0) (S : ℤ → Type 0) (E D : List ((ℤ × ℤ) × V)) : Type 0 where
  pub maximal : IsEntryList eq D
  pub others : (z : ℤ) (v : V) → ¬ (S z) → HasAt eq D z v ↔ HasAt eq E z v
  pub changed : (z : ℤ) (v : V) → S z → IsStoredAt E z v → (w : V) × Gives v w × HasAt eq D z w
  pub no_more : (z : ℤ) → HasValue (HasAt eq D) z → HasValue (HasAt eq E) z

-- x written at the numbers of p below those of q, y at those of q below those of p, and m at the numbers of both
abbrev pub WrittenPair : {V : Type 0} → (V → V → Bool) → ℤ × ℤ → V → ℤ × ℤ → V → V → (ℤ → V → Type 0) → ℤ → V → Type 0
WrittenPair eq p x q y m F z v = (IsBetween p z × (z <ℤ q.0) × (eq x v ≡ true)) ⊎ ((IsBetween q z × (z <ℤ p.0) × (eq y v ≡ true)) ⊎ ((IsBetween p z × IsBetween q z × (eq m v ≡ true)) ⊎ F z v))

pub record IsMergeOf {V : Type 0} (eq : V → V → Bool) (Gives : V → V → V → Type 0) (E D M : List ((ℤ × ℤ) × V)) : Type 0 where
  pub maximal : IsEntryList eq M
  pub both : (z : ℤ) (v w : V) → IsStoredAt E z v → IsStoredAt D z w → (x : V) × Gives v w x × HasAt eq M z x
  pub first_alone : (z : ℤ) (v : V) → ¬ (HasValue (HasAt eq D) z) → HasAt eq M z v ↔ HasAt eq E z v
  pub second_alone : (z : ℤ) (v : V) → ¬ (HasValue (HasAt eq E) z) → HasAt eq M z v ↔ HasAt eq D z v

pub record NeedsRoom {V : Type 0} (eq : V → V → Bool) (E : List ((ℤ × ℤ) × V)) (e : (ℤ × ℤ) × V) : Type 0 where
  pub filled : HasSome (IsBetween e.0)
  pub replaces_none : (f : (ℤ × ℤ) × V) → IsIn E f → e.0.0 ≤ℤ f.0.0 → ¬ (f.0.1 ≤ℤ e.0.1)
  pub grows_none : (z : ℤ) → IsBetween (widened e.0) z → ¬ (HasAt eq E z e.1)

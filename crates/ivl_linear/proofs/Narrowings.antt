-- What all layers above need of a narrowing, from its relation alone: the sum is not looked at.
use Rattle.std.proofs.Common.{◌↔◌, ℕ, refl, subst}
use Rattle.std.specs.Prelude.{ℤ, List}
use Rattle.ivl_linear.specs.declared.linear.Relation.{Relation}
use Rattle.ivl_linear.specs.declared.linear.Term.{Term}
use Rattle.ivl_linear.specs.Linear.{LinearNames, IsLinearPoint, HasLinearPointAt, LinearSupportsAll, NarrowedByLinear}

-- a point stays one where only sets that the rule does not name lose members
IsLinearPoint-at : (terms : List Term) (relation : Relation) (s t : ℕ → ℤ → Type 0) (point : ℕ → ℤ) → ((i : ℕ) → LinearNames terms relation i → s i (point i) → t i (point i)) → IsLinearPoint terms relation s point → IsLinearPoint terms relation t point
IsLinearPoint-at terms relation s t point w p = record { inside = (λ i n. w i n (p.inside i n)); satisfies = p.satisfies }

pub HasLinearPointAt-mono : (terms : List Term) (relation : Relation) (inner outer : ℕ → ℤ → Type 0) → ((i : ℕ) → LinearNames terms relation i → (v : ℤ) → inner i v → outer i v) → (i : ℕ) (v : ℤ)
    → HasLinearPointAt terms relation inner i v → HasLinearPointAt terms relation outer i v
HasLinearPointAt-mono terms relation inner outer w i v h = record { point = h.point; is_point = IsLinearPoint-at terms relation inner outer h.point (λ j n. w j n (h.point j)) h.is_point; at = h.at }

-- a larger family narrows to a larger one
pub NarrowedByLinear-mono : (terms : List Term) (relation : Relation) (inner outer : ℕ → ℤ → Type 0) → ((i : ℕ) (v : ℤ) → inner i v → outer i v)
    → (i : ℕ) (v : ℤ) → NarrowedByLinear terms relation inner i v → NarrowedByLinear terms relation outer i v
NarrowedByLinear-mono terms relation inner outer w i v n = record { kept = w i v n.kept; supported = (λ named. HasLinearPointAt-mono terms relation inner outer (λ j _. w j) i v (n.supported named)) }

-- narrowing loses no member of a supported family
pub narrowing_keeps : (terms : List Term) (relation : Relation) (family given : ℕ → ℤ → Type 0) → LinearSupportsAll terms relation family → ((i : ℕ) (v : ℤ) → family i v → given i v)
    → (i : ℕ) (v : ℤ) → family i v → NarrowedByLinear terms relation given i v
narrowing_keeps terms relation family given s w i v h = record { kept = w i v h; supported = (λ named. HasLinearPointAt-mono terms relation family given (λ j _. w j) i v (s i named v h)) }

-- a point of the old sets is one of what is left
pub point_kept : (terms : List Term) (relation : Relation) (old new : ℕ → ℤ → Type 0) → ((i : ℕ) (v : ℤ) → new i v ↔ NarrowedByLinear terms relation old i v) → (point : ℕ → ℤ)
    → IsLinearPoint terms relation old point → IsLinearPoint terms relation new point
point_kept terms relation old new n point p =
    IsLinearPoint-at terms relation old new point (λ i named h. (n i (point i)).1 (record { kept = h; supported = (λ _. record { point = point; is_point = p; at = refl }) })) p

-- what is left is supported
pub narrowed_supports : (terms : List Term) (relation : Relation) (old new : ℕ → ℤ → Type 0) → ((i : ℕ) (v : ℤ) → new i v ↔ NarrowedByLinear terms relation old i v) → LinearSupportsAll terms relation new
narrowed_supports terms relation old new n i named v h =
    let s : HasLinearPointAt terms relation old i v = ((n i v).0 h).supported named in
    record { point = s.point; is_point = point_kept terms relation old new n s.point s.is_point; at = s.at }

-- so a second narrowing changes nothing
pub narrowed_fixed : (terms : List Term) (relation : Relation) (old new : ℕ → ℤ → Type 0) → ((i : ℕ) (v : ℤ) → new i v ↔ NarrowedByLinear terms relation old i v)
    → (i : ℕ) (v : ℤ) → new i v → NarrowedByLinear terms relation new i v
narrowed_fixed terms relation old new n = narrowing_keeps terms relation new new (narrowed_supports terms relation old new n) (λ i v h. h)

-- nor where only sets that the rule does not name lose members
pub fixed_elsewhere : (terms : List Term) (relation : Relation) (before after : ℕ → ℤ → Type 0) → ((i : ℕ) (v : ℤ) → after i v → before i v)
    → ((i : ℕ) → LinearNames terms relation i → (v : ℤ) → before i v → after i v) → ((i : ℕ) (v : ℤ) → before i v → NarrowedByLinear terms relation before i v)
    → (i : ℕ) (v : ℤ) → after i v → NarrowedByLinear terms relation after i v
fixed_elsewhere terms relation before after w same f i v h = record { kept = h; supported = (λ named. HasLinearPointAt-mono terms relation before after same i v ((f i v (w i v h)).supported named)) }

-- for a named variable, just the members of points are left
pub points_left : (terms : List Term) (relation : Relation) (old new : ℕ → ℤ → Type 0) → ((i : ℕ) (v : ℤ) → new i v ↔ NarrowedByLinear terms relation old i v)
    → (i : ℕ) → LinearNames terms relation i → (v : ℤ) → new i v ↔ HasLinearPointAt terms relation old i v
points_left terms relation old new n i named v = (
  λ h. ((n i v).0 h).supported named,
  λ s. (n i v).1 (record { kept = subst (old i) s.at (s.is_point.inside i named); supported = (λ _. s) }),
)

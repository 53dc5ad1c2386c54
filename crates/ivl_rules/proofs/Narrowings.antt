-- What all layers above need of a narrowing, from its relation alone: no case of a rule is looked at.
use Rattle.std.proofs.Common.{◌↔◌, ℕ, ◌⊎◌, inl, inr, refl, subst}
use Rattle.std.specs.Prelude.{ℤ}
use Rattle.ivl_store.specs.Solutions.{LiesWithin}
use Rattle.ivl_rules.specs.declared.rules.Rule.{Rule}
use Rattle.ivl_rules.specs.Rules.{NamesOf, IsPointOf, HasPointAt, SupportsAll, NarrowedBy}

-- a point stays one where only sets that the rule does not name lose members
IsPointOf-at : (rule : Rule) (s t : ℕ → ℤ → Type 0) (point : ℕ → ℤ) → ((i : ℕ) → NamesOf rule i → s i (point i) → t i (point i)) → IsPointOf rule s point → IsPointOf rule t point
IsPointOf-at rule s t point w p = record { inside = (λ i n. w i n (p.inside i n)); satisfies = p.satisfies }

pub HasPointAt-mono : (rule : Rule) (inner outer : ℕ → ℤ → Type 0) → ((i : ℕ) → NamesOf rule i → (v : ℤ) → inner i v → outer i v) → (i : ℕ) (v : ℤ)
    → HasPointAt rule inner i v → HasPointAt rule outer i v
HasPointAt-mono rule inner outer w i v h = record { point = h.point; is_point = IsPointOf-at rule inner outer h.point (λ j n. w j n (h.point j)) h.is_point; at = h.at }

-- a larger family narrows to a larger one
pub NarrowedBy-mono : (rule : Rule) (inner outer : ℕ → ℤ → Type 0) → LiesWithin inner outer → LiesWithin (NarrowedBy rule inner) (NarrowedBy rule outer)
NarrowedBy-mono rule inner outer w i v n = record { kept = w i v n.kept; supported = (λ named. HasPointAt-mono rule inner outer (λ j _. w j) i v (n.supported named)) }

-- narrowing loses no member of a supported family
pub narrowing_keeps : (rule : Rule) (family given : ℕ → ℤ → Type 0) → SupportsAll rule family → LiesWithin family given → LiesWithin family (NarrowedBy rule given)
narrowing_keeps rule family given s w i v h = record { kept = w i v h; supported = (λ named. HasPointAt-mono rule family given (λ j _. w j) i v (s i named v h)) }

-- a family that narrowing does not change is supported
pub unchanged_supported : (rule : Rule) (sets : ℕ → ℤ → Type 0) → LiesWithin sets (NarrowedBy rule sets) → SupportsAll rule sets
unchanged_supported rule sets same i named v h = (same i v h).supported named

-- a point of the old sets is one of what is left
pub point_kept : (rule : Rule) (old new : ℕ → ℤ → Type 0) → ((i : ℕ) (v : ℤ) → new i v ↔ NarrowedBy rule old i v) → (point : ℕ → ℤ)
    → IsPointOf rule old point → IsPointOf rule new point
point_kept rule old new n point p =
    IsPointOf-at rule old new point (λ i named h. (n i (point i)).1 (record { kept = h; supported = (λ _. record { point = point; is_point = p; at = refl }) })) p

-- what is left is supported
pub narrowed_supports : (rule : Rule) (old new : ℕ → ℤ → Type 0) → ((i : ℕ) (v : ℤ) → new i v ↔ NarrowedBy rule old i v) → SupportsAll rule new
narrowed_supports rule old new n i named v h =
    let s : HasPointAt rule old i v = ((n i v).0 h).supported named in
    record { point = s.point; is_point = point_kept rule old new n s.point s.is_point; at = s.at }

-- so a second narrowing changes nothing
pub narrowed_fixed : (rule : Rule) (old new : ℕ → ℤ → Type 0) → ((i : ℕ) (v : ℤ) → new i v ↔ NarrowedBy rule old i v) → LiesWithin new (NarrowedBy rule new)
narrowed_fixed rule old new n = narrowing_keeps rule new new (narrowed_supports rule old new n) (λ i v h. h)

-- nor where only sets that the rule does not name lose members
pub fixed_elsewhere : (rule : Rule) (before after : ℕ → ℤ → Type 0) → LiesWithin after before
    → ((i : ℕ) → NamesOf rule i → (v : ℤ) → before i v → after i v) → LiesWithin before (NarrowedBy rule before) → LiesWithin after (NarrowedBy rule after)
fixed_elsewhere rule before after w same f i v h = record { kept = h; supported = (λ named. HasPointAt-mono rule before after same i v ((f i v (w i v h)).supported named)) }

-- for a named variable, just the members of points are left
pub points_left : (rule : Rule) (old new : ℕ → ℤ → Type 0) → ((i : ℕ) (v : ℤ) → new i v ↔ NarrowedBy rule old i v)
    → (i : ℕ) → NamesOf rule i → (v : ℤ) → new i v ↔ HasPointAt rule old i v
points_left rule old new n i named v = (
  λ h. ((n i v).0 h).supported named,
  λ s. (n i v).1 (record { kept = subst (old i) s.at (s.is_point.inside i named); supported = (λ _. s) }),
)

-- domain by domain, the union of two supported families is supported
pub union_supports : (rule : Rule) (first second : ℕ → ℤ → Type 0) → SupportsAll rule first → SupportsAll rule second → SupportsAll rule (λ i v. first i v ⊎ second i v)
union_supports rule first second s t i named v (inl h) = HasPointAt-mono rule first _ (λ j _ w k. inl k) i v (s i named v h)
union_supports rule first second s t i named v (inr h) = HasPointAt-mono rule second _ (λ j _ w k. inr k) i v (t i named v h)

-- Linear rules between variables. A rule is a list of terms, each a coefficient and a variable, and what it says of their sum.
--     sum_at terms point      the sum of the terms: each coefficient times the number of its variable
--     HasTermOf terms i      some term is of variable i
--     term_at terms k      term k
--     AreOfDifferent terms      no two terms are of one variable
--     weight terms      the sum of the sizes of the coefficients
--     HasTermsBelow count terms      the variable of each term is below the count
--     unknown_term count terms      the first variable of a term that is not below the count; `None` if all are
--     LinearNames terms relation i      a term is of variable i, or the rule tells by it whether the sum is within a bound
--     NamesEachOnce terms relation      each variable is named once
--     NamesBelow count terms relation      each variable that is named is below the count
--     unknown_named count terms relation      the first variable that is named and not below the count, those of the terms before the telling one
--     SatisfiesLinear terms relation point      the sum of the terms at the point is as the rule says
--     IsInside terms sets point      the numbers of the point are members of the variables' sets
--     IsLinearPoint terms relation sets point      the point satisfies the rule, and its numbers are members of the named variables' sets
--     HasLinearPointAt terms relation sets i v      some such point gives variable i the number v
--     LinearSupportsAll terms relation sets      each member of the sets that the rule names stands in such a point
--     NarrowedByLinear terms relation sets i v      the family narrowed by a rule: a variable that it names keeps the members that stand in such a point
--     TakesOnlyOne terms relation sets i v      narrowing the sets by the rule takes one number: v, a member of variable i, which the rule names
use Rattle.std.specs.Prelude.{◌≡◌, ◌≢◌, ◌↔◌, ◌⊎◌, ℕ, ◌+◌, ◌<◌, ℤ, pos, ◌+ℤ◌, ◌*ℤ◌, ◌≤ℤ◌, ◌<ℤ◌, List, [], ◌∷◌, All, Option, Some, None, slice_index_or, unsigned_abs, nat_le, if◌then◌else◌}
use Rattle.std.specs.Option.{option_or}
use Rattle.ivl_linear.specs.declared.linear.Term.{Term}
use Rattle.ivl_linear.specs.declared.linear.Relation.{Relation}
use Rattle.ivl_linear.specs.declared.linear.Relation.TheVariants.{AtMost, AtLeast, Differs, Tells}

abbrev pub sum_at : List Term → (ℕ → ℤ) → ℤ
sum_at [] point = pos 0
sum_at (t ∷ rest) point = (t.coefficient *ℤ point t.variable) +ℤ sum_at rest point

abbrev pub HasTermOf : List Term → ℕ → Type 0
HasTermOf [] i = ⊥
HasTermOf (t ∷ rest) i = (i ≡ t.variable) ⊎ HasTermOf rest i

abbrev pub term_at : List Term → ℕ → Term
term_at terms k = slice_index_or terms k (record { coefficient = pos 0; variable = 0 })

abbrev pub AreOfDifferent : List Term → Type 0
AreOfDifferent [] = Unit {0}
AreOfDifferent (t ∷ rest) = (¬ (HasTermOf rest t.variable)) × AreOfDifferent rest

abbrev pub weight : List Term → ℕ
weight [] = 0
weight (t ∷ rest) = unsigned_abs t.coefficient + weight rest

abbrev pub HasTermsBelow : ℕ → List Term → Type 0
HasTermsBelow count terms = All (λ t. t.variable < count) terms

abbrev pub unknown_term : ℕ → List Term → Option ℕ
unknown_term count [] = None
unknown_term count (t ∷ rest) = if nat_le count t.variable then Some t.variable else unknown_term count rest

abbrev pub LinearNames : List Term → Relation → ℕ → Type 0
LinearNames terms (AtMost bound) i = HasTermOf terms i
LinearNames terms (AtLeast bound) i = HasTermOf terms i
LinearNames terms (Differs number) i = HasTermOf terms i
LinearNames terms (Tells variable bound) i = (i ≡ variable) ⊎ HasTermOf terms i

abbrev pub NamesEachOnce : List Term → Relation → Type 0
NamesEachOnce terms (AtMost bound) = AreOfDifferent terms
NamesEachOnce terms (AtLeast bound) = AreOfDifferent terms
NamesEachOnce terms (Differs number) = AreOfDifferent terms
NamesEachOnce terms (Tells variable bound) = AreOfDifferent terms × (¬ (HasTermOf terms variable))

abbrev pub NamesBelow : ℕ → List Term → Relation → Type 0
NamesBelow count terms (AtMost bound) = HasTermsBelow count terms
NamesBelow count terms (AtLeast bound) = HasTermsBelow count terms
NamesBelow count terms (Differs number) = HasTermsBelow count terms
NamesBelow count terms (Tells variable bound) = HasTermsBelow count terms × (variable < count)

abbrev pub unknown_named : ℕ → List Term → Relation → Option ℕ
unknown_named count terms (AtMost bound) = unknown_term count terms
unknown_named count terms (AtLeast bound) = unknown_term count terms
unknown_named count terms (Differs number) = unknown_term count terms
unknown_named count terms (Tells variable bound) = option_or (unknown_term count terms) (if nat_le count variable then Some variable else None)

abbrev pub SatisfiesLinear : List Term → Relation → (ℕ → ℤ) → Type 0
SatisfiesLinear terms (AtMost bound) point = sum_at terms point ≤ℤ bound
SatisfiesLinear terms (AtLeast bound) point = bound ≤ℤ sum_at terms point
SatisfiesLinear terms (Differs number) point = sum_at terms point ≢ number
SatisfiesLinear terms (Tells variable bound) point = ((point variable ≡ pos 1) × (sum_at terms point ≤ℤ bound)) ⊎ ((point variable ≡ pos 0) × (bound <ℤ sum_at terms point))

abbrev pub IsInside : List Term → (ℕ → ℤ → Type 0) → (ℕ → ℤ) → Type 0
IsInside terms sets point = (i : ℕ) → HasTermOf terms i → sets i (point i)

pub record IsLinearPoint (terms : List Term) (relation : Relation) (sets : ℕ → ℤ → Type 0) (point : ℕ → ℤ) : Type 0 where
  pub inside : (i : ℕ) → LinearNames terms relation i → sets i (point i)
  pub satisfies : SatisfiesLinear terms relation point

pub record HasLinearPointAt (terms : List Term) (relation : Relation) (sets : ℕ → ℤ → Type 0) (i : ℕ) (v : ℤ) : Type 0 where
  pub point : ℕ → ℤ
  pub is_point : IsLinearPoint terms relation sets point
  pub at : point i ≡ v

abbrev pub LinearSupportsAll : List Term → Relation → (ℕ → ℤ → Type 0) → Type 0
LinearSupportsAll terms relation sets = (i : ℕ) → LinearNames terms relation i → (v : ℤ) → sets i v → HasLinearPointAt terms relation sets i v

pub record NarrowedByLinear (terms : List Term) (relation : Relation) (sets : ℕ → ℤ → Type 0) (i : ℕ) (v : ℤ) : Type 0 where
  pub kept : sets i v
  pub supported : LinearNames terms relation i → HasLinearPointAt terms relation sets i v

pub record TakesOnlyOne (terms : List Term) (relation : Relation) (sets : ℕ → ℤ → Type 0) (i : ℕ) (v : ℤ) : Type 0 where
  pub named : LinearNames terms relation i
  pub member : sets i v
  pub left : (j : ℕ) (z : ℤ) → NarrowedByLinear terms relation sets j z ↔ (sets j z × (j ≡ i → z ≢ v))

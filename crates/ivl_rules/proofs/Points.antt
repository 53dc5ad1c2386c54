-- The points of a rule between two variables, and of a sum.
use Rattle.std.proofs.Common.{◌≡◌, ◌≢◌, ◌↔◌, ℕ, ◌⊎◌, inl, inr, refl, sym, subst, arith, cond, eqb, List, [], get_or}
use Rattle.std.specs.Prelude.{ℤ, Option, None}
use Rattle.std.proofs.lemmas.Bool.Decides.{nat_tests}
use Rattle.ivl_laws.specs.Families.{set_at}
use Rattle.ivl_laws.specs.Sets.{Sums, Differences}
use Rattle.ivl_store.specs.declared.store.constraint.Constraint.{Constraint}
use Rattle.ivl_store.specs.NarrowedSets.{IsLeftOf}
use Rattle.ivl_store.specs.Narrowing.{Narrowed}
use Rattle.ivl_store.specs.Solutions.{AreDistinct, HasSolutionAt, IsSolution}
use Rattle.ivl_store.proofs.Families.{narrowed_has_solution, has_solution_narrowed}
use Rattle.ivl_store.proofs.NarrowedSets.{left_same}
use Rattle.ivl_rules.specs.declared.rules.Rule.{Rule}
use Rattle.ivl_rules.specs.declared.rules.Rule.TheVariants.{Sum, Shifted, AtMost, Differs}
use Rattle.ivl_rules.specs.Rules.{HasPointAt, IsPointOf, NamesOf, NarrowedBy, Satisfies, SupportsAll}
use Rattle.ivl_rules.specs.NarrowedSets.{AreLeftAtPlaces, AreLeftBy, IsAtMost, IsMoved, IsNot}

-- ---- two variables

-- the point that gives two variables their numbers
two : ℕ → ℤ → ℤ → ℕ → ℤ
two x a b i = cond (eqb i x) a b

two-x : (x : ℕ) (a b : ℤ) → two x a b x ≡ a
unfolding two
two-x x a b = grind (arith, nat_tests)

two-y : (x y : ℕ) (a b : ℤ) → x ≢ y → two x a b y ≡ b
unfolding two
two-y x y a b n = grind (arith, nat_tests)

-- what a rule between two variables says of their numbers
pub record IsOfTwo (rule : Rule) (x y : ℕ) (R : ℤ → ℤ → Type 0) : Type 0 where
  pub names : (i : ℕ) → NamesOf rule i → (i ≡ x) ⊎ (i ≡ y)
  pub names_x : NamesOf rule x
  pub names_y : NamesOf rule y
  pub says : (point : ℕ → ℤ) → Satisfies rule point ↔ R (point x) (point y)

point_of_two : (rule : Rule) (x y : ℕ) (R : ℤ → ℤ → Type 0) (sets : ℕ → ℤ → Type 0) (a b : ℤ) → IsOfTwo rule x y R → x ≢ y → sets x a → sets y b → R a b
    → IsPointOf rule sets (two x a b)
point_of_two rule x y R sets a b r n h k s = record {
  inside = (λ i named. elim (r.names i named) [
    | inl e ↦ subst (λ j. sets j (two x a b j)) (sym e) (subst (sets x) (sym (two-x x a b)) h)
    | inr e ↦ subst (λ j. sets j (two x a b j)) (sym e) (subst (sets y) (sym (two-y x y a b n)) k)
  ]);
  satisfies = (r.says (two x a b)).1 (subst (λ m. R m (two x a b y)) (sym (two-x x a b)) (subst (R a) (sym (two-y x y a b n)) s));
}

at_first : (rule : Rule) (x y : ℕ) (R : ℤ → ℤ → Type 0) (sets : ℕ → ℤ → Type 0) → IsOfTwo rule x y R → x ≢ y → (v : ℤ) → sets x v
    → ((b : ℤ) × sets y b × R v b) ↔ HasPointAt rule sets x v
at_first rule x y R sets r n v m = (
  λ h. record { point = two x v h.0; is_point = point_of_two rule x y R sets v h.0 r n m h.1 h.2; at = two-x x v h.0 },
  λ h. (h.point y, h.is_point.inside y r.names_y, subst (λ a. R a (h.point y)) h.at ((r.says h.point).0 h.is_point.satisfies)),
)

at_second : (rule : Rule) (x y : ℕ) (R : ℤ → ℤ → Type 0) (sets : ℕ → ℤ → Type 0) → IsOfTwo rule x y R → x ≢ y → (v : ℤ) → sets y v
    → ((a : ℤ) × sets x a × R a v) ↔ HasPointAt rule sets y v
at_second rule x y R sets r n v m = (
  λ h. record { point = two x h.0 v; is_point = point_of_two rule x y R sets h.0 v r n h.1 m h.2; at = two-y x y h.0 v n },
  λ h. (h.point x, h.is_point.inside x r.names_x, subst (R (h.point x)) h.at ((r.says h.point).0 h.is_point.satisfies)),
)

-- what is left of the sets of two variables
left_of_two : (whole : ℤ × ℤ) (rule : Rule) (x y : ℕ) (R : ℤ → ℤ → Type 0) (sets : List (List (ℤ × ℤ))) (a b : Option (List (ℤ × ℤ))) → IsOfTwo rule x y R → x ≢ y
    → AreLeftBy whole R (get_or sets x []) (get_or sets y []) a b → AreLeftAtPlaces whole (record { x = x; y = y; z = y }) (HasPointAt rule (set_at sets)) sets a b None
left_of_two whole rule x y R sets a b r n left = record {
  at_x = left_same whole _ _ _ a (at_first rule x y R (set_at sets) r n) left.first;
  at_y = left_same whole _ _ _ b (at_second rule x y R (set_at sets) r n) left.second;
  at_z = (λ ne. absurd (ne refl));
  z_is_y = (λ _. refl);
}

-- nothing is left out where each member of both stands in a pair
supports_of_two : (whole : ℤ × ℤ) (rule : Rule) (x y : ℕ) (R : ℤ → ℤ → Type 0) (sets : List (List (ℤ × ℤ))) → IsOfTwo rule x y R → x ≢ y
    → AreLeftBy whole R (get_or sets x []) (get_or sets y []) None None → SupportsAll rule (set_at sets)
supports_of_two whole rule x y R sets r n left i named v m = elim (r.names i named) [
  | inl e ↦ (let h = subst (λ k. set_at sets k v) e m in
      subst (λ k. HasPointAt rule (set_at sets) k v) (sym e) ((at_first rule x y R (set_at sets) r n v h).0 (left.first.1 v h)))
  | inr e ↦ (let h = subst (λ k. set_at sets k v) e m in
      subst (λ k. HasPointAt rule (set_at sets) k v) (sym e) ((at_second rule x y R (set_at sets) r n v h).0 (left.second.1 v h)))
]

pub left_moved : (whole : ℤ × ℤ) (x y : ℕ) (by : ℤ) (sets : List (List (ℤ × ℤ))) (a b : Option (List (ℤ × ℤ))) → x ≢ y
    → AreLeftBy whole (IsMoved by) (get_or sets x []) (get_or sets y []) a b
    → AreLeftAtPlaces whole (record { x = x; y = y; z = y }) (HasPointAt (Shifted x y by) (set_at sets)) sets a b None
left_moved whole x y by sets a b n left =
    left_of_two whole (Shifted x y by) x y (IsMoved by) sets a b (record {
      names = (λ i h. elim h [ inl e ↦ inl e | inr (inl e) ↦ inr e | inr (inr e) ↦ inr e ]);
      names_x = inl refl;
      names_y = inr (inl refl);
      says = (λ point. ((λ h. h), (λ h. h)));
    }) n left

is_of_at_most : (x y : ℕ) (by : ℤ) → IsOfTwo (AtMost x y by) x y (IsAtMost by)
is_of_at_most x y by = record {
  names = (λ i h. elim h [ inl e ↦ inl e | inr (inl e) ↦ inr e | inr (inr e) ↦ inr e ]);
  names_x = inl refl;
  names_y = inr (inl refl);
  says = (λ point. ((λ h. h), (λ h. h)));
}

pub left_at_most : (whole : ℤ × ℤ) (x y : ℕ) (by : ℤ) (sets : List (List (ℤ × ℤ))) (a b : Option (List (ℤ × ℤ))) → x ≢ y
    → AreLeftBy whole (IsAtMost by) (get_or sets x []) (get_or sets y []) a b
    → AreLeftAtPlaces whole (record { x = x; y = y; z = y }) (HasPointAt (AtMost x y by) (set_at sets)) sets a b None
left_at_most whole x y by sets a b n left = left_of_two whole (AtMost x y by) x y (IsAtMost by) sets a b (is_of_at_most x y by) n left

pub supports_at_most : (whole : ℤ × ℤ) (x y : ℕ) (by : ℤ) (sets : List (List (ℤ × ℤ))) → x ≢ y
    → AreLeftBy whole (IsAtMost by) (get_or sets x []) (get_or sets y []) None None → SupportsAll (AtMost x y by) (set_at sets)
supports_at_most whole x y by sets n left = supports_of_two whole (AtMost x y by) x y (IsAtMost by) sets (is_of_at_most x y by) n left

is_of_differing : (x y : ℕ) (by : ℤ) → IsOfTwo (Differs x y by) x y (IsNot by)
is_of_differing x y by = record {
  names = (λ i h. elim h [ inl e ↦ inl e | inr (inl e) ↦ inr e | inr (inr e) ↦ inr e ]);
  names_x = inl refl;
  names_y = inr (inl refl);
  says = (λ point. ((λ h. h), (λ h. h)));
}

pub left_differing : (whole : ℤ × ℤ) (x y : ℕ) (by : ℤ) (sets : List (List (ℤ × ℤ))) (a b : Option (List (ℤ × ℤ))) → x ≢ y
    → AreLeftBy whole (IsNot by) (get_or sets x []) (get_or sets y []) a b
    → AreLeftAtPlaces whole (record { x = x; y = y; z = y }) (HasPointAt (Differs x y by) (set_at sets)) sets a b None
left_differing whole x y by sets a b n left = left_of_two whole (Differs x y by) x y (IsNot by) sets a b (is_of_differing x y by) n left

pub supports_differing : (whole : ℤ × ℤ) (x y : ℕ) (by : ℤ) (sets : List (List (ℤ × ℤ))) → x ≢ y
    → AreLeftBy whole (IsNot by) (get_or sets x []) (get_or sets y []) None None → SupportsAll (Differs x y by) (set_at sets)
supports_differing whole x y by sets n left = supports_of_two whole (Differs x y by) x y (IsNot by) sets (is_of_differing x y by) n left

-- a member of the first set differs from one of the second, and the other way round, where it stands in a point
pub differing_first : (x y : ℕ) (by : ℤ) (sets : ℕ → ℤ → Type 0) → x ≢ y → (v : ℤ) → sets x v → ((b : ℤ) × sets y b × IsNot by v b) ↔ HasPointAt (Differs x y by) sets x v
differing_first x y by sets n v m = at_first (Differs x y by) x y (IsNot by) sets (is_of_differing x y by) n v m

pub differing_second : (x y : ℕ) (by : ℤ) (sets : ℕ → ℤ → Type 0) → x ≢ y → (v : ℤ) → sets y v → ((a : ℤ) × sets x a × IsNot by a v) ↔ HasPointAt (Differs x y by) sets y v
differing_second x y by sets n v m = at_second (Differs x y by) x y (IsNot by) sets (is_of_differing x y by) n v m

-- ---- a sum

sum_point : (c : Constraint) (sets : ℕ → ℤ → Type 0) (point : ℕ → ℤ) → IsSolution c sets point → IsPointOf (Sum c) sets point
sum_point c sets point s = record {
  inside = (λ i named. elim named [
    | inl e ↦ subst (λ j. sets j (point j)) (sym e) s.in_x
    | inr (inl e) ↦ subst (λ j. sets j (point j)) (sym e) s.in_y
    | inr (inr e) ↦ subst (λ j. sets j (point j)) (sym e) s.in_z
  ]);
  satisfies = s.sum;
}

sum_solution : (c : Constraint) (sets : ℕ → ℤ → Type 0) (point : ℕ → ℤ) → IsPointOf (Sum c) sets point → IsSolution c sets point
sum_solution c sets point p = record { in_x = p.inside c.x (inl refl); in_y = p.inside c.y (inr (inl refl)); in_z = p.inside c.z (inr (inr refl)); sum = p.satisfies }

-- the words of sums are those of rules, at the rule of a sum
pub sum_at : (c : Constraint) (sets : ℕ → ℤ → Type 0) (i : ℕ) (v : ℤ) → HasSolutionAt c sets i v ↔ HasPointAt (Sum c) sets i v
sum_at c sets i v = (
  λ h. record { point = h.point; is_point = sum_point c sets h.point h.solution; at = h.at },
  λ h. record { point = h.point; solution = sum_solution c sets h.point h.is_point; at = h.at },
)

pub sum_narrowed : (c : Constraint) (sets : ℕ → ℤ → Type 0) → AreDistinct c → (i : ℕ) (v : ℤ) → Narrowed c sets i v ↔ NarrowedBy (Sum c) sets i v
sum_narrowed c sets k i v = (
  λ n. record { kept = n.kept; supported = (λ named. (sum_at c sets i v).0 (narrowed_has_solution c sets k i named v n)) },
  λ n. record {
    kept = n.kept;
    at_x = (λ e p q. (has_solution_narrowed c sets i (inl e) v ((sum_at c sets i v).1 (n.supported (inl e)))).at_x e p q);
    at_y = (λ e p. (has_solution_narrowed c sets i (inr (inl e)) v ((sum_at c sets i v).1 (n.supported (inr (inl e))))).at_y e p);
    at_z = (λ e. (has_solution_narrowed c sets i (inr (inr e)) v ((sum_at c sets i v).1 (n.supported (inr (inr e))))).at_z e);
  },
)

pub left_of_sum : (whole : ℤ × ℤ) (c : Constraint) (sets : List (List (ℤ × ℤ))) (x y z : Option (List (ℤ × ℤ))) → AreDistinct c
    → IsLeftOf whole (get_or sets c.x []) (Differences (set_at sets c.z) (set_at sets c.y)) x
    → IsLeftOf whole (get_or sets c.y []) (Differences (set_at sets c.z) (set_at sets c.x)) y
    → IsLeftOf whole (get_or sets c.z []) (Sums (set_at sets c.x) (set_at sets c.y)) z
    → AreLeftAtPlaces whole c (HasPointAt (Sum c) (set_at sets)) sets x y z
left_of_sum whole c sets x y z k lx ly lz = record {
  at_x = left_same whole _ _ _ x (λ v m. (
    (λ d. ((sum_narrowed c (set_at sets) k c.x v).0 (record { kept = m; at_x = (λ _ _ _. d); at_y = (λ e _. absurd (k.0 e)); at_z = (λ e. absurd (k.1 e)) })).supported (inl refl)),
    (λ h. ((sum_narrowed c (set_at sets) k c.x v).1 (record { kept = m; supported = (λ _. h) })).at_x refl k.0 k.1),
  )) lx;
  at_y = left_same whole _ _ _ y (λ v m. (
    (λ d. ((sum_narrowed c (set_at sets) k c.y v).0 (record { kept = m; at_x = (λ e _ _. absurd (k.0 (sym e))); at_y = (λ _ _. d); at_z = (λ e. absurd (k.2 e)) })).supported (inr (inl refl))),
    (λ h. ((sum_narrowed c (set_at sets) k c.y v).1 (record { kept = m; supported = (λ _. h) })).at_y refl k.2),
  )) ly;
  at_z = (λ _. left_same whole _ _ _ z (λ v m. (
    (λ d. ((sum_narrowed c (set_at sets) k c.z v).0 (record { kept = m; at_x = (λ e _ _. absurd (k.1 (sym e))); at_y = (λ e _. absurd (k.2 (sym e))); at_z = (λ _. d) })).supported (inr (inr refl))),
    (λ h. ((sum_narrowed c (set_at sets) k c.z v).1 (record { kept = m; supported = (λ _. h) })).at_z refl),
  )) lz);
  z_is_y = (λ e. absurd (k.2 e));
}

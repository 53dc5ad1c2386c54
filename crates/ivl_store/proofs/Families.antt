-- Narrowing keeps every supported family, and its fixed points are the greatest ones.
use Rattle.std.proofs.Common.{◌≡◌, ℕ, ◌⊎◌, inl, inr, sym, ap, subst, arith, cond, eqb, ◌∙◌, List}
use Rattle.std.specs.Prelude.{ℤ, ◌+ℤ◌, ◌↔◌}
use Rattle.std.proofs.lemmas.Int.{ints}
use Rattle.std.proofs.lemmas.Bool.Decides.{nat_tests}
use Rattle.ivl_laws.specs.Sets.{Sums, Differences}
use Rattle.ivl_laws.specs.Families.{set_at}
use Rattle.ivl_store.specs.declared.store.constraint.Constraint.{Constraint}
use Rattle.ivl_store.specs.Solutions.{AreDistinct, Names, IsSolution, HasSolutionAt, Supports, SupportedBy, LiesWithin, IsGreatestFamily}
use Rattle.ivl_store.specs.Narrowing.{Narrowed}

-- narrowing loses no member of a supported family
pub narrowing_keeps : (c : Constraint) (family given : ℕ → ℤ → Type 0) → Supports c family → LiesWithin family given → LiesWithin family (Narrowed c given)
narrowing_keeps c family given s within i v h = record {
  kept = within i v h;
  at_x = (λ e _ _.
      let k : HasSolutionAt c family i v = s i (inl e) v h in
      (k.point c.z, k.point c.y, within _ _ k.solution.in_z, within _ _ k.solution.in_y, (let u = k.solution.sum in let w : k.point c.x ≡ v = subst (λ j. k.point j ≡ v) e k.at in omega (arith, ints))));
  at_y = (λ e _.
      let k : HasSolutionAt c family i v = s i (inr (inl e)) v h in
      (k.point c.z, k.point c.x, within _ _ k.solution.in_z, within _ _ k.solution.in_x, (let u = k.solution.sum in let w : k.point c.y ≡ v = subst (λ j. k.point j ≡ v) e k.at in omega (arith, ints))));
  at_z = (λ e.
      let k : HasSolutionAt c family i v = s i (inr (inr e)) v h in
      (k.point c.x, k.point c.y, within _ _ k.solution.in_x, within _ _ k.solution.in_y, (let u = k.solution.sum in let w : k.point c.z ≡ v = subst (λ j. k.point j ≡ v) e k.at in omega (arith, ints))));
}

-- the point that gives three variables their numbers
three : Constraint → ℤ → ℤ → ℤ → ℕ → ℤ
three c a b d i = cond (eqb i c.x) a (cond (eqb i c.y) b d)

three-x : (c : Constraint) (a b d : ℤ) → three c a b d c.x ≡ a
unfolding three
three-x c a b d = grind (arith, nat_tests)

three-y : (c : Constraint) (a b d : ℤ) → AreDistinct c → three c a b d c.y ≡ b
unfolding three
three-y c a b d k = let u = k.0 in grind (arith, nat_tests)

three-z : (c : Constraint) (a b d : ℤ) → AreDistinct c → three c a b d c.z ≡ d
unfolding three
three-z c a b d k = let u = k.1 in let v = k.2 in grind (arith, nat_tests)

solution_of : (c : Constraint) (sets : ℕ → ℤ → Type 0) (a b d : ℤ) → AreDistinct c → sets c.x a → sets c.y b → sets c.z d → (a +ℤ b) ≡ d → IsSolution c sets (three c a b d)
solution_of c sets a b d k h u v e = record {
  in_x = subst (sets c.x) (sym (three-x c a b d)) h;
  in_y = subst (sets c.y) (sym (three-y c a b d k)) u;
  in_z = subst (sets c.z) (sym (three-z c a b d k)) v;
  sum = (let p = three-x c a b d in let q = three-y c a b d k in let r = three-z c a b d k in omega (arith, ints));
}

-- where x, y and z are three variables, what is left stands in a solution
pub narrowed_has_solution : (c : Constraint) (sets : ℕ → ℤ → Type 0) → AreDistinct c → (i : ℕ) → Names c i → (v : ℤ) → Narrowed c sets i v → HasSolutionAt c sets i v
narrowed_has_solution c sets k i (inl e) v n =
    let d : Differences (sets c.z) (sets c.y) v = n.at_x e (λ f. k.0 (sym e ∙ f)) (λ f. k.1 (sym e ∙ f)) in
    let h : sets c.x v = subst (λ j. sets j v) e n.kept in
    record {
      point = three c v d.1 d.0;
      solution = solution_of c sets v d.1 d.0 k h d.3 d.2 (let u = d.4 in omega (arith, ints));
      at = ap (three c v d.1 d.0) e ∙ three-x c v d.1 d.0;
    }
narrowed_has_solution c sets k i (inr (inl e)) v n =
    let d : Differences (sets c.z) (sets c.x) v = n.at_y e (λ f. k.2 (sym e ∙ f)) in
    let h : sets c.y v = subst (λ j. sets j v) e n.kept in
    record {
      point = three c d.1 v d.0;
      solution = solution_of c sets d.1 v d.0 k d.3 h d.2 (let u = d.4 in omega (arith, ints));
      at = ap (three c d.1 v d.0) e ∙ three-y c d.1 v d.0 k;
    }
narrowed_has_solution c sets k i (inr (inr e)) v n =
    let d : Sums (sets c.x) (sets c.y) v = n.at_z e in
    let h : sets c.z v = subst (λ j. sets j v) e n.kept in
    record {
      point = three c d.0 d.1 v;
      solution = solution_of c sets d.0 d.1 v k d.2 d.3 h d.4;
      at = ap (three c d.0 d.1 v) e ∙ three-z c d.0 d.1 v k;
    }

-- and what stands in a solution is left
pub has_solution_narrowed : (c : Constraint) (sets : ℕ → ℤ → Type 0) (i : ℕ) → Names c i → (v : ℤ) → HasSolutionAt c sets i v → Narrowed c sets i v
has_solution_narrowed c sets i names v s = record {
  kept = elim names [
    | inl e ↦ at_place s.solution.in_x e
    | inr n ↦ elim n [ inl e ↦ at_place s.solution.in_y e | inr e ↦ at_place s.solution.in_z e ]
  ];
  at_x = (λ e _ _. (s.point c.z, s.point c.y, s.solution.in_z, s.solution.in_y, (let u = s.solution.sum in let w : s.point c.x ≡ v = subst (λ j. s.point j ≡ v) e s.at in omega (arith, ints))));
  at_y = (λ e _. (s.point c.z, s.point c.x, s.solution.in_z, s.solution.in_x, (let u = s.solution.sum in let w : s.point c.y ≡ v = subst (λ j. s.point j ≡ v) e s.at in omega (arith, ints))));
  at_z = (λ e. (s.point c.x, s.point c.y, s.solution.in_x, s.solution.in_y, (let u = s.solution.sum in let w : s.point c.z ≡ v = subst (λ j. s.point j ≡ v) e s.at in omega (arith, ints))));
}
  where
    at_place : {j : ℕ} → sets j (s.point j) → i ≡ j → sets i v
    at_place {j} h e =
        let w : s.point j ≡ v = subst (λ k. s.point k ≡ v) e s.at in
        let u : sets j v = subst (sets j) w h in
        subst (λ k. sets k v) (sym e) u

pub unchanged_supported : (c : Constraint) (sets : ℕ → ℤ → Type 0) → AreDistinct c → LiesWithin sets (Narrowed c sets) → Supports c sets
unchanged_supported c sets k same i names v h = narrowed_has_solution c sets k i names v (same i v h)

HasSolutionAt-mono : (c : Constraint) (inner outer : ℕ → ℤ → Type 0) → LiesWithin inner outer → (i : ℕ) (v : ℤ) → HasSolutionAt c inner i v → HasSolutionAt c outer i v
HasSolutionAt-mono c inner outer w i v s = record {
  point = s.point;
  at = s.at;
  solution = record { in_x = w _ _ s.solution.in_x; in_y = w _ _ s.solution.in_y; in_z = w _ _ s.solution.in_z; sum = s.solution.sum };
}

-- domain by domain, the union of two supported families is supported
pub union_supports : (c : Constraint) (first second : ℕ → ℤ → Type 0) → Supports c first → Supports c second → Supports c (λ i v. first i v ⊎ second i v)
union_supports c first second s t i names v (inl h) = HasSolutionAt-mono c first _ (λ j w k. inl k) i v (s i names v h)
union_supports c first second s t i names v (inr h) = HasSolutionAt-mono c second _ (λ j w k. inr k) i v (t i names v h)

pub union_supported : (constraints : List Constraint) (first second : ℕ → ℤ → Type 0) → SupportedBy constraints first → SupportedBy constraints second → SupportedBy constraints (λ i v. first i v ⊎ second i v)
union_supported constraints first second s t k d h = union_supports _ first second (s k d h) (t k d h)

-- a family with the same members is supported too
pub supported_same : (constraints : List Constraint) (first second : ℕ → ℤ → Type 0) → ((i : ℕ) (v : ℤ) → second i v ↔ first i v)
    → SupportedBy constraints first → SupportedBy constraints second
supported_same constraints first second same s k d lt i names v h = HasSolutionAt-mono _ first second (λ j w m. (same j w).1 m) i v (s k d lt i names v ((same i v).0 h))

-- the greatest family is unique
pub greatest_unique : (constraints : List Constraint) (given : ℕ → ℤ → Type 0) (a b : List (List (ℤ × ℤ))) → IsGreatestFamily constraints given (set_at a) → IsGreatestFamily constraints given (set_at b) → (i : ℕ) (v : ℤ) → set_at a i v ↔ set_at b i v
greatest_unique constraints given a b g h i v = (h.greatest a g.within g.supported i v, g.greatest b h.within h.supported i v)

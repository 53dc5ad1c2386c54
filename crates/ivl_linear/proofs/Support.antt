-- Which members stand in a point of a rule: the sum at a point where one variable has another number.
use Rattle.std.proofs.Common.{◌≡◌, ◌≢◌, ◌↔◌, ◌⊎◌, inl, inr, ℕ, ◌<◌, ◌≤◌, ◌+◌, ℤ, ◌+ℤ◌, ◌-ℤ◌, ◌*ℤ◌, ◌≤ℤ◌, List, [], ◌∷◌, get_or, length, drop, add-one, zero, suc, refl, sym, ap, subst, ◌∙◌, arith, unsigned_abs}
use Rattle.std.proofs.lemmas.Int.{ints}
use Rattle.std.proofs.Math.Seq.{drop-cons}
use Rattle.std.proofs.lemmas.List.{get_or_default}
use Rattle.ivl_linear.specs.declared.linear.Term.{Term}
use Rattle.ivl_linear.specs.declared.linear.Relation.{Relation}
use Rattle.ivl_linear.specs.declared.linear.Relation.TheVariants.{AtMost, AtLeast, Differs, Tells}
use Rattle.ivl_linear.specs.Linear.{AreOfDifferent, HasLinearPointAt, IsInside, HasTermOf, LinearNames, NamesEachOnce, sum_at, weight}
use Rattle.ivl_linear.specs.Ends.{IsGreatestTerm, IsGreatestSum, IsLeastTerm, IsLeastSum, IsSumEnd}
use Rattle.ivl_linear.specs.Rests.{AllFilled}
use Rattle.ivl_linear.proofs.Totals.{put, put-same, put-other, sum_at-first, inside_put}

abbrev pub Holds : List Term → Term → Type 0
Holds [] t = ⊥
Holds (s ∷ rest) t = (t ≡ s) ⊎ Holds rest t

-- where the sum has an end, no set is empty
pub filled_of : (R : ℤ → ℤ → Type 0) (terms : List Term) (sets : ℕ → ℤ → Type 0) (m : ℤ) → IsSumEnd R terms sets m → AllFilled terms sets
filled_of R terms sets m e i n = (e.reached.0 i, e.reached.1 i n)

pub named_by_term : (terms : List Term) (relation : Relation) (i : ℕ) → HasTermOf terms i → LinearNames terms relation i
named_by_term terms (AtMost bound) i h = h
named_by_term terms (AtLeast bound) i h = h
named_by_term terms (Differs number) i h = h
named_by_term terms (Tells variable bound) i h = inr h

pub different_of : (terms : List Term) (relation : Relation) → NamesEachOnce terms relation → AreOfDifferent terms
different_of terms (AtMost bound) h = h
different_of terms (AtLeast bound) h = h
different_of terms (Differs number) h = h
different_of terms (Tells variable bound) h = h.0

-- the place of a term of the variable
pub place_of : (terms : List Term) (i : ℕ) (d : Term) → HasTermOf terms i → (k : ℕ) × (k < length terms) × (i ≡ (get_or terms k d).variable)
place_of [] i d h = absurd h
place_of (t ∷ rest) i d (inl e) = (zero, omega arith, e)
place_of (t ∷ rest) i d (inr h) = let p = place_of rest i d h in let k = p.1 in (suc p.0, omega arith, p.2)

pub named_of : (terms : List Term) (t : Term) → Holds terms t → HasTermOf terms t.variable
named_of [] t h = h
named_of (s ∷ rest) t (inl e) = inl (ap (λ (r : Term). r.variable) e)
named_of (s ∷ rest) t (inr h) = inr (named_of rest t h)

pub holds_at : (terms : List Term) (k : ℕ) (d : Term) → k < length terms → Holds terms (get_or terms k d)
holds_at [] k d h = absurd (omega arith)
holds_at (t ∷ rest) zero d h = inl refl
holds_at (t ∷ rest) (suc k) d h = inr (holds_at rest k d (omega arith))

pub weight_of : (terms : List Term) (t : Term) → Holds terms t → unsigned_abs t.coefficient ≤ weight terms
weight_of [] t h = absurd h
weight_of (s ∷ rest) t (inl e) = subst (λ (r : Term). unsigned_abs r.coefficient ≤ weight (s ∷ rest)) (sym e) (omega arith)
weight_of (s ∷ rest) t (inr h) = let k = weight_of rest t h in omega arith

at_the_first : (x y z : ℤ) → (x +ℤ y) +ℤ z ≡ (z +ℤ y) +ℤ x
at_the_first x y z = omega (arith, ints)

at_a_later : (a r' r x y : ℤ) → r' +ℤ x ≡ r +ℤ y → (a +ℤ r') +ℤ x ≡ (a +ℤ r) +ℤ y
at_a_later a r' r x y e = omega (arith, ints)

-- a variable that is given another number changes the sum by what its term changes
pub sum_at-put : (terms : List Term) (t : Term) (p : ℕ → ℤ) (v : ℤ) → AreOfDifferent terms → Holds terms t
    → (sum_at terms (put p t.variable v) +ℤ (t.coefficient *ℤ p t.variable)) ≡ (sum_at terms p +ℤ (t.coefficient *ℤ v))
sum_at-put [] t p v d h = absurd h
sum_at-put (s ∷ rest) t p v d (inl e) = subst (λ (r : Term). (sum_at (s ∷ rest) (put p r.variable v) +ℤ (r.coefficient *ℤ p r.variable)) ≡ (sum_at (s ∷ rest) p +ℤ (r.coefficient *ℤ v))) (sym e)
    (ap (λ (x : ℤ). x +ℤ (s.coefficient *ℤ p s.variable)) (sum_at-first s rest p v d.0) ∙ at_the_first (s.coefficient *ℤ v) (sum_at rest p) (s.coefficient *ℤ p s.variable))
sum_at-put (s ∷ rest) t p v d (inr h) =
    let ne : s.variable ≢ t.variable = (λ e. d.0 (subst (HasTermOf rest) (sym e) (named_of rest t h))) in
    ap (λ (x : ℤ). ((s.coefficient *ℤ x) +ℤ sum_at rest (put p t.variable v)) +ℤ (t.coefficient *ℤ p t.variable)) (put-other p t.variable s.variable v ne)
    ∙ at_a_later (s.coefficient *ℤ p s.variable) (sum_at rest (put p t.variable v)) (sum_at rest p) (t.coefficient *ℤ p t.variable) (t.coefficient *ℤ v) (sum_at-put rest t p v d.1 h)

pub put_inside : (terms : List Term) (sets : ℕ → ℤ → Type 0) (p : ℕ → ℤ) (x : ℕ) (v : ℤ) → IsInside terms sets p → sets x v → IsInside terms sets (put p x v)
put_inside terms sets p x v h m = inside_put terms sets p x v (λ i n _. h i n) m

-- ---- at most

-- a change to v keeps the sum within the bound
stays_below : (new own least av m bound : ℤ) → (new +ℤ own) ≡ (least +ℤ av) → m ≤ℤ own → av ≤ℤ ((bound -ℤ least) +ℤ m) → new ≤ℤ bound
stays_below new own least av m bound e h k = omega (arith, ints)

-- from a point within the bound
was_below : (new old least av m bound : ℤ) → (new +ℤ av) ≡ (old +ℤ m) → least ≤ℤ new → old ≤ℤ bound → av ≤ℤ ((bound -ℤ least) +ℤ m)
was_below new old least av m bound e h k = omega (arith, ints)

-- a member has a point exactly if its term takes no more than the other terms leave at their least
pub supported_at_most : (terms : List Term) (t : Term) (bound least m : ℤ) (sets : ℕ → ℤ → Type 0) → AreOfDifferent terms → Holds terms t → IsLeastSum terms sets least
    → IsLeastTerm t.coefficient (sets t.variable) m → (v : ℤ) → sets t.variable v
    → ((t.coefficient *ℤ v) ≤ℤ ((bound -ℤ least) +ℤ m)) ↔ HasLinearPointAt terms (AtMost bound) sets t.variable v
supported_at_most terms t bound least m sets d h all own v member =
    let a = t.coefficient in let x = t.variable in let p = all.reached.0 in let w = own.reached.0 in (
      λ small. record {
        point = put p x v;
        is_point = record {
          inside = put_inside terms sets p x v all.reached.1 member;
          satisfies = stays_below (sum_at terms (put p x v)) (a *ℤ p x) least (a *ℤ v) m bound
              (sum_at-put terms t p v d h ∙ ap (λ (y : ℤ). y +ℤ (a *ℤ v)) (sym all.reached.2)) (own.bound (p x) (all.reached.1 x (named_of terms t h))) small;
        };
        at = put-same p x v;
      },
      λ s. let q = s.point in
          was_below (sum_at terms (put q x w)) (sum_at terms q) least (a *ℤ v) m bound
          (ap (λ (y : ℤ). sum_at terms (put q x w) +ℤ (a *ℤ y)) (sym s.at) ∙ sum_at-put terms t q w d h ∙ ap (λ (y : ℤ). sum_at terms q +ℤ y) (sym own.reached.2))
          (all.bound (put q x w) (put_inside terms sets q x w s.is_point.inside own.reached.1)) s.is_point.satisfies,
    )

-- ---- at least

stays_above : (new own greatest av m bound : ℤ) → (new +ℤ own) ≡ (greatest +ℤ av) → own ≤ℤ m → ((bound -ℤ greatest) +ℤ m) ≤ℤ av → bound ≤ℤ new
stays_above new own greatest av m bound e h k = omega (arith, ints)

was_above : (new old greatest av m bound : ℤ) → (new +ℤ av) ≡ (old +ℤ m) → new ≤ℤ greatest → bound ≤ℤ old → ((bound -ℤ greatest) +ℤ m) ≤ℤ av
was_above new old greatest av m bound e h k = omega (arith, ints)

-- a member has a point exactly if its term gives what the other terms lack at their greatest
pub supported_at_least : (terms : List Term) (t : Term) (bound greatest m : ℤ) (sets : ℕ → ℤ → Type 0) → AreOfDifferent terms → Holds terms t → IsGreatestSum terms sets greatest
    → IsGreatestTerm t.coefficient (sets t.variable) m → (v : ℤ) → sets t.variable v
    → (((bound -ℤ greatest) +ℤ m) ≤ℤ (t.coefficient *ℤ v)) ↔ HasLinearPointAt terms (AtLeast bound) sets t.variable v
supported_at_least terms t bound greatest m sets d h all own v member =
    let a = t.coefficient in let x = t.variable in let p = all.reached.0 in let w = own.reached.0 in (
      λ large. record {
        point = put p x v;
        is_point = record {
          inside = put_inside terms sets p x v all.reached.1 member;
          satisfies = stays_above (sum_at terms (put p x v)) (a *ℤ p x) greatest (a *ℤ v) m bound
              (sum_at-put terms t p v d h ∙ ap (λ (y : ℤ). y +ℤ (a *ℤ v)) (sym all.reached.2)) (own.bound (p x) (all.reached.1 x (named_of terms t h))) large;
        };
        at = put-same p x v;
      },
      λ s. let q = s.point in
          was_above (sum_at terms (put q x w)) (sum_at terms q) greatest (a *ℤ v) m bound
          (ap (λ (y : ℤ). sum_at terms (put q x w) +ℤ (a *ℤ y)) (sym s.at) ∙ sum_at-put terms t q w d h ∙ ap (λ (y : ℤ). sum_at terms q +ℤ y) (sym own.reached.2))
          (all.bound (put q x w) (put_inside terms sets q x w s.is_point.inside own.reached.1)) s.is_point.satisfies,
    )

-- what a set has at an index below the count, at the default of the family
pub read : (domains : List (List (ℤ × ℤ))) (i : ℕ) (x : List (ℤ × ℤ)) → i < length domains → x ≡ get_or domains i x → x ≡ get_or domains i []
read domains i x h e = e ∙ get_or_default domains i x [] h

-- the terms that are left begin with the one at the index
pub drop_next : (terms : List Term) (i : ℕ) (d : Term) → i < length terms → drop i terms ≡ get_or terms i d ∷ drop (i + 1) terms
drop_next terms i d h = rw add-one (drop-cons terms i d h)

pub drop_back : (terms : List Term) (i : ℕ) (d : Term) → i < length terms → get_or terms i d ∷ drop (i + 1) terms ≡ drop i terms
drop_back terms i d h = sym (drop_next terms i d h)

-- Which sets a narrowing by a rule took members of.
use Rattle.std.proofs.Common.{◌≡◌, ◌≢◌, ◌↔◌, ◌∙◌, ◌⊎◌, ℕ, List, [], ap, arith, eqb, false, inl, inr, length, refl, subst, sym, true}
use Rattle.std.specs.Prelude.{ℤ, ◌||◌, Option, Some, None, is_some}
use Rattle.std.proofs.lemmas.Bool.{cases_eq, false≢true}
use Rattle.std.proofs.lemmas.Bool.Decides.{nat_tests}
use Rattle.ivl_laws.specs.Families.{set_at}
use Rattle.ivl_laws.specs.Runs.{Covers, IsRunListIn}
use Rattle.ivl_laws.specs.Sets.{IsSubset}
use Rattle.ivl_store.specs.declared.store.constraint.Constraint.{Constraint}
use Rattle.ivl_store.specs.declared.store.settled.Lost.{Lost}
use Rattle.ivl_store.specs.NarrowedSets.{IsLeftOf}
use Rattle.ivl_store.specs.Narrowing.{AllPresent}
use Rattle.ivl_store.specs.Settled.{AreLost, any_lost}
use Rattle.ivl_store.proofs.Places.{after, is_none_of, kept_or, replaced-other}
use Rattle.ivl_rules.specs.declared.rules.Rule.{Rule}
use Rattle.ivl_rules.specs.declared.rules.Rule.TheVariants.{Sum, Shifted, AtMost, Differs}
use Rattle.ivl_rules.specs.Rules.{AreDifferent, HasPointAt, NamesOf, NarrowedBy, TakesOne, needs_singles, places}
use Rattle.ivl_rules.specs.NarrowedSets.{AreLeftAtPlaces}
use Rattle.ivl_rules.proofs.Places.{lost_is}
use Rattle.ivl_network.specs.Settled.{AreTold}

-- a set that is made lies in the range
pub made_in_range : (whole : ℤ × ℤ) (L : List (ℤ × ℤ)) (S : ℤ → Type 0) (made : Option (List (ℤ × ℤ))) → IsLeftOf whole L S made
    → (s : List (ℤ × ℤ)) → made ≡ Some s → IsRunListIn whole s
made_in_range whole L S None h s e = absurd (not_none e)
  where
    not_none : None ≡ Some s → ⊥
    not_none f = cc
made_in_range whole L S (Some left) h s e = subst (IsRunListIn whole) (ap (λ (o : Option (List (ℤ × ℤ))). kept_or o []) e) h.1

-- none is made where all members may stay
pub none_made : (whole : ℤ × ℤ) (L : List (ℤ × ℤ)) (S : ℤ → Type 0) (made : Option (List (ℤ × ℤ))) → IsLeftOf whole L S made → IsSubset (Covers L) S → is_some made ≡ false
none_made whole L S None h within = refl
none_made whole L S (Some left) h within = absurd (h.3 (λ z. ((λ m. ((h.2 z).0 m).0), (λ m. (h.2 z).1 (m, within z m)))))

-- so does that at z, where one is made
pub last_in_range : (whole : ℤ × ℤ) (c : Constraint) (P : ℕ → ℤ → Type 0) (sets : List (List (ℤ × ℤ))) (x y z : Option (List (ℤ × ℤ))) → AreLeftAtPlaces whole c P sets x y z
    → (s : List (ℤ × ℤ)) → z ≡ Some s → IsRunListIn whole s
last_in_range whole c P sets x y z left s e = elim (cases_eq c.y c.z) [
  | inl same ↦ absurd (not_none (sym (left.z_is_y same) ∙ e))
  | inr other ↦ made_in_range whole _ _ z (left.at_z other) s e
]
  where
    not_none : None ≡ Some s → ⊥
    not_none f = cc

-- the flags say what was lost
pub lost_after : (whole : ℤ × ℤ) (rule : Rule) (P : ℕ → ℤ → Type 0) (old : List (List (ℤ × ℤ))) (x y z : Option (List (ℤ × ℤ))) (lost : Lost) → AreDifferent rule
    → AllPresent (length old) (places rule) → AreLeftAtPlaces whole (places rule) P old x y z → lost.x ≡ is_some x → lost.y ≡ is_some y → lost.z ≡ is_some z
    → AreLost (places rule) lost (set_at old) (set_at (after (places rule) old x y z))
lost_after whole rule P old x y z lost d p left mx my mz = record {
  some = lost_is whole rule P old x y z d p left (any_lost lost) (rw (mx, my, mz) refl);
  others = (λ i nx ny nz v was. subst (λ s. Covers s v)
      (sym (replaced-other _ (places rule).z i z (λ e. is_none_of z (sym mz ∙ nz e)) ∙ replaced-other _ (places rule).y i y (λ e. is_none_of y (sym my ∙ ny e))
      ∙ replaced-other old (places rule).x i x (λ e. is_none_of x (sym mx ∙ nx e)))) was);
}

-- ---- one number is taken, by a rule that needs single numbers

-- such a rule has two variables
singles_pair : (rule : Rule) → needs_singles rule ≡ true → (places rule).z ≡ (places rule).y
singles_pair (Sum c) e = absurd (false≢true e)
singles_pair (Shifted x y by) e = absurd (false≢true e)
singles_pair (AtMost x y by) e = absurd (false≢true e)
singles_pair (Differs x y by) e = refl

is_set : (i a : ℕ) → i ≡ a → eqb i a ≡ true
is_set i a e = grind (arith, nat_tests)

either_set : (i a b : ℕ) → (i ≡ a) ⊎ (i ≡ b) → (eqb i a || (eqb i b || false)) ≡ true
either_set i a b (inl e) = grind (arith, nat_tests)
either_set i a b (inr e) = grind (arith, nat_tests)

pub one_lost : (rule : Rule) (i : ℕ) (v : ℤ) (old new : ℕ → ℤ → Type 0) → needs_singles rule ≡ true → TakesOne rule old i v
    → ((j : ℕ) (z : ℤ) → new j z ↔ (old j z × (j ≡ i → z ≢ v)))
    → AreLost (places rule) (record { x = eqb i (places rule).x; y = eqb i (places rule).y; z = false }) old new
one_lost rule i v old new single t left = record {
  some = (
    (λ _. record { variable = i; member = v; was = t.member; gone = (λ h. ((left i v).0 h).1 refl refl) }),
    (λ _. either_set i (places rule).x (places rule).y named),
  );
  others = (λ j nx ny nz z m. (left j z).1 (m, λ e. absurd (unset j nx ny e)));
}
  where
    named : (i ≡ (places rule).x) ⊎ (i ≡ (places rule).y)
    named = elim t.named [
      | inl e ↦ inl e
      | inr (inl e) ↦ inr e
      | inr (inr e) ↦ inr (e ∙ singles_pair rule single)
    ]

    unset : (j : ℕ) → (j ≡ (places rule).x → eqb i (places rule).x ≡ false) → (j ≡ (places rule).y → eqb i (places rule).y ≡ false) → j ≡ i → ⊥
    unset j nx ny e = elim named [
      | inl f ↦ false≢true (sym (nx (e ∙ f)) ∙ is_set i (places rule).x f)
      | inr f ↦ false≢true (sym (ny (e ∙ f)) ∙ is_set i (places rule).y f)
    ]

-- ---- what is told was lost

pub told_after : (whole : ℤ × ℤ) (rule : Rule) (old new : List (List (ℤ × ℤ))) (x y z : Option (List (ℤ × ℤ))) (lost : Lost)
    → AreLeftAtPlaces whole (places rule) (HasPointAt rule (set_at old)) old x y z → lost.x ≡ is_some x → lost.y ≡ is_some y → lost.z ≡ is_some z
    → ((i : ℕ) (v : ℤ) → set_at new i v ↔ NarrowedBy rule (set_at old) i v) → AreTold (places rule) lost (set_at old) (set_at new)
told_after whole rule old new x y z lost left mx my mz narrowed = record {
  at_x = (λ t within. false≢true (sym (mx ∙ none_made whole _ _ x left.at_x (supported (places rule).x (inl refl) within)) ∙ t));
  at_y = (λ t within. false≢true (sym (my ∙ none_made whole _ _ y left.at_y (supported (places rule).y (inr (inl refl)) within)) ∙ t));
  at_z = (λ t within. elim (cases_eq (places rule).y (places rule).z) [
    | inl same ↦ false≢true (sym (mz ∙ ap (λ (o : Option (List (ℤ × ℤ))). is_some o) (left.z_is_y same)) ∙ t)
    | inr other ↦ false≢true (sym (mz ∙ none_made whole _ _ z (left.at_z other) (supported (places rule).z (inr (inr refl)) within)) ∙ t)
  ]);
}
  where
    supported : (i : ℕ) → NamesOf rule i → IsSubset (set_at old i) (set_at new i) → IsSubset (set_at old i) (HasPointAt rule (set_at old) i)
    supported i named within v h = ((narrowed i v).0 (within v h)).supported named

pub one_told : (rule : Rule) (i : ℕ) (v : ℤ) (old new : ℕ → ℤ → Type 0) → TakesOne rule old i v → ((j : ℕ) (z : ℤ) → new j z ↔ (old j z × (j ≡ i → z ≢ v)))
    → AreTold (places rule) (record { x = eqb i (places rule).x; y = eqb i (places rule).y; z = false }) old new
one_told rule i v old new t left = record {
  at_x = (λ e within. gone (places rule).x (is_one i (places rule).x e) within);
  at_y = (λ e within. gone (places rule).y (is_one i (places rule).y e) within);
  at_z = (λ e within. false≢true e);
}
  where
    is_one : (j a : ℕ) → eqb j a ≡ true → j ≡ a
    is_one j a e = grind (arith, nat_tests)

    gone : (a : ℕ) → i ≡ a → IsSubset (old a) (new a) → ⊥
    gone a e within = ((left a v).0 (within v (subst (λ j. old j v) e t.member))).1 (sym e) refl

-- Rules that stay settled where sets lose members.
use Rattle.std.proofs.Common.{◌≡◌, ◌≢◌, ◌⊎◌, ℕ, inl, inr, refl, sym, ◌∙◌, subst, arith, Bool, true, false, IsTrue}
use Rattle.std.specs.Prelude.{◌↔◌, ℤ, ◌+ℤ◌, ◌-ℤ◌}
use Rattle.std.specs.Ordering.{int_eq}
use Rattle.std.proofs.lemmas.Bool.{cases_eq, false≢true}
use Rattle.std.proofs.lemmas.Int.{ints}
use Rattle.ivl_laws.proofs.Orders.{int_eq_is}
use Rattle.ivl_laws.specs.Sets.{HasSome, Only, SameMembers}
use Rattle.ivl_store.specs.Solutions.{LiesWithin}
use Rattle.ivl_rules.specs.declared.rules.Rule.{Rule}
use Rattle.ivl_rules.specs.declared.rules.Rule.TheVariants.{Sum, Shifted, AtMost, Differs}
use Rattle.ivl_rules.specs.Rules.{HasPointAt, NamesOf, needs_singles, places}
use Rattle.ivl_rules.proofs.Narrowings.{fixed_elsewhere}
use Rattle.ivl_rules.proofs.Points.{differing_first, differing_second}
use Rattle.ivl_network.specs.Families.{IsFixedBy}
use Rattle.ivl_network.specs.Settled.{AreSingleBeside, HasTwo}

-- the sets of the other variables of a rule are single, and have lost no member
abbrev pub StandBeside : Rule → (ℕ → ℤ → Type 0) → (ℕ → ℤ → Type 0) → ℕ → Type 0
StandBeside rule before after i = AreSingleBeside rule i after × ((j : ℕ) → NamesOf rule j → j ≢ i → (v : ℤ) → before j v → after j v)

-- the set of a variable has lost no member; or the rule says that numbers differ, and it has two, or one and the others stand
abbrev pub StaysAt : Rule → (ℕ → ℤ → Type 0) → (ℕ → ℤ → Type 0) → ℕ → Type 0
StaysAt rule before after i = ((v : ℤ) → before i v → after i v) ⊎ ((needs_singles rule ≡ true) × (HasTwo (after i) ⊎ (HasSome (after i) × StandBeside rule before after i)))

-- narrowing by the rule changes nothing of what is left, or so for each set that it names
abbrev pub StaysFixed : Rule → (ℕ → ℤ → Type 0) → (ℕ → ℤ → Type 0) → Type 0
StaysFixed rule before after = IsFixedBy after rule ⊎ ((i : ℕ) → NamesOf rule i → StaysAt rule before after i)

-- the other variable of a rule that says that numbers differ
pub single_beside_x : (rule : Rule) (i : ℕ) (sets : ℕ → ℤ → Type 0) → needs_singles rule ≡ true → (places rule).x ≡ i
    → ((v : ℤ) × SameMembers (sets (places rule).y) (Only v)) → AreSingleBeside rule i sets
single_beside_x (Sum c) i sets is at s j named ne = absurd (false≢true is)
single_beside_x (Shifted x y by) i sets is at s j named ne = absurd (false≢true is)
single_beside_x (AtMost x y by) i sets is at s j named ne = absurd (false≢true is)
single_beside_x (Differs x y by) i sets is at s j (inl e) ne = absurd (ne (e ∙ at))
single_beside_x (Differs x y by) i sets is at s j (inr (inl e)) ne = subst (λ m. (v : ℤ) × SameMembers (sets m) (Only v)) (sym e) s
single_beside_x (Differs x y by) i sets is at s j (inr (inr e)) ne = subst (λ m. (v : ℤ) × SameMembers (sets m) (Only v)) (sym e) s

pub single_beside_y : (rule : Rule) (i : ℕ) (sets : ℕ → ℤ → Type 0) → needs_singles rule ≡ true → ((places rule).x ≡ i → ⊥) → NamesOf rule i
    → ((v : ℤ) × SameMembers (sets (places rule).x) (Only v)) → AreSingleBeside rule i sets
single_beside_y (Sum c) i sets is other named s j names ne = absurd (false≢true is)
single_beside_y (Shifted x y by) i sets is other named s j names ne = absurd (false≢true is)
single_beside_y (AtMost x y by) i sets is other named s j names ne = absurd (false≢true is)
single_beside_y (Differs x y by) i sets is other named s j (inl e) ne = subst (λ m. (v : ℤ) × SameMembers (sets m) (Only v)) (sym e) s
single_beside_y (Differs x y by) i sets is other named s j (inr names) ne = elim named [
  | inl f ↦ absurd (other (sym f))
  | inr f ↦ absurd (ne (at_y names ∙ sym (at_y f)))
]
  where
    at_y : {k : ℕ} → (k ≡ y) ⊎ (k ≡ y) → k ≡ y
    at_y (inl e) = e
    at_y (inr e) = e

-- of two members one is not this number
other_member : (S : ℤ → Type 0) (n : ℤ) → HasTwo S → (w : ℤ) × S w × (w ≢ n)
other_member S n (v, w, hv, hw, lt) = by_test (int_eq v n) (int_eq_is v n _ refl)
  where
    by_test : (r : Bool) → IsTrue r ↔ (v ≡ n) → (u : ℤ) × S u × (u ≢ n)
    by_test true h = (w, hw, λ e. let f = h.0 refl in omega (arith, ints))
    by_test false h = (v, hv, λ e. absurd (false≢true (h.1 e)))

-- two variables that differ
differing_stays : (x y : ℕ) (by : ℤ) (before after : ℕ → ℤ → Type 0) → LiesWithin after before
    → ((i : ℕ) → NamesOf (Differs x y by) i → StaysAt (Differs x y by) before after i) → IsFixedBy before (Differs x y by) → IsFixedBy after (Differs x y by)
differing_stays x y by before after w stays f i v h = record { kept = h; supported = (λ named. by_places (cases_eq x y) named) }
  where
    was : NamesOf (Differs x y by) i → HasPointAt (Differs x y by) before i v
    was named = (f i v (w i v h)).supported named

    by_first : x ≢ y → after x v → HasPointAt (Differs x y by) before x v → HasPointAt (Differs x y by) after x v
    by_first ne m p = (differing_first x y by after ne v m).0 (elim (stays y (inr (inl refl))) [
      | inl same ↦ (let b = (differing_first x y by before ne v (w x v m)).1 p in (b.0, same b.0 b.1, b.2))
      | inr (_, inl two) ↦ (let b = other_member (after y) (v +ℤ by) two in (b.0, b.1, λ e. b.2 (sym e)))
      | inr (_, inr (b, (single, stood))) ↦ (
          let a = (differing_second x y by before ne b.0 (w y b.0 b.1)).1 ((f y b.0 (w y b.0 b.1)).supported (inr (inl refl))) in
          let s = single x (inl refl) ne in let here = (s.1 v).0 m in let there = (s.1 a.0).0 (stood x (inl refl) ne a.0 a.1) in
          (b.0, b.1, λ e. let n = a.2 in n (omega (arith, ints, e))))
    ])

    by_second : x ≢ y → after y v → HasPointAt (Differs x y by) before y v → HasPointAt (Differs x y by) after y v
    by_second ne m p = (differing_second x y by after ne v m).0 (elim (stays x (inl refl)) [
      | inl same ↦ (let a = (differing_second x y by before ne v (w y v m)).1 p in (a.0, same a.0 a.1, a.2))
      | inr (_, inl two) ↦ (let a = other_member (after x) (v -ℤ by) two in let k = a.2 in (a.0, a.1, λ e. k (omega (arith, ints))))
      | inr (_, inr (a, (single, stood))) ↦ (
          let b = (differing_first x y by before ne a.0 (w x a.0 a.1)).1 ((f x a.0 (w x a.0 a.1)).supported (inl refl)) in
          let other : y ≢ x = (λ e. ne (sym e)) in
          let s = single y (inr (inl refl)) other in let here = (s.1 v).0 m in let there = (s.1 b.0).0 (stood y (inr (inl refl)) other b.0 b.1) in
          (a.0, a.1, λ e. let n = b.2 in n (omega (arith, ints, e))))
    ])

    same_place : x ≡ y → (j : ℕ) → NamesOf (Differs x y by) j → j ≡ x
    same_place e j (inl at) = at
    same_place e j (inr (inl at)) = at ∙ sym e
    same_place e j (inr (inr at)) = at ∙ sym e

    by_places : (x ≡ y) ⊎ (x ≢ y) → NamesOf (Differs x y by) i → HasPointAt (Differs x y by) after i v
    by_places (inl e) named = let p = was named in record {
      point = p.point;
      is_point = record {
        inside = (λ j at. subst (λ k. after k (p.point k)) (sym (same_place e j at ∙ sym (same_place e i named))) (subst (after i) (sym p.at) h));
        satisfies = p.is_point.satisfies;
      };
      at = p.at;
    }
    by_places (inr ne) (inl e) = subst (λ k. HasPointAt (Differs x y by) after k v) (sym e) (by_first ne (subst (λ k. after k v) e h) (subst (λ k. HasPointAt (Differs x y by) before k v) e (was (inl e))))
    by_places (inr ne) (inr (inl e)) = subst (λ k. HasPointAt (Differs x y by) after k v) (sym e) (by_second ne (subst (λ k. after k v) e h) (subst (λ k. HasPointAt (Differs x y by) before k v) e (was (inr (inl e)))))
    by_places (inr ne) (inr (inr e)) = subst (λ k. HasPointAt (Differs x y by) after k v) (sym e) (by_second ne (subst (λ k. after k v) e h) (subst (λ k. HasPointAt (Differs x y by) before k v) e (was (inr (inl e)))))

-- so for each rule
pub fixed_where_it_stays : (rule : Rule) (before after : ℕ → ℤ → Type 0) → LiesWithin after before
    → ((i : ℕ) → NamesOf rule i → StaysAt rule before after i) → IsFixedBy before rule → IsFixedBy after rule
fixed_where_it_stays (Sum c) before after w stays f = fixed_elsewhere (Sum c) before after w (λ i named. elim (stays i named) [ inl same ↦ same | inr two ↦ absurd (false≢true two.0) ]) f
fixed_where_it_stays (Shifted x y by) before after w stays f =
    fixed_elsewhere (Shifted x y by) before after w (λ i named. elim (stays i named) [ inl same ↦ same | inr two ↦ absurd (false≢true two.0) ]) f
fixed_where_it_stays (AtMost x y by) before after w stays f =
    fixed_elsewhere (AtMost x y by) before after w (λ i named. elim (stays i named) [ inl same ↦ same | inr two ↦ absurd (false≢true two.0) ]) f
fixed_where_it_stays (Differs x y by) before after w stays f = differing_stays x y by before after w stays f

-- What a run list leaves of another one, from two places on: what is held of the pair at the first of them, and the pairs after it.
use Rattle.std.proofs.Common.{◌≡◌, inl, inr, ⊎_elim, ℕ, ◌+◌, ◌<◌, ◌≤◌, ℤ, pos, ◌+ℤ◌, ◌-ℤ◌, ◌≤ℤ◌, ◌<ℤ◌, List, [], ◌∷◌, Option, Some, None, length, get_or, map, drop, option_map, refl, ap, sym, subst, arith, ◌∙◌}
use Rattle.std.specs.Prelude.{slice_get}
use Rattle.std.specs.Int.{int_max, int_min}
use Rattle.std.proofs.lemmas.Int.{ints, clamps}
use Rattle.std.proofs.lemmas.List.{length-map}
use Rattle.std.proofs.lemmas.Option.{slice_get_within}
use Rattle.ivl_laws.specs.Sets.{Above, Below, IsBetween, SameMembers, Union, Without}
use Rattle.ivl_laws.specs.Runs.{Covers, IsMaximal, IsRunListIn, IsRunsOf}
use Rattle.ivl_laws.proofs.Runs.{covered_after}
use Rattle.ivl_walks.specs.HeldRun.{led_by}
use Rattle.ivl_walks.specs.Order.{IsBelow}
use Rattle.ivl_walks.proofs.MergeState.{building_below, building_takes}
use Rattle.ivl_walks.proofs.Differences.{cut_maximal, part_is_above, parts_first, parts_second}
use Rattle.ivl_walks.specs.Sinks.{AddsFilled, IsRunIn}
use Rattle.ivl_walks.proofs.Laying.{IsHeld, IsLaying, laying_begins, laying_ends, lays}
use Rattle.ivl_walks.proofs.IntersectionSteps.{led}
use Rattle.ivl_walks.proofs.RunBounds.{length_of_without}
use Rattle.ivl_walks.proofs.Suffixes.{first_is_run, led_at, none_from, rest_all, rest_at, rest_list, rest_none}

-- ---- parts of a run

abbrev pub below_part : ℤ × ℤ → ℤ × ℤ → ℤ × ℤ
below_part p q = (p.0, int_min p.1 (q.0 -ℤ pos 1))

abbrev pub above_part : ℤ × ℤ → ℤ × ℤ → ℤ × ℤ
above_part p q = (int_max p.0 (q.1 +ℤ pos 1), p.1)

below_is : (p q : ℤ × ℤ) → SameMembers (IsBetween (below_part p q)) (Below q.0 (IsBetween p))
below_is p q z = (
  (λ b. let l = b.0 in let h = b.1 in ((l, omega (arith, ints, clamps)), omega (arith, ints, clamps))),
  (λ b. let l = b.0.0 in let h = b.0.1 in let k = b.1 in (l, omega (arith, ints, clamps))),
)

pub above_is : (p q : ℤ × ℤ) → SameMembers (IsBetween (above_part p q)) (Above q.1 (IsBetween p))
above_is p q z = (
  (λ b. let l = b.0 in let h = b.1 in ((omega (arith, ints, clamps), h), omega (arith, ints, clamps))),
  (λ b. let l = b.0.0 in let h = b.0.1 in let k = b.1 in (omega (arith, ints, clamps), h)),
)

-- ---- one step, where p and q are the first pairs

module _ (A B : List (ℤ × ℤ)) (p q : ℤ × ℤ) (S : ℤ → Type 0) (H H' : List (ℤ × ℤ) → Type 0) (m : IsMaximal (p ∷ A)) (n : IsMaximal (q ∷ B))
    (l : AddsFilled (below_part p q) H H')
    (W : List (ℤ × ℤ)) (u : IsLaying (Without (Covers (p ∷ A)) (Covers (q ∷ B))) S H W) where
  laid_next : (W' : List (ℤ × ℤ)) × IsHeld (Union (Covers W) (IsBetween (below_part p q))) H' W'
  laid_next = lays W (below_part p q) H H' u.state.maximal
      (part_is_above W (Some p) (Some q) A B p q (below_part p q) S refl refl (led p A m) (led q B n) u.state (below_is p q)) u.held l

  pub part_first : p.1 ≤ℤ q.1 → (W' : List (ℤ × ℤ)) × IsLaying (Without (Covers A) (Covers (q ∷ B))) S H' W'
  part_first h = let (W', v) = laid_next in (
    W',
    record {
      state = parts_first W (Some p) (Some q) A B p q (below_part p q) S refl refl (led p A m) (led q B n) u.state (below_is p q) W' v.runs None A refl h;
      held = v.held;
    },
  )

  pub part_second : q.1 <ℤ p.1 → (W' : List (ℤ × ℤ)) × IsLaying (Without (Covers (above_part p q ∷ A)) (Covers B)) S H' W'
  part_second h = let (W', v) = laid_next in (
    W',
    record {
      state = parts_second W (Some p) (Some q) A B p q (below_part p q) S refl refl (led p A m) (led q B n) u.state (below_is p q) W' v.runs (above_part p q) None B refl h (above_is p q);
      held = v.held;
    },
  )

-- the second list is at its end
module _ (A : List (ℤ × ℤ)) (p : ℤ × ℤ) (S : ℤ → Type 0) (H H' : List (ℤ × ℤ) → Type 0) (m : IsMaximal (p ∷ A)) (l : AddsFilled p H H')
    (W : List (ℤ × ℤ)) (u : IsLaying (Without (Covers (p ∷ A)) (Covers [])) S H W) where
  parts_alone : SameMembers (Without (Covers (p ∷ A)) (Covers [])) (Union (IsBetween p) (Without (Covers A) (Covers [])))
  parts_alone z = (
    (λ (c, f). ⊎_elim (λ b. inl b) (λ a. inr (a, f)) c),
    ⊎_elim (λ b. (inl b, λ c. c)) (λ (a, f). (inr a, f)),
  )

  apart : IsBelow (pos 2) (IsBetween p) (Without (Covers A) (Covers []))
  apart x y i c = let high = i.1 in let far = covered_after p.1 A y m.1 m.2 c.0 in omega (arith, ints)

  pub part_alone : (W' : List (ℤ × ℤ)) × IsLaying (Without (Covers A) (Covers [])) S H' W'
  part_alone =
      let (W', v) = lays W p H H' u.state.maximal (building_below (pos 2) W _ _ S u.state (λ z b. (inl b, λ c. c))) u.held l in
      (W', record { state = building_takes (pos 2) W W' _ (IsBetween p) _ S u.state parts_alone apart v.runs; held = v.held })

-- ---- the same, by the places in two lists

module _ {X : Type 0} (pair : X → ℤ × ℤ) (a b : List X) where
  abbrev pub held_from : Option X → ℕ → List (ℤ × ℤ)
  held_from held i = led_by (option_map pair held) (map pair (drop (i + 1) a))

  abbrev pub left_from : Option X → ℕ → ℕ → ℤ → Type 0
  left_from held i j = Without (Covers (held_from held i)) (Covers (map pair (drop j b)))

  abbrev pub left_of : ℤ → Type 0
  left_of = Without (Covers (map pair a)) (Covers (map pair b))

  abbrev pub IsParting : Option X → ℕ → ℕ → (List (ℤ × ℤ) → Type 0) → Type 0
  IsParting held i j H = (W : List (ℤ × ℤ)) × IsLaying (left_from held i j) left_of H W

  -- the pair at the next place is held
  pub held_next : (held : Option X) (i : ℕ) → held ≡ slice_get a i → held_from held i ≡ map pair (drop i a)
  held_next held i e = subst (λ (o : Option X). held_from o i ≡ map pair (drop i a)) (sym e) (sym (led_at pair a i))

  pub held_list : (whole : ℤ × ℤ) (held : Option X) (i : ℕ) → held ≡ slice_get a i → IsRunListIn whole (map pair a) → IsRunListIn whole (held_from held i)
  held_list whole held i e r = subst (IsRunListIn whole) (sym (held_next held i e)) (rest_list pair whole a i r)

  pub held_place : (held : Option X) (i : ℕ) → held ≡ slice_get a i → (x : X) → held ≡ Some x → i < length a
  held_place held i e x f = slice_get_within a i x (sym e ∙ f)

  pub parting_begins : (held : Option X) (H : List (ℤ × ℤ) → Type 0) → held ≡ slice_get a 0 → H [] → IsParting held 0 0 H
  parting_begins held H e h = rw (held_next held 0 e, rest_all pair a, rest_all pair b) (laying_begins left_of H h)

  pub difference_at_most : (L : List (ℤ × ℤ)) → IsRunsOf L left_of → length L ≤ length a + length b
  difference_at_most L r =
      let few = length_of_without (map pair a) (map pair b) L r in
      let first = length-map a pair in let second = length-map b pair in omega (arith, few, first, second)

  module _ (held : Option X) (i j : ℕ) (x : X) (H H' : List (ℤ × ℤ) → Type 0) (whole : ℤ × ℤ) (e : held ≡ Some x)
      (m : IsRunListIn whole (held_from held i)) (u : IsParting held i j H) where
    abbrev A : List (ℤ × ℤ)
    A = map pair (drop (i + 1) a)

    held_open : held_from held i ≡ pair x ∷ A
    held_open = ap (λ (o : Option X). held_from o i) e

    first_is : IsRunListIn whole (pair x ∷ A)
    first_is = subst (IsRunListIn whole) held_open m

    pub held_is_run : IsRunIn whole (pair x)
    held_is_run = first_is_run whole (pair x) A first_is

    state : (W : List (ℤ × ℤ)) × IsLaying (Without (Covers (pair x ∷ A)) (Covers (map pair (drop j b)))) left_of H W
    state = subst (λ (M : List (ℤ × ℤ)). (W : List (ℤ × ℤ)) × IsLaying (Without (Covers M) (Covers (map pair (drop j b)))) left_of H W) held_open u

    -- the second list is at its end
    pub parting_alone : length b ≤ j → AddsFilled (pair x) H H' → (next : Option X) → next ≡ slice_get a (i + 1) → IsParting next (i + 1) j H'
    parting_alone h l next f =
        let none = rest_none pair b j h in
        let (W, v) = subst (λ (M : List (ℤ × ℤ)). (V : List (ℤ × ℤ)) × IsLaying (Without (Covers (pair x ∷ A)) (Covers M)) left_of H V) none state in
        rw (held_next next (i + 1) f, none) (part_alone A (pair x) left_of H H' first_is.maximal l W v)

    module _ (y : X) (k : j < length b) (by : y ≡ get_or b j y) (n : IsRunListIn whole (map pair b)) (l : AddsFilled (below_part (pair x) (pair y)) H H') where
      abbrev B : List (ℤ × ℤ)
      B = map pair (drop (j + 1) b)

      second_open : map pair (drop j b) ≡ pair y ∷ B
      second_open = rest_at pair b j y k by

      second_is : IsRunListIn whole (pair y ∷ B)
      second_is = subst (IsRunListIn whole) second_open (rest_list pair whole b j n)

      both : (W : List (ℤ × ℤ)) × IsLaying (Without (Covers (pair x ∷ A)) (Covers (pair y ∷ B))) left_of H W
      both = subst (λ (M : List (ℤ × ℤ)). (W : List (ℤ × ℤ)) × IsLaying (Without (Covers (pair x ∷ A)) (Covers M)) left_of H W) second_open state

      pub parting_first : (pair x).1 ≤ℤ (pair y).1 → (next : Option X) → next ≡ slice_get a (i + 1) → IsParting next (i + 1) j H'
      parting_first le next f =
          let (W, v) = both in
          rw (held_next next (i + 1) f, second_open) (part_first A B (pair x) (pair y) left_of H H' first_is.maximal second_is.maximal l W v le)

      pub parting_second : (pair y).1 <ℤ (pair x).1 → (cut : X) → pair cut ≡ above_part (pair x) (pair y) → IsParting (Some cut) i (j + 1) H'
      parting_second lt cut f =
          let (W, v) = both in
          subst (λ (p : ℤ × ℤ). (V : List (ℤ × ℤ)) × IsLaying (Without (Covers (p ∷ A)) (Covers B)) left_of H' V) (sym f)
          (part_second A B (pair x) (pair y) left_of H H' first_is.maximal second_is.maximal l W v lt)

      pub cut_list : (pair y).1 <ℤ (pair x).1 → (cut : X) → pair cut ≡ above_part (pair x) (pair y) → IsRunListIn whole (held_from (Some cut) i)
      cut_list lt cut f = subst (λ (p : ℤ × ℤ). IsRunListIn whole (p ∷ A)) (sym f) (record {
        maximal = cut_maximal (pair x) (above_part (pair x) (pair y)) (pair y).1 A first_is.maximal lt (above_is (pair x) (pair y));
        within = λ z c. first_is.within z (⊎_elim (λ d. inl ((above_is (pair x) (pair y) z).0 d).0) (λ d. inr d) c);
      })

  pub parting_ends : (held : Option X) (i j : ℕ) (H : List (ℤ × ℤ) → Type 0) → held ≡ None → ((held ≡ None) → map pair (drop (i + 1) a) ≡ []) → IsParting held i j H →
      (L : List (ℤ × ℤ)) × IsHeld left_of H L
  parting_ends held i j H e ended u =
      let empty : held_from held i ≡ [] = ap (λ (o : Option X). held_from o i) e ∙ ended e in
      laying_ends (left_from held i j) left_of H (λ z c. subst (λ (L : List (ℤ × ℤ)). Covers L z) empty c.0) u

  pub held_ended : (held : Option X) (i : ℕ) → held ≡ slice_get a i → held ≡ None → map pair (drop (i + 1) a) ≡ []
  held_ended held i f e = ap (λ (o : Option X). held_from o i) (sym e) ∙ held_next held i f ∙ none_from pair a i (sym f ∙ e)

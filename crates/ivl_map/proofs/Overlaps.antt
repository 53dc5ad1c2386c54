-- A walk over entries and runs: what they have in common.
use Rattle.std.proofs.Common.{◌≡◌, ◌⊎◌, ⊎_elim, inl, inr, ℕ, zero, suc, ◌<◌, ◌≤◌, ℤ, ◌≤ℤ◌, ◌<ℤ◌, Bool, true, List, [], ◌∷◌, length, get_or, drop, sym, subst, ◌∙◌, arith}
use Rattle.std.proofs.lemmas.Int.{ints}
use Rattle.std.specs.Cmp.{IsEquivalence}
use Rattle.ivl_laws.specs.Sets.{Intersection, IsBetween, SameMembers}
use Rattle.ivl_laws.specs.Runs.{Covers, IsMaximal}
use Rattle.ivl_laws.proofs.Runs.{covered_after}
use Rattle.ivl_map.specs.Entries.{HasAt, IsEntriesOf, IsEntryList, AllEndBelow, OnlyAt, Written}
use Rattle.ivl_map.proofs.Lists.{has_at, has-drop_more}
use Rattle.ivl_map.proofs.Writing.{after_end, first_split}

-- D has what the entries E and the runs R have in common, up to where E goes on from place i and R from place j
pub record IsWalked {V : Type 0} (eq : V → V → Bool) (E : List ((ℤ × ℤ) × V)) (R : List (ℤ × ℤ)) (i j : ℕ) (D : List ((ℤ × ℤ) × V)) : Type 0 where
  pub maximal : IsEntryList eq D
  pub held : (z : ℤ) (v : V) → HasAt eq D z v → OnlyAt (Covers R) (HasAt eq E) z v
  pub done : (z : ℤ) (v : V) → HasAt eq E z v → Covers R z → HasAt eq D z v ⊎ (HasAt eq (drop i E) z v × Covers (drop j R) z)
  pub below : (x y : ℤ) (v w : V) → HasAt eq D x v → HasAt eq (drop i E) y w → Covers (drop j R) y → x <ℤ y

-- ---- runs

covers_first : (R : List (ℤ × ℤ)) (j : ℕ) (d : ℤ × ℤ) (z : ℤ) → j < length R → Covers (drop j R) z → IsBetween (get_or R j d) z ⊎ Covers (drop (suc j) R) z
covers_first [] j d z h c = absurd (omega arith)
covers_first (p ∷ R) zero d z h (inl b) = inl b
covers_first (p ∷ R) zero d z h (inr c) = inr c
covers_first (p ∷ R) (suc j) d z h c = covers_first R j d z (omega arith) c

covers_here : (R : List (ℤ × ℤ)) (j : ℕ) (d : ℤ × ℤ) (z : ℤ) → j < length R → IsBetween (get_or R j d) z → Covers (drop j R) z
covers_here [] j d z h b = absurd (omega arith)
covers_here (p ∷ R) zero d z h b = inl b
covers_here (p ∷ R) (suc j) d z h b = covers_here R j d z (omega arith) b

covers_rest : (R : List (ℤ × ℤ)) (j : ℕ) (z : ℤ) → Covers (drop (suc j) R) z → Covers (drop j R) z
covers_rest [] zero z c = absurd c
covers_rest [] (suc j) z c = absurd c
covers_rest (p ∷ R) zero z c = inr c
covers_rest (p ∷ R) (suc j) z c = covers_rest R j z c

covers_of_drop : (R : List (ℤ × ℤ)) (j : ℕ) (z : ℤ) → Covers (drop j R) z → Covers R z
covers_of_drop [] zero z c = absurd c
covers_of_drop [] (suc j) z c = absurd c
covers_of_drop (p ∷ R) zero z c = c
covers_of_drop (p ∷ R) (suc j) z c = inr (covers_of_drop R j z c)

run_after : (R : List (ℤ × ℤ)) (j : ℕ) (d : ℤ × ℤ) (z : ℤ) → IsMaximal R → j < length R → Covers (drop (suc j) R) z → (get_or R j d).1 <ℤ z
run_after [] j d z m h c = absurd (omega arith)
run_after (p ∷ R) zero d z m h c = let a = covered_after p.1 R z m.1 m.2 c in omega (arith, ints, a)
run_after (p ∷ R) (suc j) d z m h c = run_after R j d z m.2 (omega arith) c

no_runs : (R : List (ℤ × ℤ)) (j : ℕ) (z : ℤ) → Covers (drop j R) z → j < length R
no_runs [] zero z c = absurd c
no_runs [] (suc j) z c = absurd c
no_runs (p ∷ R) zero z c = omega arith
no_runs (p ∷ R) (suc j) z c = let h = no_runs R j z c in omega (arith, h)

module _ {V : Type 0} (eq : V → V → Bool) (o : IsEquivalence eq) where
  no_entries : (E : List ((ℤ × ℤ) × V)) (i : ℕ) (z : ℤ) (w : V) → length E ≤ i → ¬ (HasAt eq (drop i E) z w)
  no_entries [] zero z w h c = c
  no_entries [] (suc i) z w h c = c
  no_entries (e ∷ E) zero z w h c = absurd (omega arith)
  no_entries (e ∷ E) (suc i) z w h c = no_entries E i z w (omega arith) c

  has_here : (E : List ((ℤ × ℤ) × V)) (i : ℕ) (d : (ℤ × ℤ) × V) (z : ℤ) (w : V) → i < length E → IsBetween (get_or E i d).0 z → eq (get_or E i d).1 w ≡ true → HasAt eq (drop i E) z w
  has_here [] i d z w h b s = absurd (omega arith)
  has_here (e ∷ E) zero d z w h b s = inl (b, s)
  has_here (e ∷ E) (suc i) d z w h b s = has_here E i d z w (omega arith) b s

  -- where all numbers of a list lie below u
  pub all_below : (D : List ((ℤ × ℤ) × V)) (u : ℤ) → IsEntryList eq D → ((x : ℤ) (v : V) → HasAt eq D x v → x <ℤ u) → AllEndBelow u D
  all_below [] u m h = tt
  all_below (e ∷ D) u m h = (h e.0.1 e.1 (inl ((m.0, omega (arith, ints)), o.refl e.1)), all_below D u m.2 (λ x v c. h x v (inr c)))

  -- what is written does not depend on which of two equal values it is
  pub written_alike : (E D : List ((ℤ × ℤ) × V)) (p : ℤ × ℤ) (x y : V) → eq x y ≡ true → IsEntriesOf eq D (Written eq p y (HasAt eq E)) → IsEntriesOf eq D (Written eq p x (HasAt eq E))
  written_alike E D p x y s d = record {
    maximal = d.maximal;
    values = λ z v. (
      (λ c. ⊎_elim (λ (b, t). inl (b, o.congr x y v s ∙ t)) (λ k. inr k) ((d.values z v).0 c)),
      ⊎_elim (λ (b, t). (d.values z v).1 (inl (b, sym (o.congr x y v s) ∙ t))) (λ k. (d.values z v).1 (inr k)),
    );
  }

  module _ (E : List ((ℤ × ℤ) × V)) (R : List (ℤ × ℤ)) (m : IsEntryList eq E) (n : IsMaximal R) where
    pub walk_begins : (D : List ((ℤ × ℤ) × V)) → D ≡ [] → IsWalked eq E R 0 0 D
    walk_begins D e = subst (λ (L : List ((ℤ × ℤ) × V)). IsWalked eq E R 0 0 L) (sym e) (record {
      maximal = tt;
      held = λ z v c. absurd c;
      done = λ z v c r. inr (all_entries E z v c, all_runs R z r);
      below = λ x y v w c. absurd c;
    })
      where
        all_entries : (E : List ((ℤ × ℤ) × V)) (z : ℤ) (v : V) → HasAt eq E z v → HasAt eq (drop 0 E) z v
        all_entries [] z v c = c
        all_entries (e ∷ E) z v c = c

        all_runs : (R : List (ℤ × ℤ)) (z : ℤ) → Covers R z → Covers (drop 0 R) z
        all_runs [] z c = c
        all_runs (p ∷ R) z c = c

    pub walk_ends : (i j : ℕ) (D : List ((ℤ × ℤ) × V)) → (length E ≤ i) ⊎ (length R ≤ j) → IsWalked eq E R i j D → IsEntriesOf eq D (OnlyAt (Covers R) (HasAt eq E))
    walk_ends i j D t l = record {
      maximal = l.maximal;
      values = λ z v. (
        (λ c. l.held z v c),
        (λ (c, r). ⊎_elim (λ k. k) (λ k. absurd (⊎_elim (λ h. no_entries E i z v h k.0) (λ h. let less = no_runs R j z k.1 in omega (arith, h, less)) t)) (l.done z v c r)),
      );
    }

    module _ (i j : ℕ) (d : (ℤ × ℤ) × V) (b p : ℤ × ℤ) (D N : List ((ℤ × ℤ) × V)) (h : i < length E) (k : j < length R)
        (same : SameMembers (IsBetween p) (Intersection (IsBetween (get_or E i d).0) (IsBetween (get_or R j b)))) (l : IsWalked eq E R i j D) where
      -- the common part lies above what there is
      pub part_above : p.0 ≤ℤ p.1 → AllEndBelow p.0 D
      part_above filled =
          let q = (same p.0).0 (omega (arith, ints), filled) in
          all_below D p.0 l.maximal (λ x v c. l.below x p.0 v (get_or E i d).1 c (has_here E i d p.0 (get_or E i d).1 h q.0 (o.refl (get_or E i d).1)) (covers_here R j b p.0 k q.1))

      module _ (w : IsEntriesOf eq N (Written eq p (get_or E i d).1 (HasAt eq D))) where
        new_held : (z : ℤ) (v : V) → HasAt eq N z v → OnlyAt (Covers R) (HasAt eq E) z v
        new_held z v c = ⊎_elim
            (λ (t, s). let q = (same z).0 t in (has_at eq E i d z v h q.0 s, covers_of_drop R j z (covers_here R j b z k q.1)))
            (λ (t, out). l.held z v t)
            ((w.values z v).0 c)

        not_in_part : (z : ℤ) (v : V) → HasAt eq D z v → ¬ (IsBetween p z)
        not_in_part z v c t =
            let q = (same z).0 t in
            let a = l.below z z v (get_or E i d).1 c (has_here E i d z (get_or E i d).1 h q.0 (o.refl (get_or E i d).1)) (covers_here R j b z k q.1) in
            omega (arith, ints, a)

        old_stays : (z : ℤ) (v : V) → HasAt eq D z v → HasAt eq N z v
        old_stays z v c = (w.values z v).1 (inr (c, λ t. not_in_part z v c t))

        -- the entry ends no later than the run
        pub entry_done : (get_or E i d).0.1 ≤ℤ (get_or R j b).1 → IsWalked eq E R (suc i) j N
        entry_done ends = record {
          maximal = w.maximal;
          held = new_held;
          done = λ z v c r. ⊎_elim
              (λ t. inl (old_stays z v t))
              (λ (t, u). ⊎_elim
              (λ (f, s). ⊎_elim
              (λ g. inl ((w.values z v).1 (inl ((same z).1 (f, g), s))))
              (λ g. let a = run_after R j b z n k g in absurd (omega (arith, ints, a, ends, f.1)))
              (covers_first R j b z k u))
              (λ f. inr (f, u))
              (first_split eq o E i d z v h t))
              (l.done z v c r);
          below = λ x y v v' c t u. ⊎_elim
              (λ (f, s). let a = after_end eq o E i d y v' m h t in let q = (same x).0 f in omega (arith, ints, a, q.0.1))
              (λ (f, out). l.below x y v v' f (has-drop_more eq E i (suc i) y v' (omega arith) t) u)
              ((w.values x v).0 c);
        }

        -- the run ends before the entry
        pub run_done : (get_or R j b).1 <ℤ (get_or E i d).0.1 → IsWalked eq E R i (suc j) N
        run_done ends = record {
          maximal = w.maximal;
          held = new_held;
          done = λ z v c r. ⊎_elim
              (λ t. inl (old_stays z v t))
              (λ (t, u). ⊎_elim
              (λ g. ⊎_elim
              (λ (f, s). inl ((w.values z v).1 (inl ((same z).1 (f, g), s))))
              (λ f. let a = after_end eq o E i d z v m h f in absurd (omega (arith, ints, a, ends, g.1)))
              (first_split eq o E i d z v h t))
              (λ g. inr (t, g))
              (covers_first R j b z k u))
              (l.done z v c r);
          below = λ x y v v' c t u. ⊎_elim
              (λ (f, s). let a = run_after R j b y n k u in let q = (same x).0 f in omega (arith, ints, a, q.1.1))
              (λ (f, out). l.below x y v v' f t (covers_rest R j y u))
              ((w.values x v).0 c);
        }

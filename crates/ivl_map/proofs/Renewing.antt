-- Entries that are made anew round an interval, in the place of those from place a to before place b.
use Rattle.std.proofs.Common.{◌≡◌, ◌⊎◌, ⊎_elim, inl, inr, ℕ, zero, suc, ◌+◌, ◌-◌, ◌≤◌, ℤ, pos, ◌+ℤ◌, ◌<ℤ◌, Bool, List, [], ◌∷◌, ◌++◌, length, take, drop, ap, subst, ◌∙◌, arith}
use Rattle.std.proofs.lemmas.Int.{ints}
use Rattle.std.proofs.lemmas.List.{drop-drop}
use Rattle.std.specs.Cmp.{IsEquivalence}
use Rattle.ivl_laws.specs.Counts.{IsIn}
use Rattle.ivl_laws.specs.Sets.{IsBetween}
use Rattle.ivl_map.specs.Entries.{AllEndBelow, FirstStartsAbove, HasAt, IsEntryList, IsEntrySpan, Precede}
use Rattle.ivl_map.specs.Changes.{IsUpdated}
use Rattle.ivl_map.specs.Lookups.{IsStoredAt}
use Rattle.ivl_map.proofs.Lists.{above_past, entries_of_spliced, has-drop, has-split, has-take, has_above, has_below, parts_precede, IsEntryList-drop}
use Rattle.ivl_map.proofs.Windows.{window_none}

is_in_split : {X : Type 0} (xs : List X) (i : ℕ) (x : X) → IsIn xs x → IsIn (take i xs) x ⊎ IsIn (drop i xs) x
is_in_split [] zero x c = absurd c
is_in_split [] (suc i) x c = absurd c
is_in_split (y ∷ ys) zero x c = inr c
is_in_split (y ∷ ys) (suc i) x (inl e) = inl (inl e)
is_in_split (y ∷ ys) (suc i) x (inr c) = ⊎_elim (λ a. inl (inr a)) (λ b. inr b) (is_in_split ys i x c)

module _ {V : Type 0} (eq : V → V → Bool) (o : IsEquivalence eq) where
  -- what an entry has
  pub is_at : (E : List ((ℤ × ℤ) × V)) (e : (ℤ × ℤ) × V) (z : ℤ) → IsIn E e → IsBetween e.0 z → HasAt eq E z e.1
  is_at [] e z c b = absurd c
  is_at (f ∷ E) e z (inl s) b = let P : (ℤ × ℤ) × V → Type 0 = λ g. HasAt eq (g ∷ E) z e.1 in subst P s (inl (b, o.refl e.1))
  is_at (f ∷ E) e z (inr c) b = inr (is_at E e z c b)

  -- numbers of the entries before one that ends below v do not even touch v
  far_below : (v : ℤ) (E : List ((ℤ × ℤ) × V)) (a : ℕ) (x : ℤ) (w : V) → IsEntryList eq E → suc a ≤ length E → AllEndBelow v (take (suc a) E) → HasAt eq (take a E) x w → (x +ℤ pos 1) <ℤ v
  far_below v [] a x w m h b c = absurd (omega arith)
  far_below v (e ∷ E) zero x w m h b c = absurd c
  far_below v (e ∷ []) (suc a) x w m h b c = absurd (omega arith)
  far_below v (e ∷ f ∷ E) (suc a) x w m h b (inl (k, s)) = omega (arith, ints, k.1, m.1.0, m.2.0, b.1.0)
  far_below v (e ∷ f ∷ E) (suc a) x w m h b (inr c) = far_below v (f ∷ E) a x w m.2 (omega arith) b.1 c

  -- nor do those after one that starts above v
  far_above : (v : ℤ) (E : List ((ℤ × ℤ) × V)) (j : ℕ) (y : ℤ) (w : V) → IsEntryList eq E → FirstStartsAbove v (drop j E) → HasAt eq (drop (suc j) E) y w → (v +ℤ pos 1) <ℤ y
  far_above v [] zero y w m f c = absurd c
  far_above v [] (suc j) y w m f c = absurd c
  far_above v (e ∷ []) zero y w m f c = absurd c
  far_above v (e ∷ g ∷ E) zero y w m f c = let a = above_past eq e (g ∷ E) y w m c in omega (arith, ints, f, m.0, a)
  far_above v (e ∷ E) (suc j) y w m f c = far_above v E j y w m.2 f c

  module _ (Gives : V → V → Type 0) (q : ℤ × ℤ) (E : List ((ℤ × ℤ) × V)) (i j : ℕ) (m : IsEntryList eq E) (s : IsEntrySpan E q i j) where
    -- where no entry has a number of q, nothing changes
    pub none_to_update : j ≤ i → IsUpdated eq Gives (IsBetween q) E E
    none_to_update h = record {
      maximal = m;
      others = λ z v out. ((λ c. c), (λ c. c));
      changed = λ z v t k. absurd (window_none eq E q i j m s h z v t (is_at E (k.0, v) z k.1 k.2));
      no_more = λ z k. k;
    }

    module _ (a b : ℕ) (from : (a ≡ 0) ⊎ (suc a ≤ i)) (low : a ≤ i) (to : (b ≡ length E) ⊎ (b ≡ suc j)) (high : j ≤ b) (M : List ((ℤ × ℤ) × V))
        (u : IsUpdated eq Gives (IsBetween q) (take (b - a) (drop a E)) M) where
      order : a ≤ b
      order = omega (arith, low, high, s.in_order)

      there : drop (b - a) (drop a E) ≡ drop b E
      there = drop-drop (b - a) a E ∙ ap (λ (n : ℕ). drop n E) (omega (arith, order))

      -- ---- the three parts

      in_middle : (z : ℤ) (v : V) → HasAt eq (take (b - a) (drop a E)) z v → HasAt eq E z v
      in_middle z v c = has-drop eq E a z v (has-take eq (drop a E) (b - a) z v c)

      parts : (z : ℤ) (v : V) → HasAt eq E z v → HasAt eq (take a E) z v ⊎ (HasAt eq (take (b - a) (drop a E)) z v ⊎ HasAt eq (drop b E) z v)
      parts z v c = ⊎_elim (λ k. inl k) (λ k. inr (⊎_elim (λ t. inl t) (λ t. inr (subst (λ (L : List ((ℤ × ℤ) × V)). HasAt eq L z v) there t)) (has-split eq (drop a E) (b - a) z v k))) (has-split eq E a z v c)

      nearer : (i : ℕ) (z : ℤ) (v : V) → a ≤ i → (E : List ((ℤ × ℤ) × V)) → HasAt eq (take a E) z v → HasAt eq (take i E) z v
      nearer i z v h E c = before E a i h c
        where
          before : (E : List ((ℤ × ℤ) × V)) (a i : ℕ) → a ≤ i → HasAt eq (take a E) z v → HasAt eq (take i E) z v
          before [] zero i h c = absurd c
          before [] (suc a) i h c = absurd c
          before (e ∷ E) zero i h c = absurd c
          before (e ∷ E) (suc a) zero h c = absurd (omega arith)
          before (e ∷ E) (suc a) (suc i) h (inl k) = inl k
          before (e ∷ E) (suc a) (suc i) h (inr k) = inr (before E a i (omega arith) k)

      -- the numbers of M are those of the middle
      up : (z : ℤ) (v : V) → HasAt eq M z v → (w : V) × HasAt eq (take (b - a) (drop a E)) z w
      up z v c = u.no_more z (v, c)

      from_a : (z : ℤ) (v : V) → HasAt eq (take (b - a) (drop a E)) z v → HasAt eq (drop a E) z v
      from_a z v c = has-take eq (drop a E) (b - a) z v c

      to_b : (z : ℤ) (v : V) → HasAt eq (take (b - a) (drop a E)) z v → HasAt eq (take b E) z v
      to_b z v c = within E a (b - a) b (omega (arith, order)) c
        where
          within : (E : List ((ℤ × ℤ) × V)) (a n b : ℕ) → n + a ≡ b → HasAt eq (take n (drop a E)) z v → HasAt eq (take b E) z v
          within [] a n b h c = absurd (has-drop eq [] a z v (has-take eq (drop a []) n z v c))
          within (e ∷ E) zero n b h c = subst (λ (k : ℕ). HasAt eq (take k (e ∷ E)) z v) (omega (arith, h)) c
          within (e ∷ E) (suc a) n zero h c = absurd (omega (arith, h))
          within (e ∷ E) (suc a) n (suc b) h c = inr (within E a n b (omega (arith, h)) c)

      -- no number that touches the parts on either side is in q
      apart_below : (x y : ℤ) (v : V) → HasAt eq (take a E) x v → y ≡ x +ℤ pos 1 → ¬ (IsBetween q y)
      apart_below x y v c t n = ⊎_elim
          (λ e. let P : ℕ → Type 0 = λ k. HasAt eq (take k E) x v in none (subst P e c))
          (λ h. let f = far_below q.0 E a x v m (omega (arith, h, s.in_order, s.at_most)) (first_below h) c in omega (arith, ints, f, t, n.0))
          from
        where
          none : ¬ (HasAt eq (take 0 E) x v)
          none k = nothing E k
            where
              nothing : (E : List ((ℤ × ℤ) × V)) → ¬ (HasAt eq (take 0 E) x v)
              nothing [] k = k
              nothing (e ∷ E) k = k

          first_below : suc a ≤ i → AllEndBelow q.0 (take (suc a) E)
          first_below h = fewer E (suc a) i h s.below
            where
              fewer : (E : List ((ℤ × ℤ) × V)) (k i : ℕ) → k ≤ i → AllEndBelow q.0 (take i E) → AllEndBelow q.0 (take k E)
              fewer [] zero i h f = tt
              fewer [] (suc k) i h f = tt
              fewer (e ∷ E) zero i h f = tt
              fewer (e ∷ E) (suc k) zero h f = absurd (omega arith)
              fewer (e ∷ E) (suc k) (suc i) h f = (f.0, fewer E k i (omega arith) f.1)

      apart_above : (x y : ℤ) (w : V) → HasAt eq (drop b E) y w → y ≡ x +ℤ pos 1 → ¬ (IsBetween q x)
      apart_above x y w c t n = ⊎_elim
          (λ e. beyond E b e c)
          (λ e. let P : ℕ → Type 0 = λ k. HasAt eq (drop k E) y w in let f = far_above q.1 E j y w m s.above (subst P e c) in omega (arith, ints, f, t, n.1))
          to
        where
          beyond : (E : List ((ℤ × ℤ) × V)) (k : ℕ) → k ≡ length E → ¬ (HasAt eq (drop k E) y w)
          beyond [] zero e k = k
          beyond [] (suc n) e k = k
          beyond (e ∷ E) zero h k = absurd (omega arith)
          beyond (e ∷ E) (suc n) h k = beyond E n (omega arith) k

      low_precedes : Precede eq (take a E) M
      low_precedes = record {
        below = λ x y v w c d. let (r, k) = up y w d in (parts_precede eq o E a a m (omega arith)).below x y v r c (from_a y r k);
        apart = λ x y v w c d t. let k = (u.others y w (apart_below x y v c t)).0 d in (parts_precede eq o E a a m (omega arith)).apart x y v w c (from_a y w k) t;
      }

      high_precedes : Precede eq M (drop b E)
      high_precedes = record {
        below = λ x y v w c d. let (r, k) = up x v c in (parts_precede eq o E b b m (omega arith)).below x y r w (to_b x r k) d;
        apart = λ x y v w c d t. let k = (u.others x v (apart_above x y w d t)).0 c in (parts_precede eq o E b b m (omega arith)).apart x y v w (to_b x v k) d t;
      }

      abbrev Now : ℤ → V → Type 0
      Now z v = HasAt eq (take a E) z v ⊎ (HasAt eq M z v ⊎ HasAt eq (drop b E) z v)

      -- an entry with a number of q stands in the middle
      stored : (z : ℤ) (v : V) → IsBetween q z → IsStoredAt E z v → IsStoredAt (take (b - a) (drop a E)) z v
      stored z v t (p, k, n) = ⊎_elim
          (λ c. let l = has_below eq q.0 (take i E) z v s.below (nearer i z v low E (is_at (take a E) (p, v) z c n)) in absurd (omega (arith, ints, l, t.0)))
          (λ c. ⊎_elim
          (λ d. (p, d, n))
          (λ d.
          let h = is_at (drop b E) (p, v) z (subst (λ (L : List ((ℤ × ℤ) × V)). IsIn L (p, v)) there d) n in
          let l = has_above eq q.1 (drop j E) z v (IsEntryList-drop eq E j m) s.above (further j z v high E h) in absurd (omega (arith, ints, l, t.1)))
          (is_in_split (drop a E) (b - a) (p, v) c))
          (is_in_split E a (p, v) k)
        where
          further : (j : ℕ) (z : ℤ) (v : V) → j ≤ b → (E : List ((ℤ × ℤ) × V)) → HasAt eq (drop b E) z v → HasAt eq (drop j E) z v
          further j z v h E c = behind E j b h c
            where
              behind : (E : List ((ℤ × ℤ) × V)) (j b : ℕ) → j ≤ b → HasAt eq (drop b E) z v → HasAt eq (drop j E) z v
              behind [] j zero h c = absurd c
              behind [] j (suc b) h c = absurd c
              behind (e ∷ E) zero b h c = has-drop eq (e ∷ E) b z v c
              behind (e ∷ E) (suc j) zero h c = absurd (omega arith)
              behind (e ∷ E) (suc j) (suc b) h c = behind E j b (omega arith) c

      pub renewed : IsUpdated eq Gives (IsBetween q) E (take a E ++ (M ++ drop b E))
      renewed =
          let n = entries_of_spliced eq o E M a b Now m u.maximal order low_precedes high_precedes (λ z v c. inl c) (λ z v c. inr (inl c)) (λ z v c. inr (inr c)) (λ z v c. c) in
          record {
            maximal = n.maximal;
            others = λ z v out. (
              (λ c. ⊎_elim
                  (λ k. has-take eq E a z v k)
                  (⊎_elim (λ k. in_middle z v ((u.others z v out).0 k)) (λ k. has-drop eq E b z v k))
                  ((n.values z v).0 c)),
              (λ c. (n.values z v).1 (⊎_elim (λ k. inl k) (λ k. inr (⊎_elim (λ t. inl ((u.others z v out).1 t)) (λ t. inr t) k)) (parts z v c))),
            );
            changed = λ z v t k. let (w, g, c) = u.changed z v t (stored z v t k) in (w, g, (n.values z w).1 (inr (inl c)));
            no_more = λ z k. ⊎_elim
                (λ c. (k.0, has-take eq E a z k.0 c))
                (⊎_elim (λ c. let (r, d) = u.no_more z (k.0, c) in (r, in_middle z r d)) (λ c. (k.0, has-drop eq E b z k.0 c)))
                ((n.values z k.0).0 k.1);
          }

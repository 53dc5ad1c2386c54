-- The entry of a number, the first one and the last one.
use Rattle.std.proofs.Common.{◌≡◌, ◌⊎◌, ◌↔◌, ⊎_elim, inl, inr, ℕ, zero, suc, ◌<◌, ◌≤◌, ℤ, ◌≤ℤ◌, Bool, true≢false, IsTrue, List, [], ◌∷◌, length, get_or, take, drop, sym, subst, ◌∙◌, arith, Option, Some, None, is_some}
use Rattle.std.specs.Prelude.{IsSomeAnd, MatchOption, slice_get}
use Rattle.std.proofs.lemmas.Int.{ints, by_lt_z}
use Rattle.std.specs.Cmp.{IsEquivalence}
use Rattle.ivl_laws.specs.Sets.{AtLeast, AtMost, HasNone, Intersection, IsBetween}
use Rattle.ivl_laws.specs.Counts.{IsIn}
use Rattle.ivl_laws.proofs.Places.{in_at}
use Rattle.ivl_places.specs.Neighbours.{IsGreatest, IsLeast}
use Rattle.ivl_map.specs.Entries.{HasAt, HasValue, IsEntryList, AllEndBelow, FirstEndsFrom, IsGap, FirstStartsAbove, AllStartBy}
use Rattle.ivl_map.specs.Lookups.{IsFirstRunOf, IsLastRunOf, IsStoredAt}
use Rattle.ivl_map.proofs.Lists.{has-split, has_above, has_at, has_below, open_at, IsEntryList-drop}
use Rattle.ivl_map.proofs.Reading.{above_end, at_some, run_here, some_at}
use Rattle.ivl_map.proofs.Searching.{end_at, start_by_at}
use Rattle.ivl_map.proofs.Unique.{from_first}
use Rattle.ivl_map.proofs.Writing.{before_start, last_split}

-- what is in the list up to the next place
pub in_next : {X : Type 0} (xs : List X) (i : ℕ) (d x : X) → i < length xs → IsIn (take (suc i) xs) x ↔ (IsIn (take i xs) x ⊎ (x ≡ get_or xs i d))
in_next [] i d x h = absurd (omega arith)
in_next (y ∷ ys) zero d x h = (⊎_elim (λ e. inr e) (λ c. absurd c), ⊎_elim (λ c. absurd c) (λ e. inl e))
in_next (y ∷ ys) (suc i) d x h =
    let r = in_next ys i d x (omega arith) in (
      ⊎_elim (λ e. inl (inl e)) (λ c. ⊎_elim (λ k. inl (inr k)) (λ e. inr e) (r.0 c)),
      ⊎_elim (⊎_elim (λ e. inl e) (λ c. inr (r.1 (inl c)))) (λ e. inr (r.1 (inr e))),
    )

pub stored_here : {V : Type 0} (E : List ((ℤ × ℤ) × V)) (i : ℕ) (d : (ℤ × ℤ) × V) (z : ℤ) → i < length E → IsSomeAnd (slice_get E i) (λ e. IsBetween e.0 z) → IsStoredAt E z (get_or E i d).1
stored_here E i d z h s = ((get_or E i d).0, in_at E i d h, at_some (λ e. IsBetween e.0 z) E i d s)

pub option_weaker : {X P P' : Type 0} (Q Q' : X → Type 0) (r : Option X) → (P → P') → ((x : X) → Q x → Q' x) → MatchOption r P Q → MatchOption r P' Q'
option_weaker Q Q' None f g h = f h
option_weaker Q Q' (Some x) f g h = g x h

-- whether an option holds something
pub some_test : {X V : Type 0} (o : Option X) (t : Bool) (F : V → Type 0) (f : X → V) → t ≡ is_some o → MatchOption o ((v : V) → ¬ (F v)) (λ x. F (f x)) → IsTrue t ↔ ((v : V) × F v)
some_test None t F f e h = ((λ s. absurd (true≢false (sym s ∙ e))), (λ (v, c). absurd (h v c)))
some_test (Some x) t F f e h = ((λ s. (f x, h)), (λ s. e))

module _ {V : Type 0} (eq : V → V → Bool) where
  none_past : (E : List ((ℤ × ℤ) × V)) (k : ℕ) (z : ℤ) (w : V) → length E ≤ k → ¬ (HasAt eq (drop k E) z w)
  none_past [] zero z w h c = c
  none_past [] (suc k) z w h c = c
  none_past (e ∷ E) zero z w h c = absurd (omega arith)
  none_past (e ∷ E) (suc k) z w h c = none_past E k z w (omega arith) c

  pub none_in : (E : List ((ℤ × ℤ) × V)) → length E ≤ 0 → HasNone (HasValue (HasAt eq E))
  none_in [] h z k = k.1
  none_in (e ∷ E) h z k = absurd (omega arith)

  pub none_next : (v : ℤ) (E : List ((ℤ × ℤ) × V)) (i : ℕ) → length E ≤ i → AllEndBelow v (take i E) → HasNone (AtLeast v (HasValue (HasAt eq E)))
  none_next v E i h b z k = ⊎_elim
      (λ a. let l = has_below eq v (take i E) z k.0.0 b a in let le = k.1 in omega (arith, ints, l, le))
      (λ a. none_past E i z k.0.0 h a)
      (has-split eq E i z k.0.0 k.0.1)

  pub none_previous : (v : ℤ) (E : List ((ℤ × ℤ) × V)) (i : ℕ) → i ≡ 0 → IsEntryList eq E → FirstStartsAbove v (drop i E) → HasNone (AtMost v (HasValue (HasAt eq E)))
  none_previous v [] i h m a z k = k.0.1
  none_previous v (e ∷ E) zero h m a z k = let l = has_above eq v (e ∷ E) z k.0.0 m a k.0.1 in let le = k.1 in omega (arith, ints, l, le)
  none_previous v (e ∷ E) (suc i) h m a z k = absurd (omega (arith, h))

  module _ (o : IsEquivalence eq) where
    -- the entry that has the least number of S, or the greatest
    first_run : (E : List ((ℤ × ℤ) × V)) (i : ℕ) (d : (ℤ × ℤ) × V) (S : ℤ → Type 0) (z : ℤ) → IsEntryList eq E → i < length E → IsBetween (get_or E i d).0 z → IsLeast z S → IsFirstRunOf eq S (HasAt eq E) (get_or E i d)
    first_run E i d S z m h b l = record { at = z; least = l; run = run_here eq o E i d z m h (some_at (λ e. IsBetween e.0 z) E i d h b) }

    last_run : (E : List ((ℤ × ℤ) × V)) (i : ℕ) (d : (ℤ × ℤ) × V) (S : ℤ → Type 0) (z : ℤ) → IsEntryList eq E → i < length E → IsBetween (get_or E i d).0 z → IsGreatest z S → IsLastRunOf eq S (HasAt eq E) (get_or E i d)
    last_run E i d S z m h b l = record { at = z; greatest = l; run = run_here eq o E i d z m h (some_at (λ e. IsBetween e.0 z) E i d h b) }

    from_place : (E : List ((ℤ × ℤ) × V)) (i : ℕ) (d : (ℤ × ℤ) × V) (y : ℤ) (w : V) → IsEntryList eq E → i < length E → HasAt eq (drop i E) y w → (get_or E i d).0.0 ≤ℤ y
    from_place [] i d y w m h c = absurd (omega arith)
    from_place (e ∷ E) zero d y w m h c = from_first eq o e E y w m c
    from_place (e ∷ E) (suc i) d y w m h c = from_place E i d y w m.2 (omega arith) c

    up_to_place : (E : List ((ℤ × ℤ) × V)) (k : ℕ) (d : (ℤ × ℤ) × V) (y : ℤ) (w : V) → IsEntryList eq E → k < length E → HasAt eq (take (suc k) E) y w → y ≤ℤ (get_or E k d).0.1
    up_to_place E k d y w m h c = ⊎_elim
        (λ a. let l = before_start eq o E k d y w m h a in let p = open_at eq E k d m h in omega (arith, ints, l, p))
        (λ (b, s). b.1)
        (last_split eq o E k d y w h c)

    pub first_is : (E : List ((ℤ × ℤ) × V)) (d : (ℤ × ℤ) × V) → IsEntryList eq E → 0 < length E → IsFirstRunOf eq (HasValue (HasAt eq E)) (HasAt eq E) (get_or E 0 d)
    first_is [] d m h = absurd (omega arith)
    first_is (e ∷ E) d m h =
        first_run (e ∷ E) 0 d (HasValue (HasAt eq (e ∷ E))) e.0.0 m h (omega (arith, ints), m.0)
        ((e.1, inl ((omega (arith, ints), m.0), o.refl e.1)), λ y k. from_first eq o e E y k.0 m k.1)

    pub last_is : (E : List ((ℤ × ℤ) × V)) (k : ℕ) (d : (ℤ × ℤ) × V) → IsEntryList eq E → length E ≡ suc k → IsLastRunOf eq (HasValue (HasAt eq E)) (HasAt eq E) (get_or E k d)
    last_is E k d m h =
        let e = get_or E k d in
        let less : k < length E = omega (arith, h) in
        let p = open_at eq E k d m less in
        last_run E k d (HasValue (HasAt eq E)) e.0.1 m less (p, omega (arith, ints)) (
          (e.1, has_at eq E k d e.0.1 e.1 less (p, omega (arith, ints)) (o.refl e.1)),
          λ y n. ⊎_elim (λ a. up_to_place E k d y n.0 m less a) (λ a. absurd (none_past E (suc k) y n.0 (omega (arith, h)) a)) (has-split eq E (suc k) y n.0 n.1),
        )

    pub next_is : (v : ℤ) (E : List ((ℤ × ℤ) × V)) (i : ℕ) (d : (ℤ × ℤ) × V) → IsEntryList eq E → i < length E → AllEndBelow v (take i E) → FirstEndsFrom v (drop i E) → IsFirstRunOf eq (AtLeast v (HasValue (HasAt eq E))) (HasAt eq E) (get_or E i d)
    next_is v E i d m h b s =
        let e = get_or E i d in
        let ends : v ≤ℤ e.0.1 = end_at v E i d h s in
        let p = open_at eq E i d m h in
        let S : ℤ → Type 0 = AtLeast v (HasValue (HasAt eq E)) in
        let after : (y : ℤ) (w : V) → HasAt eq E y w → v ≤ℤ y → e.0.0 ≤ℤ y = λ y w c le. ⊎_elim (λ a. let l = has_below eq v (take i E) y w b a in absurd (omega (arith, ints, l, le))) (λ a. from_place E i d y w m h a) (has-split eq E i y w c) in
        by_lt_z v e.0.0
        (λ lt. first_run E i d S e.0.0 m h (omega (arith, ints), p)
        (((e.1, has_at eq E i d e.0.0 e.1 h (omega (arith, ints), p) (o.refl e.1)), omega (arith, ints, lt)), λ y k. after y k.0.0 k.0.1 k.1))
        (λ le. first_run E i d S v m h (le, ends)
        (((e.1, has_at eq E i d v e.1 h (le, ends) (o.refl e.1)), omega (arith, ints)), λ y k. k.1))

    pub previous_is : (v : ℤ) (E : List ((ℤ × ℤ) × V)) (j k : ℕ) (d : (ℤ × ℤ) × V) → IsEntryList eq E → j ≡ suc k → k < length E → AllStartBy v (take j E) → FirstStartsAbove v (drop j E) → IsLastRunOf eq (AtMost v (HasValue (HasAt eq E))) (HasAt eq E) (get_or E k d)
    previous_is v E zero k d m t h b a = absurd (omega (arith, t))
    previous_is v E (suc j) k d m t h b a =
        let e = get_or E k d in
        let starts : e.0.0 ≤ℤ v = start_by_at v E k (suc j) d (omega (arith, t)) h b in
        let p = open_at eq E k d m h in
        let S : ℤ → Type 0 = AtMost v (HasValue (HasAt eq E)) in
        let before : (y : ℤ) (w : V) → HasAt eq E y w → y ≤ℤ v → y ≤ℤ e.0.1 = λ y w c le. ⊎_elim
        (λ n. up_to_place E k d y w m h (place_is E k (suc j) y w t n))
        (λ n. let l = has_above eq v (drop (suc j) E) y w (later E (suc j) m) a n in absurd (omega (arith, ints, l, le)))
        (has-split eq E (suc j) y w c) in
        by_lt_z e.0.1 v
        (λ lt. last_run E k d S e.0.1 m h (p, omega (arith, ints))
        (((e.1, has_at eq E k d e.0.1 e.1 h (p, omega (arith, ints)) (o.refl e.1)), omega (arith, ints, lt)), λ y n. before y n.0.0 n.0.1 n.1))
        (λ le. last_run E k d S v m h (starts, le)
        (((e.1, has_at eq E k d v e.1 h (starts, le) (o.refl e.1)), omega (arith, ints)), λ y n. n.1))
      where
        place_is : (E : List ((ℤ × ℤ) × V)) (k j : ℕ) (y : ℤ) (w : V) → j ≡ suc k → HasAt eq (take j E) y w → HasAt eq (take (suc k) E) y w
        place_is E k j y w t n = subst (λ (i : ℕ). HasAt eq (take i E) y w) t n

        later : (E : List ((ℤ × ℤ) × V)) (j : ℕ) → IsEntryList eq E → IsEntryList eq (drop j E)
        later E j m = IsEntryList-drop eq E j m

    -- the first entry that has a number of p
    pub met_is : (p : ℤ × ℤ) (E : List ((ℤ × ℤ) × V)) (i : ℕ) (d : (ℤ × ℤ) × V) → p.0 ≤ℤ p.1 → IsEntryList eq E → i < length E → AllEndBelow p.0 (take i E) → FirstEndsFrom p.0 (drop i E) → (get_or E i d).0.0 ≤ℤ p.1 →
        IsFirstRunOf eq (Intersection (IsBetween p) (HasValue (HasAt eq E))) (HasAt eq E) (get_or E i d)
    met_is p E i d w m h b s le =
        let r = next_is p.0 E i d m h b s in
        let e = get_or E i d in
        let ends : p.0 ≤ℤ e.0.1 = end_at p.0 E i d h s in
        let q = open_at eq E i d m h in
        let top : r.at ≤ℤ p.1 = by_lt_z p.0 e.0.0
        (λ lt. let l = r.least.1 e.0.0 ((e.1, has_at eq E i d e.0.0 e.1 h (omega (arith, ints), q) (o.refl e.1)), omega (arith, ints, lt)) in omega (arith, ints, l, le))
        (λ up. let l = r.least.1 p.0 ((e.1, has_at eq E i d p.0 e.1 h (up, ends) (o.refl e.1)), omega (arith, ints)) in omega (arith, ints, l, w)) in
        record { at = r.at; least = (((r.least.0.1, top), r.least.0.0), λ y k. r.least.1 y (k.1, k.0.0)); run = r.run }

  -- a gap has no value
  pub gap_is_free : (p : ℤ × ℤ) (E : List ((ℤ × ℤ) × V)) (i : ℕ) → IsEntryList eq E → IsGap E p i → HasNone (Intersection (IsBetween p) (HasValue (HasAt eq E)))
  gap_is_free p E i m gap z k = ⊎_elim
      (λ a. let l = has_below eq p.0 (take i E) z k.1.0 gap.below a in let t = k.0 in omega (arith, ints, l, t.0))
      (λ a. let l = has_above eq p.1 (drop i E) z k.1.0 (IsEntryList-drop eq E i m) gap.above a in let t = k.0 in omega (arith, ints, l, t.1))
      (has-split eq E i z k.1.0 k.1.1)

-- past the last entry there is a gap
pub gap_at_end : {V : Type 0} (E : List ((ℤ × ℤ) × V)) (p : ℤ × ℤ) (i : ℕ) → i ≡ length E → AllEndBelow p.0 E → IsGap E p i
gap_at_end E p i h b = record { at_most = omega (arith, h); below = end_below_take p.0 E i b; above = above_end p.1 E i h }
  where
    end_below_take : {V : Type 0} (u : ℤ) (E : List ((ℤ × ℤ) × V)) (i : ℕ) → AllEndBelow u E → AllEndBelow u (take i E)
    end_below_take u [] zero b = tt
    end_below_take u [] (suc i) b = tt
    end_below_take u (e ∷ E) zero b = tt
    end_below_take u (e ∷ E) (suc i) b = (b.0, end_below_take u E i b.1)

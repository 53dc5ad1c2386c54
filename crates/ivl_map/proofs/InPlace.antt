-- Which writes put their entry in the place of another, so that they need no room.
use Rattle.std.proofs.Common.{◌≡◌, ⊎_elim, inl, inr, ℕ, suc, ◌-◌, ◌<◌, ◌≤◌, ℤ, ◌≤ℤ◌, ◌<ℤ◌, Bool, true, false, List, [], ◌∷◌, length, get_or, take, drop, sym, subst, ◌∙◌, arith, Option, Some, None}
use Rattle.std.specs.Prelude.{IsSome}
use Rattle.std.proofs.lemmas.Int.{ints, by_lt_z}
use Rattle.std.proofs.lemmas.Bool.{cases_lt}
use Rattle.std.proofs.Math.Bool.{true≢false}
use Rattle.std.specs.Cmp.{IsEquivalence}
use Rattle.ivl_laws.specs.Sets.{IsBetween}
use Rattle.ivl_laws.specs.Counts.{IsIn}
use Rattle.ivl_places.specs.Edits.{widened}
use Rattle.ivl_map.specs.Entries.{HasAt, IsEntryList, JoinsAbove, JoinsBelow, entry_ended, entry_led}
use Rattle.ivl_map.proofs.Leaving.{has_in_drop, has_in_take}
use Rattle.ivl_map.proofs.Lists.{has-append_left, open_at}

pub place_in : {X : Type 0} (xs : List X) (x : X) → IsIn xs x → (k : ℕ) × (k < length xs) × (get_or xs k x ≡ x)
place_in [] x c = absurd c
place_in (y ∷ ys) x (inl e) = (0, omega arith, sym e)
place_in (y ∷ ys) x (inr c) = let (k, h, e) = place_in ys x c in (suc k, omega (arith, h), e)

module _ {V : Type 0} (eq : V → V → Bool) (o : IsEquivalence eq) where
  place_at : (E : List ((ℤ × ℤ) × V)) (z : ℤ) (x : V) (d : (ℤ × ℤ) × V) → HasAt eq E z x → (k : ℕ) × (k < length E) × IsBetween (get_or E k d).0 z × (eq (get_or E k d).1 x ≡ true)
  place_at [] z x d c = absurd c
  place_at (e ∷ E) z x d (inl (b, s)) = (0, omega arith, b, s)
  place_at (e ∷ E) z x d (inr c) = let (k, h, b, s) = place_at E z x d c in (suc k, omega (arith, h), b, s)

  in_ended : (A : List ((ℤ × ℤ) × V)) (p : Option (ℤ × ℤ)) (v : V) (z : ℤ) (w : V) → HasAt eq A z w → HasAt eq (entry_ended A p v) z w
  in_ended A None v z w c = c
  in_ended A (Some q) v z w c = has-append_left eq A ((q, v) ∷ []) z w c

  in_led : (A : List ((ℤ × ℤ) × V)) (p : Option (ℤ × ℤ)) (v : V) (z : ℤ) (w : V) → HasAt eq A z w → HasAt eq (entry_led p v A) z w
  in_led A None v z w c = c
  in_led A (Some q) v z w c = inr c

  -- the entry at place k goes whole
  abbrev pub Goes : ℕ → ℕ → Option (ℤ × ℤ) → Option (ℤ × ℤ) → ℕ → Type 0
  Goes i j a b k = (i ≤ k) × (k < j) × (IsSome a → i < k) × (IsSome b → suc k < j)

  module _ (E : List ((ℤ × ℤ) × V)) (i j : ℕ) (a b : Option (ℤ × ℤ)) (v y x : V) (p : ℤ × ℤ) (lo hi : ℤ)
      (low : JoinsBelow eq E (entry_ended (take i E) a v) p.0 x lo) (high : JoinsAbove eq E (entry_led b y (drop j E)) p.1 x hi) where
    goes : (k : ℕ) (d : (ℤ × ℤ) × V) (z : ℤ) → k < length E → IsBetween (get_or E k d).0 z → lo ≤ℤ z → z ≤ℤ hi → (IsSome a → ¬ (k ≡ i)) → (IsSome b → ¬ (suc k ≡ j)) → Goes i j a b k
    goes k d z h n from to first last =
        let e = get_or E k d in
        let i_most : i ≤ k = ⊎_elim
        (λ lt. let l = (low.left z e.1 (in_ended (take i E) a v z e.1 (has_in_take eq o E i k d z e.1 lt h n (o.refl e.1)))).1 in absurd (omega (arith, ints, l, from)))
        (λ le. le)
        (cases_lt k i) in
        let j_least : k < j = ⊎_elim
        (λ lt. lt)
        (λ le. let l = (high.right z e.1 (in_led (drop j E) b y z e.1 (has_in_drop eq o E j k d z e.1 le h n (o.refl e.1)))).1 in absurd (omega (arith, ints, l, to)))
        (cases_lt k j) in
        (i_most, j_least, λ s. let n = first s in omega (arith, i_most, n), λ s. let n = last s in omega (arith, j_least, n))

    -- an entry within p goes
    pub within_goes : (k : ℕ) (d : (ℤ × ℤ) × V) → IsEntryList eq E → k < length E → p.0 ≤ℤ (get_or E k d).0.0 → (get_or E k d).0.1 ≤ℤ p.1 →
        (IsSome a → (get_or E i d).0.0 <ℤ p.0) → (IsSome b → p.1 <ℤ (get_or E (j - 1) d).0.1) → Goes i j a b k
    within_goes k d m h from to first last =
        let n = open_at eq E k d m h in
        let l = low.lower in
        let u = high.upper in
        goes k d (get_or E k d).0.0 h (omega (arith, ints), n) (omega (arith, ints, l, from)) (omega (arith, ints, n, to, u))
        (λ s e. let t = first s in let f : p.0 ≤ℤ (get_or E i d).0.0 = subst (λ (r : ℕ). p.0 ≤ℤ (get_or E r d).0.0) e from in omega (arith, ints, t, f))
        (λ s e. let t = last s in let q : k ≡ j - 1 = omega (arith, e) in let f : (get_or E (j - 1) d).0.1 ≤ℤ p.1 = subst (λ (r : ℕ). (get_or E r d).0.1 ≤ℤ p.1) q to in omega (arith, ints, t, f))

    -- an entry that has x, in p or next to it, goes
    pub joined_goes : (d : (ℤ × ℤ) × V) (z : ℤ) → p.0 ≤ℤ p.1 → IsBetween (widened p) z → HasAt eq E z x → (IsSome a → eq (get_or E i d).1 x ≡ false) → (IsSome b → eq (get_or E (j - 1) d).1 x ≡ false) → (k : ℕ) × Goes i j a b k
    joined_goes d z w n c first last =
        let (k, h, m, s) = place_at E z x d c in
        let l = low.lower in
        let u = high.upper in
        let from : lo ≤ℤ z = by_lt_z z lo
        (λ lt. absurd (⊎_elim
        (λ t. true≢false (sym (o.refl x) ∙ low.apart z x t (omega (arith, ints, lt, l, n.0))))
        (λ (ge, t). omega (arith, ints, lt, ge))
        (low.covered z x c (omega (arith, ints, lt, l)))))
        (λ le. le) in
        let to : z ≤ℤ hi = by_lt_z hi z
        (λ lt. absurd (⊎_elim
        (λ t. true≢false (sym (o.refl x) ∙ high.apart z x t (omega (arith, ints, lt, u, n.1))))
        (λ (ge, t). omega (arith, ints, lt, ge))
        (high.covered z x c (omega (arith, ints, lt, u)))))
        (λ le. le) in
        let P : ℕ → Type 0 = λ r. eq (get_or E r d).1 x ≡ true in (
          k,
          goes k d z h m from to
              (λ t e. true≢false (sym (subst P e s) ∙ first t))
              (λ t e. let q : k ≡ j - 1 = omega (arith, e) in true≢false (sym (subst P q s) ∙ last t)),
        )

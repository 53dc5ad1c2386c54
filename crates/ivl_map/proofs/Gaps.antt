-- The first room for some numbers in a row, gap by gap.
use Rattle.std.proofs.Common.{◌≡◌, ◌↔◌, ℕ, zero, suc, ◌<◌, ◌≤◌, ℤ, pos, ◌+ℤ◌, ◌-ℤ◌, ◌≤ℤ◌, Bool, List, [], ◌∷◌, length, get_or, take, drop, refl, sym, subst, arith}
use Rattle.std.proofs.lemmas.Int.{ints, by_lt_z}
use Rattle.std.specs.Cmp.{IsEquivalence}
use Rattle.ivl_laws.specs.Bounds.{width_of}
use Rattle.ivl_laws.specs.Sets.{Above, Below, IsBetween, SameMembers, Without}
use Rattle.ivl_laws.proofs.Intervals.{width_of-crossed, width_of-filled}
use Rattle.ivl_places.specs.FirstFit.{FitsAt, IsFirstFit}
use Rattle.ivl_map.specs.Entries.{AllEndBelow, FirstStartsAbove, HasAt, HasValue, IsEntryList}
use Rattle.ivl_map.proofs.Lists.{has_at, open_at}
use Rattle.ivl_map.proofs.Reading.{none_here}
use Rattle.ivl_map.proofs.Searching.{above_at, below_to, end_below_at}

-- ---- room for n numbers

ends_at : ℕ → ℤ → ℤ
ends_at n v = (v +ℤ pos n) -ℤ pos 1

first_of : (n : ℕ) (S : ℤ → Type 0) (v : ℤ) → 0 < n → FitsAt n S v → S v
first_of n S v h f = f v (omega (arith, ints), omega (arith, ints, h))

last_of : (n : ℕ) (S : ℤ → Type 0) (v : ℤ) → 0 < n → FitsAt n S v → S ((v +ℤ pos n) -ℤ pos 1)
last_of n S v h f = f ((v +ℤ pos n) -ℤ pos 1) (omega (arith, ints, h), omega (arith, ints))

-- an interval that holds the first of n numbers in a row and the last has so many
wide_enough : (n : ℕ) (p : ℤ × ℤ) (v : ℤ) → 0 < n → IsBetween p v → IsBetween p ((v +ℤ pos n) -ℤ pos 1) → n ≤ width_of p
wide_enough n p v h b c =
    let w = width_of-filled p (omega (arith, ints, b.0, b.1)) in
    omega (arith, ints, w, b.0, c.1)

pub filled_by : (n : ℕ) (p : ℤ × ℤ) → 0 < n → n ≤ width_of p → p.0 ≤ℤ p.1
filled_by n p h w = by_lt_z p.1 p.0 (λ c. let z = width_of-crossed p c in absurd (omega (arith, h, w, z))) (λ le. le)

fewer_below : {V : Type 0} (v : ℤ) (E : List ((ℤ × ℤ) × V)) (k : ℕ) → AllEndBelow v (take (suc k) E) → AllEndBelow v (take k E)
fewer_below v [] zero b = tt
fewer_below v [] (suc k) b = tt
fewer_below v (e ∷ E) zero b = tt
fewer_below v (e ∷ E) (suc k) b = (b.0, fewer_below v E k b.1)

still_below : {V : Type 0} (u v : ℤ) (E : List ((ℤ × ℤ) × V)) → u ≤ℤ v → AllEndBelow u E → AllEndBelow v E
still_below u v [] w b = tt
still_below u v (e ∷ E) w b = (omega (arith, ints, w, b.0), still_below u v E w b.1)

none_below : {V : Type 0} (v : ℤ) (E : List ((ℤ × ℤ) × V)) → AllEndBelow v (take 0 E)
none_below v [] = tt
none_below v (e ∷ E) = tt

none_above : {V : Type 0} (v : ℤ) (E : List ((ℤ × ℤ) × V)) (k : ℕ) → length E ≤ k → FirstStartsAbove v (drop k E)
none_above v [] zero h = tt
none_above v [] (suc k) h = tt
none_above v (e ∷ E) zero h = absurd (omega arith)
none_above v (e ∷ E) (suc k) h = none_above v E k (omega arith)

-- what is left of a window after the first k entries: its numbers above them, and room is found there or nowhere
pub record IsLeft {V : Type 0} (eq : V → V → Bool) (n : ℕ) (E : List ((ℤ × ℤ) × V)) (W r : ℤ × ℤ) (k : ℕ) : Type 0 where
  pub above : (z : ℤ) → IsBetween r z → IsBetween W z × AllEndBelow z (take k E)
  pub all : (z : ℤ) → IsBetween W z → AllEndBelow z (take k E) → IsBetween r z
  pub fits : (v : ℤ) → FitsAt n (Without (IsBetween W) (HasValue (HasAt eq E))) v → IsBetween r v

module _ {V : Type 0} (eq : V → V → Bool) (o : IsEquivalence eq) (n : ℕ) (E : List ((ℤ × ℤ) × V)) (W : ℤ × ℤ) (h : 0 < n) (m : IsEntryList eq E) where
  abbrev pub Free : ℤ → Type 0
  Free = Without (IsBetween W) (HasValue (HasAt eq E))

  pub left_first : IsLeft eq n E W W 0
  left_first = record {
    above = λ z b. (b, none_below z E);
    all = λ z b a. b;
    fits = λ v f. (first_of n Free v h f).0;
  }

  module _ (r : ℤ × ℤ) (k : ℕ) (l : IsLeft eq n E W r k) where
    -- the last of n numbers in a row is left with the first
    last_left : (v : ℤ) → FitsAt n Free v → IsBetween r ((v +ℤ pos n) -ℤ pos 1)
    last_left v f =
        let b = (l.above v (l.fits v f)).1 in
        l.all ((v +ℤ pos n) -ℤ pos 1) (last_of n Free v h f).0 (still_below v ((v +ℤ pos n) -ℤ pos 1) (take k E) (omega (arith, ints, h)) b)

    -- ---- the gap before the next entry

    module _ (d : (ℤ × ℤ) × V) (less : k < length E) (g : ℤ × ℤ) (same : SameMembers (IsBetween g) (Below (get_or E k d).0.0 (IsBetween r))) where
      in_gap : (z : ℤ) → IsBetween g z → Free z
      in_gap z b =
          let (in_r, lt) = (same z).0 b in
          let (w, low) = l.above z in_r in
          (w, λ c. none_here eq z E k m low (above_at z E k d less lt) c.0 c.1)

      pub fits_in_gap : (run : ℤ × ℤ) → n ≤ width_of g → run ≡ (g.0, (g.0 +ℤ pos n) -ℤ pos 1) → IsFirstFit n Free run
      fits_in_gap run wide is =
          let filled = filled_by n g h wide in
          let w = width_of-filled g filled in
          let P : ℤ × ℤ → Type 0 = λ p. IsFirstFit n Free p in
          subst P (sym is) (record {
            count = refl;
            members = λ z b. in_gap z (b.0, omega (arith, ints, b.1, w, wide));
            lowest = λ v f.
                let at = (same g.0).0 (omega (arith, ints), filled) in
                let first = (same r.0).1 ((omega (arith, ints), omega (arith, ints, at.0.0, at.0.1)), omega (arith, ints, at.0.0, at.1)) in
                let b = l.fits v f in
                omega (arith, ints, first.0, b.0);
          })

      -- what is left past the entry, if the gap is too short
      pub left_next : (s : ℤ × ℤ) → width_of g < n → SameMembers (IsBetween s) (Above (get_or E k d).0.1 (IsBetween r)) → IsLeft eq n E W s (suc k)
      left_next s short up = record {
        above = λ z b. let (in_r, gt) = (up z).0 b in ((l.above z in_r).0, below_to eq z E k d less gt m);
        all = λ z w low. (up z).1 (l.all z w (fewer_below z E k low), end_below_at z E k (suc k) d (omega arith) less low);
        fits = λ v f.
            let e = get_or E k d in
            let in_r = l.fits v f in
            let last = (v +ℤ pos n) -ℤ pos 1 in
            let filled = open_at eq E k d m less in
            by_lt_z e.0.1 v
            (λ gt. (up v).1 (in_r, gt))
            (λ at_most. absurd (by_lt_z v e.0.0
            (λ lt. by_lt_z last e.0.0
            (λ before. let wide = wide_enough n g v h ((same v).1 (in_r, lt)) ((same last).1 (last_left v f, before)) in omega (arith, short, wide))
            (λ from. (f e.0.0 (omega (arith, ints, lt), from)).1 (e.1, has_at eq E k d e.0.0 e.1 less (omega (arith, ints), filled) (o.refl e.1))))
            (λ from. (first_of n Free v h f).1 (e.1, has_at eq E k d v e.1 less (from, at_most) (o.refl e.1)))));
      }

    -- ---- what is left past the last entry

    pub fits_in_rest : (run : ℤ × ℤ) → length E ≤ k → n ≤ width_of r → run ≡ (r.0, (r.0 +ℤ pos n) -ℤ pos 1) → IsFirstFit n Free run
    fits_in_rest run end wide is =
        let filled = filled_by n r h wide in
        let w = width_of-filled r filled in
        let P : ℤ × ℤ → Type 0 = λ p. IsFirstFit n Free p in
        subst P (sym is) (record {
          count = refl;
          members = λ z b.
              let (in_w, low) = l.above z (b.0, omega (arith, ints, b.1, w, wide)) in
              (in_w, λ c. none_here eq z E k m low (none_above z E k end) c.0 c.1);
          lowest = λ v f. (l.fits v f).0;
        })

    pub fits_nowhere : width_of r < n → (v : ℤ) → ¬ (FitsAt n Free v)
    fits_nowhere short v f = let wide = wide_enough n r v h (l.fits v f) (last_left v f) in omega (arith, short, wide)

-- what overlaps a window has the same gaps in it
pub gaps_same : {V : Type 0} (W : ℤ × ℤ) (F G : ℤ → V → Type 0) → ((z : ℤ) (v : V) → IsBetween W z → F z v ↔ G z v) → SameMembers (Without (IsBetween W) (HasValue F)) (Without (IsBetween W) (HasValue G))
gaps_same W F G h z = ((λ (b, f). (b, λ k. f (k.0, (h z k.0 b).1 k.1))), (λ (b, f). (b, λ k. f (k.0, (h z k.0 b).0 k.1))))

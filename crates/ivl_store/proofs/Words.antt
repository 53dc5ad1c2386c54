-- Bits of words.
use Rattle.std.proofs.Common.{◌≡◌, ◌≢◌, ◌↔◌, ◌⊎◌, ℕ, ◌+◌, ◌-◌, ◌*◌, ◌/◌, ◌%◌, ◌<◌, ◌≤◌, List, [], ◌∷◌, ◌++◌, take, length, get_or, inl, inr, refl, sym, ap, subst, arith, ◌∙◌, bit_and, bit_or, suc, w64}
use Rattle.std.proofs.lemmas.Bool.{cases_lt}
use Rattle.std.proofs.lemmas.Nat.{and_le_l, mod-mul-add, one_shl, pow_pos, shr-shr}
use Rattle.std.proofs.lemmas.Int.{ints}
use Rattle.std.proofs.Math.Nat.{div-le_self, le-div_iff_mul-le, pow-succ'}
use Rattle.std.proofs.Math.Pow.{pow_mono}
use Rattle.std.proofs.lemmas.Nat.Bits.{bit_at-lt, bit_at-pow_other, bit_at-pow_same, bit_at-trailing_ones, bit_at-trailing_zeros, bit_at-zero, bit_at_above, bit_at_and, bit_at_cat_high, bit_at_cat_low, bit_at_mask_below, bit_at_mask_inside, bit_at_not, bit_at_ones, bit_at_ones_above, bit_at_or, ones_shl, ones_shr, same_from_bits}
use Rattle.std.specs.Prelude.{◌^◌, Some, ℤ, pos, negsuc, ◌+ℤ◌, ◌-ℤ◌, ◌≤ℤ◌, ◌<ℤ◌}
use Rattle.std.specs.Int.{bit_at, trailing_ones, trailing_zeros}
use native.Mathlib.Nat.{mod-eq_of_lt}
use mir.Val.{of_z, to_z}
use Rattle.ivl_laws.specs.Sets.{Differences, IsBetween, IsSubset, SameMembers, Sums}
use Rattle.ivl_laws.specs.Runs.{Covers, IsRunListIn, IsRunsOf}
use Rattle.ivl_store.specs.NarrowedSets.{IsLeftOf}
use Rattle.ivl_store.proofs.NarrowedSets.{keeps_some_within}
use Rattle.ivl_within.proofs.Moved.{part_pushed}
use Rattle.ivl_store.specs.Words.{AreSupported, HasBit, InWord, IsWithin, IsWordOf, SupportsAt}
use Rattle.ivl_store.proofs.Lists.{covers_next}

abbrev pub top : ℕ
top = 18446744073709551616

-- a bit of a word has a place below 64
pub place_fits : (w p : ℕ) → w < top → HasBit w p → p < 64
place_fits w p fits h = elim (cases_lt p 64) [
  | inl low ↦ low
  | inr high ↦ absurd (let none = bit_at_above w 64 p fits high in omega (arith, h, none))
]

-- of the bits of two words
pub in_both : (a b p : ℕ) → HasBit (bit_and a b) p ↔ (HasBit a p × HasBit b p)
in_both a b p =
    let e = bit_at_and a b p in let l = bit_at-lt a p in let r = bit_at-lt b p in (
      (λ h. (omega (arith, e, l, r, h), omega (arith, e, l, r, h))),
      (λ h. let u = h.0 in let v = h.1 in omega (arith, e, u, v)),
    )

pub in_either : (a b p : ℕ) → HasBit (bit_or a b) p ↔ (HasBit a p ⊎ HasBit b p)
in_either a b p =
    let e = bit_at_or a b p in let l = bit_at-lt a p in let r = bit_at-lt b p in (
      (λ h. elim (cases_lt 0 (bit_at a p)) [
        | inl more ↦ inl (omega (arith, l, more))
        | inr none ↦ inr (omega (arith, e, l, r, h, none))
      ]),
      (λ h. elim h [
        | inl u ↦ omega (arith, e, u, l, r)
        | inr u ↦ omega (arith, e, u, l, r)
      ]),
    )

pub between : (low high p : ℕ) → low ≤ high → high < 64
    → HasBit (bit_and (18446744073709551615 / 2 ^ (63 - high)) (18446744073709551615 * 2 ^ low % 18446744073709551616)) p ↔ ((low ≤ p) × (p ≤ high))
between low high p order fits =
    let count : 64 - (63 - high) ≡ high + 1 = omega arith in
    let lower : 18446744073709551615 / 2 ^ (63 - high) ≡ 2 ^ (high + 1) - 1 = ones_shr 64 (63 - high) (omega arith) ∙ ap (λ j. 2 ^ j - 1) count in
    let upper : 18446744073709551615 * 2 ^ low % 18446744073709551616 ≡ 2 ^ 64 - 2 ^ low = ones_shl 64 low (omega arith) in
    let both = in_both (18446744073709551615 / 2 ^ (63 - high)) (18446744073709551615 * 2 ^ low % 18446744073709551616) p in (
      (λ h. let u = both.0 h in (
        elim (cases_lt p low) [
          | inl below ↦ absurd (let none = bit_at_mask_below low 64 p below in let some = subst (λ m. HasBit m p) upper u.1 in omega (arith, none, some))
          | inr from ↦ from
        ],
        elim (cases_lt high p) [
          | inl above ↦ absurd (let none = bit_at_ones_above (high + 1) p (omega arith) in let some = subst (λ m. HasBit m p) lower u.0 in omega (arith, none, some))
          | inr to ↦ to
        ],
      )),
      (λ h. let from = h.0 in let to = h.1 in both.1 (
        subst (λ m. HasBit m p) (sym lower) (bit_at_ones (high + 1) p (omega arith)),
        subst (λ m. HasBit m p) (sym upper) (bit_at_mask_inside low 64 p from (omega arith)),
      )),
    )

-- the bits of a word above a place
pub above_place : (w place p : ℕ) → w < top → place < 64 → HasBit (bit_and w (18446744073709551614 * 2 ^ place % 18446744073709551616)) p ↔ (HasBit w p × (place < p))
above_place w place p fits low =
    let both = in_both w (18446744073709551614 * 2 ^ place % 18446744073709551616) p in (
      (λ h. let u = both.0 h in (
        u.0,
        elim (cases_lt place p) [
          | inl above ↦ above
          | inr below ↦ absurd (let none = bit_at_mask_below (place + 1) 64 p (omega (arith, below)) in let some = subst (λ m. HasBit m p) is u.1 in omega (arith, none, some))
        ],
      )),
      (λ h. let fit = place_fits w p fits h.0 in both.1 (h.0, subst (λ m. HasBit m p) (sym is) (bit_at_mask_inside (place + 1) 64 p (let l = h.1 in omega (arith, l)) (omega (arith, fit))))),
    )
  where
    twice : 2 ^ (place + 1) ≡ 2 * 2 ^ place
    twice = ap (λ k. 2 ^ k) (let e : place + 1 ≡ suc place = omega arith in e) ∙ pow-succ' 2 place

    is : 18446744073709551614 * 2 ^ place % 18446744073709551616 ≡ 2 ^ 64 - 2 ^ (place + 1)
    is =
        let some = pow_pos place in let most = pow_mono {i = place} {j = 63} (omega (arith, low)) in
        let split : 18446744073709551614 * 2 ^ place ≡ (2 ^ place - 1) * 18446744073709551616 + (2 ^ 64 - 2 ^ (place + 1)) = (let e = twice in omega (arith, e, some, most)) in
        ap (λ n. n % 18446744073709551616) split ∙ mod-mul-add (2 ^ place - 1) 18446744073709551616 (2 ^ 64 - 2 ^ (place + 1)) (let e = twice in omega (arith, e, some))

-- the bits of one word that another lacks
pub without : (w m p : ℕ) → w < top → m < top → HasBit (bit_and w (18446744073709551615 - m)) p ↔ (HasBit w p × (¬ (HasBit m p)))
without w m p fits small =
    let both = in_both w (18446744073709551615 - m) p in (
      (λ h. let u = both.0 h in (u.0, λ k. let e = bit_at_not w64 m p small (place_fits w p fits u.0) in let v = u.1 in omega (arith, e, k, v))),
      (λ h. let e = bit_at_not w64 m p small (place_fits w p fits h.0) in let l = bit_at-lt m p in both.1 (
        h.0,
        elim (cases_lt 0 (bit_at m p)) [
          | inl more ↦ absurd (h.1 (omega (arith, l, more)))
          | inr none ↦ omega (arith, e, none)
        ],
      )),
    )

-- less than the word where one of its bits goes
pub less_without : (w left p : ℕ) → left ≤ w → HasBit w p → ¬ (HasBit left p) → left < w
less_without w left p most had gone = elim (cases_lt left w) [
  | inl less ↦ less
  | inr from ↦ absurd (gone (subst (λ n. HasBit n p) (omega (arith, most, from)) had))
]

positive : (n : ℕ) → n ≢ 0 → 0 < n
positive n some = elim (cases_lt 0 n) [
  | inl more ↦ more
  | inr none ↦ absurd (some (omega (arith, none)))
]

-- a power of two has one bit
only_bit : (k p : ℕ) → HasBit (2 ^ k) p → p ≡ k
only_bit k p h = elim (cases_lt p k) [
  | inl below ↦ absurd (let e = bit_at-pow_other k p (λ same. let s = same in omega (arith, s, below)) in omega (arith, e, h))
  | inr from ↦ elim (cases_lt k p) [
    | inl above ↦ absurd (let e = bit_at-pow_other k p (λ same. let s = same in omega (arith, s, above)) in omega (arith, e, h))
    | inr to ↦ omega (arith, from, to)
  ]
]

-- and so has 1, shifted
pub one_bit : (place p : ℕ) → place < 64 → HasBit (1 * 2 ^ place % 18446744073709551616) p ↔ (p ≡ place)
one_bit place p low =
    let is : 1 * 2 ^ place % 18446744073709551616 ≡ 2 ^ place = one_shl place 64 low in (
      (λ h. only_bit place p (subst (λ n. HasBit n p) is h)),
      (λ e. subst (λ n. HasBit n p) (sym is) (subst (λ j. HasBit (2 ^ place) j) (sym e) (bit_at-pow_same place))),
    )

module _ (y z place : ℕ) (fits-y : y < top) (fits-z : z < top) (low : place < 64) where
  abbrev met : ℕ
  met = bit_and (z / 2 ^ place) y

  moved : (q : ℕ) → bit_at (z / 2 ^ place) q ≡ bit_at z (place + q)
  moved q = ap (λ n. n % 2) (shr-shr z place q)

  pub met_bits : (q : ℕ) → HasBit met q ↔ SupportsAt y z place q
  met_bits q =
      let both = in_both (z / 2 ^ place) y q in (
        (λ h. let u = both.0 h in (u.1, sym (moved q) ∙ u.0)),
        (λ h. both.1 (moved q ∙ h.1, h.0)),
      )

  met_fits : met < top
  met_fits = omega (arith, and_le_l (z / 2 ^ place) y, fits-z)

  pub met_at_x : (kept one p : ℕ) → ((met ≡ 0) × (one ≡ 0)) ⊎ ((met ≢ 0) × (one ≡ 1 * 2 ^ place % 18446744073709551616))
      → HasBit (bit_or kept one) p ↔ (HasBit kept p ⊎ ((p ≡ place) × (q : ℕ) × SupportsAt y z place q))
  met_at_x kept one p which =
      let either = in_either kept one p in
      elim which [
        | inl none ↦ (
          (λ h. elim (either.0 h) [
            | inl u ↦ inl u
            | inr u ↦ absurd (let zero = subst (λ n. HasBit n p) none.1 u in let e = bit_at-zero p in omega (arith, zero, e))
          ]),
          (λ h. elim h [
            | inl u ↦ either.1 (inl u)
            | inr u ↦ absurd (let q = u.1 in let zero = subst (λ n. HasBit n q) none.0 ((met_bits q).1 u.2) in let e = bit_at-zero q in omega (arith, zero, e))
          ]),
        )
        | inr some ↦ (
            let lowest = bit_at-trailing_zeros w64 met (positive met some.0) met_fits in (
              (λ h. elim (either.0 h) [
                | inl u ↦ inl u
                | inr u ↦ inr ((one_bit place p low).0 (subst (λ n. HasBit n p) some.1 u), trailing_zeros w64 met, (met_bits _).0 lowest.1)
              ]),
              (λ h. elim h [
                | inl u ↦ either.1 (inl u)
                | inr u ↦ either.1 (inr (subst (λ n. HasBit n p) (sym some.1) ((one_bit place p low).1 u.0)))
              ]),
            ))
      ]

  pub met_at_y : (kept q : ℕ) → HasBit (bit_or kept met) q ↔ (HasBit kept q ⊎ SupportsAt y z place q)
  met_at_y kept q =
      let either = in_either kept met q in (
        (λ h. elim (either.0 h) [
          | inl u ↦ inl u
          | inr u ↦ inr ((met_bits q).0 u)
        ]),
        (λ h. elim h [
          | inl u ↦ either.1 (inl u)
          | inr u ↦ either.1 (inr ((met_bits q).1 u))
        ]),
      )

  raised_is : met * 2 ^ place % 18446744073709551616 ≡ met * 2 ^ place
  raised_is = mod-eq_of_lt (let most = (le-div_iff_mul-le {k = 2 ^ place} {x = met} {y = z} (pow_pos place)).0 (and_le_l (z / 2 ^ place) y) in omega (arith, most, fits-z))

  raised_bits : (r : ℕ) → HasBit (met * 2 ^ place) r ↔ ((q : ℕ) × SupportsAt y z place q × (place + q ≡ r))
  raised_bits r =
      let plain : met * 2 ^ place + 0 ≡ met * 2 ^ place = omega arith in (
        (λ h. elim (cases_lt r place) [
          | inl below ↦ absurd (let none = bit_at_cat_low met place 0 r below in let zero = bit_at-zero r in let some = subst (λ n. HasBit n r) (sym plain) h in omega (arith, none, zero, some))
          | inr from ↦ (r - place, (met_bits (r - place)).0 (sym (bit_at_cat_high met place 0 r (pow_pos place) from) ∙ subst (λ n. HasBit n r) (sym plain) h), omega (arith, from))
        ]),
        (λ h. let q = h.0 in let e = h.2 in
            let back : r - place ≡ q = omega (arith, e) in
            subst (λ n. HasBit n r) plain (bit_at_cat_high met place 0 r (pow_pos place) (omega (arith, e)) ∙ subst (λ j. HasBit met j) (sym back) ((met_bits q).1 h.1))),
      )

  pub met_at_z : (kept r : ℕ) → HasBit (bit_or kept (met * 2 ^ place % 18446744073709551616)) r ↔ (HasBit kept r ⊎ ((q : ℕ) × SupportsAt y z place q × (place + q ≡ r)))
  met_at_z kept r =
      let either = in_either kept (met * 2 ^ place % 18446744073709551616) r in (
        (λ h. elim (either.0 h) [
          | inl u ↦ inl u
          | inr u ↦ inr ((raised_bits r).0 (subst (λ n. HasBit n r) raised_is u))
        ]),
        (λ h. elim h [
          | inl u ↦ either.1 (inl u)
          | inr u ↦ either.1 (inr (subst (λ n. HasBit n r) (sym raised_is) ((raised_bits r).1 u)))
        ]),
      )

-- ---- the places of a word one after another, where those of `rest` are left to do

pub record Found (x y z rest X Y Z : ℕ) : Type 0 where
  pub left : (p : ℕ) → HasBit rest p → HasBit x p
  pub at_x : (p : ℕ) → HasBit X p ↔ (HasBit x p × (¬ (HasBit rest p)) × (q : ℕ) × SupportsAt y z p q)
  pub at_y : (q : ℕ) → HasBit Y q ↔ ((p : ℕ) × HasBit x p × (¬ (HasBit rest p)) × SupportsAt y z p q)
  pub at_z : (r : ℕ) → HasBit Z r ↔ ((p : ℕ) × HasBit x p × (¬ (HasBit rest p)) × (q : ℕ) × SupportsAt y z p q × (p + q ≡ r))

no_bit : (p : ℕ) → ¬ (HasBit 0 p)
no_bit p h = let e = bit_at-zero p in omega (arith, h, e)

pub found_none : (x y z : ℕ) → Found x y z x 0 0 0
found_none x y z = record {
  left = λ p h. h;
  at_x = λ p. ((λ h. absurd (no_bit p h)), (λ h. absurd (h.1 h.0)));
  at_y = λ q. ((λ h. absurd (no_bit q h)), (λ h. absurd (h.2 h.1)));
  at_z = λ r. ((λ h. absurd (no_bit r h)), (λ h. absurd (h.2 h.1)));
}

has_or_not : (w p : ℕ) → HasBit w p ⊎ (¬ (HasBit w p))
has_or_not w p = elim (cases_lt 0 (bit_at w p)) [
  | inl more ↦ inl (let l = bit_at-lt w p in omega (arith, l, more))
  | inr none ↦ inr (λ h. let e = h in omega (arith, e, none))
]

module _ (x y z rest X Y Z place rest' X' Y' Z' : ℕ) (f : Found x y z rest X Y Z) (here : HasBit rest place)
    (gone : (p : ℕ) → HasBit rest' p ↔ (HasBit rest p × (p ≢ place)))
    (at_x : (p : ℕ) → HasBit X' p ↔ (HasBit X p ⊎ ((p ≡ place) × (q : ℕ) × SupportsAt y z place q)))
    (at_y : (q : ℕ) → HasBit Y' q ↔ (HasBit Y q ⊎ SupportsAt y z place q))
    (at_z : (r : ℕ) → HasBit Z' r ↔ (HasBit Z r ⊎ ((q : ℕ) × SupportsAt y z place q × (place + q ≡ r)))) where
  -- what is done now was done before, or is the place
  done : (p : ℕ) → ¬ (HasBit rest' p) → (¬ (HasBit rest p)) ⊎ (p ≡ place)
  done p h = elim (has_or_not rest p) [
    | inl u ↦ elim (cases_lt p place) [
      | inl below ↦ absurd (h ((gone p).1 (u, λ same. let s = same in omega (arith, s, below))))
      | inr from ↦ elim (cases_lt place p) [
        | inl above ↦ absurd (h ((gone p).1 (u, λ same. let s = same in omega (arith, s, above))))
        | inr to ↦ inr (omega (arith, from, to))
      ]
    ]
    | inr u ↦ inl u
  ]

  kept : (p : ℕ) → ¬ (HasBit rest p) → ¬ (HasBit rest' p)
  kept p h k = h ((gone p).0 k).0

  now_done : ¬ (HasBit rest' place)
  now_done k = ((gone place).0 k).1 refl

  pub found_next : Found x y z rest' X' Y' Z'
  found_next = record {
    left = λ p h. f.left p ((gone p).0 h).0;
    at_x = λ p. (
      (λ h. elim ((at_x p).0 h) [
        | inl u ↦ (let v = (f.at_x p).0 u in (v.0, kept p v.1, v.2, v.3))
        | inr u ↦ (subst (HasBit x) (sym u.0) (f.left place here), subst (λ n. ¬ (HasBit rest' n)) (sym u.0) now_done, u.1, subst (λ n. SupportsAt y z n u.1) (sym u.0) u.2)
      ]),
      (λ h. elim (done p h.1) [
        | inl before ↦ (at_x p).1 (inl ((f.at_x p).1 (h.0, before, h.2, h.3)))
        | inr same ↦ (at_x p).1 (inr (same, h.2, subst (λ n. SupportsAt y z n h.2) same h.3))
      ]),
    );
    at_y = λ q. (
      (λ h. elim ((at_y q).0 h) [
        | inl u ↦ (let v = (f.at_y q).0 u in (v.0, v.1, kept v.0 v.2, v.3))
        | inr u ↦ (place, f.left place here, now_done, u)
      ]),
      (λ h. elim (done h.0 h.2) [
        | inl before ↦ (at_y q).1 (inl ((f.at_y q).1 (h.0, h.1, before, h.3)))
        | inr same ↦ (at_y q).1 (inr (subst (λ n. SupportsAt y z n q) same h.3))
      ]),
    );
    at_z = λ r. (
      (λ h. elim ((at_z r).0 h) [
        | inl u ↦ (let v = (f.at_z r).0 u in (v.0, v.1, kept v.0 v.2, v.3, v.4, v.5))
        | inr u ↦ (place, f.left place here, now_done, u.0, u.1, u.2)
      ]),
      (λ h. elim (done h.0 h.2) [
        | inl before ↦ (at_z r).1 (inl ((f.at_z r).1 (h.0, h.1, before, h.3, h.4, h.5)))
        | inr same ↦ (at_z r).1 (inr (h.3, subst (λ n. SupportsAt y z n h.3) same h.4, subst (λ n. n + h.3 ≡ r) same h.5))
      ]),
    );
  }

pub found_all : (x y z X Y Z : ℕ) → Found x y z 0 X Y Z → AreSupported x y z X Y Z
found_all x y z X Y Z f = record {
  at_x = λ p. ((λ h. let u = (f.at_x p).0 h in (u.0, u.2, u.3)), (λ h. (f.at_x p).1 (h.0, no_bit p, h.1, h.2)));
  at_y = λ q. ((λ h. let u = (f.at_y q).0 h in (u.0, u.1, u.3)), (λ h. (f.at_y q).1 (h.0, h.1, no_bit h.0, h.2)));
  at_z = λ r. ((λ h. let u = (f.at_z r).0 h in (u.0, u.1, u.3, u.4, u.5)), (λ h. (f.at_z r).1 (h.0, h.1, no_bit h.0, h.2, h.3, h.4)));
}

-- the lowest bit of a word that has one
pub lowest : (w : ℕ) → w < top → w ≢ 0 → (trailing_zeros w64 w < 64) × HasBit w (trailing_zeros w64 w)
lowest w fits some = let h = bit_at-trailing_zeros w64 w (positive w some) fits in (h.0, h.1)

pub from_lowest : (w : ℕ) → w < top → w ≢ 0 → (p : ℕ) → HasBit w p → trailing_zeros w64 w ≤ p
from_lowest w fits some p h = elim (cases_lt p (trailing_zeros w64 w)) [
  | inl below ↦ absurd (let none = (bit_at-trailing_zeros w64 w (positive w some) fits).2 p below in omega (arith, none, h))
  | inr from ↦ from
]

-- the bits of a word from a place on
pub shifted_bits : (w low p : ℕ) → HasBit (w / 2 ^ low) p ↔ HasBit w (low + p)
shifted_bits w low p = let e = ap (λ n. n % 2) (shr-shr w low p) in ((λ h. sym e ∙ h), (λ h. e ∙ h))

pub all_bits : (p : ℕ) → p < 64 → HasBit 18446744073709551615 p
all_bits p fits = bit_at_ones 64 p fits

-- the lowest bits of a word that has a bit at 0 but not all
pub ones : (w : ℕ) → w + 1 < top → HasBit w 0
    → (0 < trailing_ones w64 w) × (trailing_ones w64 w < 64) × ((p : ℕ) → p < trailing_ones w64 w → HasBit w p)
ones w below first =
    let h = bit_at-trailing_ones w64 w below in (
      elim (cases_lt 0 (trailing_ones w64 w)) [
        | inl more ↦ more
        | inr none ↦ absurd (let is : trailing_ones w64 w ≡ 0 = omega (arith, none) in let zero = subst (λ n. bit_at w n ≡ 0) is h.1 in omega (arith, zero, first))
      ],
      h.0,
      h.2,
    )

-- the first bits of a word, from its lowest on
module _ (w count : ℕ) (fits : w < top) (some : w ≢ 0) (not_all : w ≢ 18446744073709551615) (is : count ≡ trailing_ones w64 (w / 2 ^ trailing_zeros w64 w)) where
  abbrev low : ℕ
  low = trailing_zeros w64 w

  rest_below : w / 2 ^ low + 1 < top
  rest_below =
      let most = div-le_self w (2 ^ low) in
      let less : w < 18446744073709551615 = elim (cases_lt w 18446744073709551615) [ inl l ↦ l | inr from ↦ absurd (not_all (omega (arith, fits, from))) ] in
      omega (arith, most, less)

  rest_ones : (0 < trailing_ones w64 (w / 2 ^ low)) × (trailing_ones w64 (w / 2 ^ low) < 64) × ((p : ℕ) → p < trailing_ones w64 (w / 2 ^ low) → HasBit (w / 2 ^ low) p)
  rest_ones = ones (w / 2 ^ low) rest_below ((shifted_bits w low 0).1 (subst (λ p. HasBit w p) (let e : low ≡ low + 0 = omega arith in e) (lowest w fits some).1))

  pub some_bits : 0 < count
  some_bits = let h = rest_ones.0 in omega (arith, h, is)

  pub first_bits_set : (p : ℕ) → low ≤ p → p ≤ low + count - 1 → HasBit w p
  first_bits_set p from to =
      let e : low + (p - low) ≡ p = omega (arith, from) in
      subst (λ n. HasBit w n) e ((shifted_bits w low (p - low)).0 (rest_ones.2 (p - low) (omega (arith, is, from, to, some_bits))))

  pub first_bits_end : ¬ (HasBit w (low + count - 1 + 1))
  first_bits_end h =
      let e : low + count - 1 + 1 ≡ low + trailing_ones w64 (w / 2 ^ low) = omega (arith, is, some_bits) in
      let none = (bit_at-trailing_ones w64 (w / 2 ^ low) rest_below).1 in
      let one = (shifted_bits w low (trailing_ones w64 (w / 2 ^ low))).1 (subst (λ p. HasBit w p) e h) in
      omega (arith, none, one)

  pub first_bits_fit : low + count - 1 < 64
  first_bits_fit = place_fits w (low + count - 1) fits (first_bits_set (low + count - 1) (omega (arith, some_bits)) (omega arith))

-- ---- words of sets

pub word_none : (base : ℤ) (p : ℕ) → HasBit 0 p ↔ Covers [] (base +ℤ pos p)
word_none base p = ((λ h. absurd (no_bit p h)), (λ h. absurd h))

-- the word of some runs and of one more
pub word_next : (L : List (ℤ × ℤ)) (i : ℕ) (run : ℤ × ℤ) (base : ℤ) (word one : ℕ) → i < length L → run ≡ get_or L i run
    → IsWordOf word base (Covers (take i L)) → IsWordOf one base (IsBetween run) → IsWordOf (bit_or word one) base (Covers (take (i + 1) L))
word_next L i run base word one lt is before now p small =
    let next = covers_next L i run lt is (base +ℤ pos p) in
    let either = in_either word one p in (
      (λ h. elim (either.0 h) [
        | inl u ↦ next.1 (inl ((before p small).0 u))
        | inr u ↦ next.1 (inr ((now p small).0 u))
      ]),
      (λ h. elim (next.0 h) [
        | inl u ↦ either.1 (inl ((before p small).1 u))
        | inr u ↦ either.1 (inr ((now p small).1 u))
      ]),
    )

-- ---- sets of words

nat_of : (d : ℤ) → pos 0 ≤ℤ d → (p : ℕ) × (d ≡ pos p)
nat_of (pos n) h = (n, refl)
nat_of (negsuc n) h = absurd (omega (arith, ints))

-- a number stands so far above a base
pub place_above : (base v : ℤ) → base ≤ℤ v → (p : ℕ) × (v ≡ base +ℤ pos p)
place_above base v h = let d = nat_of (v -ℤ base) (omega (arith, ints)) in (d.0, let e = d.1 in omega (arith, ints))

-- the runs of the bits that are not left, below those that are
pub record Taken (base : ℤ) (word rest : ℕ) (L : List (ℤ × ℤ)) : Type 0 where
  pub left : (p : ℕ) → HasBit rest p → HasBit word p
  pub apart : (p : ℕ) (v : ℤ) → HasBit rest p → Covers L v → (v +ℤ pos 1) <ℤ (base +ℤ pos p)
  pub members : (v : ℤ) → Covers L v ↔ ((p : ℕ) × HasBit word p × (¬ (HasBit rest p)) × (v ≡ base +ℤ pos p))

pub taken_none : (base : ℤ) (word : ℕ) → Taken base word word []
taken_none base word = record {
  left = λ p h. h;
  apart = λ p v h m. absurd m;
  members = λ v. ((λ h. absurd h), (λ h. absurd (h.2 h.1)));
}

pub taken_next : (base : ℤ) (word rest rest' low high : ℕ) (L M : List (ℤ × ℤ)) → Taken base word rest L → M ≡ L ++ (base +ℤ pos low, base +ℤ pos high) ∷ []
    → ((p : ℕ) → low ≤ p → p ≤ high → HasBit rest p) → ((p : ℕ) → HasBit rest p → low ≤ p) → ¬ (HasBit rest (high + 1))
    → ((p : ℕ) → HasBit rest' p ↔ (HasBit rest p × (high < p))) → Taken base word rest' M
taken_next base word rest rest' low high L M t is set from_low ends above = record {
  left = λ p h. t.left p ((gone p).0 h).0;
  apart = λ p v h m.
      let u = (gone p).0 h in
      elim ((part_pushed L M (base +ℤ pos low, base +ℤ pos high) is v).0 m) [
        | inl before ↦ t.apart p v u.0 before
        | inr now ↦ (let far = beyond p u.0 u.1 in let to = now.1 in omega (arith, ints))
      ];
  members = λ v.
      let pushed = part_pushed L M (base +ℤ pos low, base +ℤ pos high) is v in (
        (λ h. elim (pushed.0 h) [
          | inl u ↦ (let w = (t.members v).0 u in (w.0, w.1, (λ k. w.2 ((gone w.0).0 k).0), w.3))
          | inr u ↦ within v u
        ]),
        (λ h. elim (has_or_not rest h.0) [
          | inl u ↦ pushed.1 (inr (inside v h.0 h.3 u h.2))
          | inr u ↦ pushed.1 (inl ((t.members v).1 (h.0, h.1, u, h.3)))
        ]),
      );
}
  where
    gone : (p : ℕ) → HasBit rest' p ↔ (HasBit rest p × (¬ ((low ≤ p) × (p ≤ high))))
    gone p = (
      (λ h. let u = (above p).0 h in let l = u.1 in (u.0, λ k. let m = k.1 in omega (arith, l, m))),
      (λ h. (above p).1 (h.0, elim (cases_lt high p) [ inl l ↦ l | inr m ↦ absurd (h.1 (from_low p h.0, m)) ])),
    )

    beyond : (p : ℕ) → HasBit rest p → ¬ ((low ≤ p) × (p ≤ high)) → high + 1 < p
    beyond p h out = elim (cases_lt high p) [
      | inl above ↦ elim (cases_lt (high + 1) p) [
        | inl far ↦ far
        | inr near ↦ absurd (ends (subst (HasBit rest) (let e : p ≡ high + 1 = omega (arith, above, near) in e) h))
      ]
      | inr to ↦ absurd (out (from_low p h, to))
    ]

    within : (v : ℤ) → IsBetween (base +ℤ pos low, base +ℤ pos high) v → (p : ℕ) × HasBit word p × (¬ (HasBit rest' p)) × (v ≡ base +ℤ pos p)
    within v b =
        let from = b.0 in let to = b.1 in
        let place = place_above base v (omega (arith, ints)) in
        let p = place.0 in
        let e = place.1 in
        let l : low ≤ p = omega (arith, ints) in
        let h : p ≤ high = omega (arith, ints) in
        (p, t.left p (set p l h), (λ k. ((gone p).0 k).1 (l, h)), e)

    inside : (v : ℤ) (p : ℕ) → v ≡ base +ℤ pos p → HasBit rest p → ¬ (HasBit rest' p) → IsBetween (base +ℤ pos low, base +ℤ pos high) v
    inside v p e u none = elim (cases_lt p low) [
      | inl below ↦ absurd (none ((gone p).1 (u, λ k. let a = k.0 in omega (arith, a, below))))
      | inr from ↦ elim (cases_lt high p) [
        | inl above ↦ absurd (none ((gone p).1 (u, λ k. let a = k.1 in omega (arith, a, above))))
        | inr to ↦ (omega (arith, ints), omega (arith, ints))
      ]
    ]

pub taken_all : (base : ℤ) (word : ℕ) (L : List (ℤ × ℤ)) → Taken base word 0 L → SameMembers (Covers L) (InWord base word)
taken_all base word L t v = (
  (λ h. let w = (t.members v).0 h in (w.0, w.1, w.3)),
  (λ h. (t.members v).1 (h.0, h.1, no_bit h.0, h.2)),
)

-- ---- a sum over sets that lie close together

pub supported_turned : (x y z X Y Z : ℕ) → AreSupported y x z Y X Z → AreSupported x y z X Y Z
supported_turned x y z X Y Z s = record {
  at_x = λ p. (
    (λ h. let u = (s.at_y p).0 h in (u.2.0, u.0, (u.1, subst (HasBit z) (turn u.0 p) u.2.1))),
    (λ h. (s.at_y p).1 (h.1, h.2.0, (h.0, subst (HasBit z) (turn p h.1) h.2.1))),
  );
  at_y = λ q. (
    (λ h. let u = (s.at_x q).0 h in (u.1, u.2.0, (u.0, subst (HasBit z) (turn q u.1) u.2.1))),
    (λ h. (s.at_x q).1 (h.2.0, h.0, (h.1, subst (HasBit z) (turn h.0 q) h.2.1))),
  );
  at_z = λ r. (
    (λ h. let u = (s.at_z r).0 h in (u.2, u.3.0, u.0, (u.1, subst (HasBit z) (turn u.0 u.2) u.3.1), turn u.2 u.0 ∙ u.4)),
    (λ h. (s.at_z r).1 (h.2, h.3.0, h.0, (h.1, subst (HasBit z) (turn h.0 h.2) h.3.1), turn h.2 h.0 ∙ h.4)),
  );
}
  where
    turn : (p q : ℕ) → p + q ≡ q + p
    turn p q = omega arith

module _ (X Y Z : ℤ → Type 0) (xb yb : ℤ) (x y z kx ky kz : ℕ) (fits-x : x < top) (fits-y : y < top) (fits-z : z < top)
    (is-x : IsWordOf x xb X) (is-y : IsWordOf y yb Y) (is-z : IsWordOf z (xb +ℤ yb) Z) (low-x : (a : ℤ) → X a → xb ≤ℤ a) (low-y : (b : ℤ) → Y b → yb ≤ℤ b)
    (close : (a b : ℤ) → X a → Y b → (a +ℤ b) ≤ℤ ((xb +ℤ yb) +ℤ pos 63)) (s : AreSupported x y z kx ky kz) where
  in_x : (p : ℕ) → HasBit x p → X (xb +ℤ pos p)
  in_x p h = (is-x p (place_fits x p fits-x h)).0 h

  in_y : (q : ℕ) → HasBit y q → Y (yb +ℤ pos q)
  in_y q h = (is-y q (place_fits y q fits-y h)).0 h

  in_z : (r : ℕ) → HasBit z r → Z ((xb +ℤ yb) +ℤ pos r)
  in_z r h = (is-z r (place_fits z r fits-z h)).0 h

  -- two members are bits whose places add up to one of z
  places : (a b : ℤ) → X a → Y b → (p q : ℕ) × (a ≡ xb +ℤ pos p) × (b ≡ yb +ℤ pos q) × HasBit x p × HasBit y q × (p + q < 64)
  places a b h k =
      let u = place_above xb a (low-x a h) in let v = place_above yb b (low-y b k) in
      let p = u.0 in let q = v.0 in let e = u.1 in let f = v.1 in let most = close a b h k in
      let l : p + q < 64 = omega (arith, ints) in
      (p, q, e, f, (is-x p (omega (arith, l))).1 (subst X e h), (is-y q (omega (arith, l))).1 (subst Y f k), l)

  z_bit : (p q : ℕ) (c : ℤ) → Z c → c ≡ ((xb +ℤ yb) +ℤ pos (p + q)) → p + q < 64 → HasBit z (p + q)
  z_bit p q c h e l = (is-z (p + q) l).1 (subst Z e h)

  pub kept_at_x : (v : ℤ) → X v → InWord xb kx v ↔ Differences Z Y v
  kept_at_x v m = (
    (λ h. let p = h.0 in let e = h.2 in let u = (s.at_x p).0 h.1 in let q = u.1 in
        ((xb +ℤ yb) +ℤ pos (p + q), yb +ℤ pos q, in_z (p + q) u.2.1, in_y q u.2.0, omega (arith, ints))),
    (λ d. let c = d.0 in let b = d.1 in let e = d.4 in let u = places v b m d.3 in
        let p = u.0 in let q = u.1 in let f = u.2 in let g = u.3 in
        (p, (s.at_x p).1 (u.4, q, (u.5, z_bit p q c d.2 (omega (arith, ints)) u.6)), f)),
  )

  pub kept_at_y : (v : ℤ) → Y v → InWord yb ky v ↔ Differences Z X v
  kept_at_y v m = (
    (λ h. let q = h.0 in let e = h.2 in let u = (s.at_y q).0 h.1 in let p = u.0 in
        ((xb +ℤ yb) +ℤ pos (p + q), xb +ℤ pos p, in_z (p + q) u.2.1, in_x p u.1, omega (arith, ints))),
    (λ d. let c = d.0 in let a = d.1 in let e = d.4 in let u = places a v d.3 m in
        let p = u.0 in let q = u.1 in let f = u.2 in let g = u.3 in
        (q, (s.at_y q).1 (p, u.4, (u.5, z_bit p q c d.2 (omega (arith, ints)) u.6)), g)),
  )

  pub kept_at_z : (v : ℤ) → Z v → InWord (xb +ℤ yb) kz v ↔ Sums X Y v
  kept_at_z v m = (
    (λ h. let r = h.0 in let e = h.2 in let u = (s.at_z r).0 h.1 in let p = u.0 in let q = u.2 in let t = u.4 in
        (xb +ℤ pos p, yb +ℤ pos q, in_x p u.1, in_y q u.3.0, omega (arith, ints))),
    (λ d. let a = d.0 in let b = d.1 in let e = d.4 in let u = places a b d.2 d.3 in
        let p = u.0 in let q = u.1 in let f = u.2 in let g = u.3 in
        (p + q, (s.at_z (p + q)).1 (p, u.4, q, (u.5, z_bit p q v m (omega (arith, ints)) u.6), refl), omega (arith, ints))),
  )

-- ---- what is left of a set by its word

module _ (S : ℤ → Type 0) (base : ℤ) (had left : ℕ) (fits-had : had < top) (fits-left : left < top) (is : IsWordOf had base S) (kept : (p : ℕ) → HasBit left p → HasBit had p) where
  left_in : (v : ℤ) → InWord base left v → S v
  left_in v h = let e = h.2 in subst S (sym e) ((is h.0 (place_fits left h.0 fits-left h.1)).0 (kept h.0 h.1))

  pub keeps_all : left ≡ had → ((v : ℤ) → S v → (base ≤ℤ v) × (v ≤ℤ (base +ℤ pos 63))) → IsSubset S (InWord base left)
  keeps_all same close v m =
      let low = (close v m).0 in let high = (close v m).1 in
      let u = place_above base v low in
      let p = u.0 in let e = u.1 in
      let l : p < 64 = omega (arith, ints) in
      (p, subst (λ n. HasBit n p) (sym same) ((is p l).1 (subst S e m)), e)

  bit_kept : IsSubset S (InWord base left) → (p : ℕ) → HasBit had p → HasBit left p
  bit_kept sub p h =
      let u = sub (base +ℤ pos p) ((is p (place_fits had p fits-had h)).0 h) in
      let e = u.2 in
      let same : u.0 ≡ p = omega (arith, ints) in
      subst (HasBit left) same u.1

  pub same_word : IsSubset S (InWord base left) → left ≡ had
  same_word sub = same_from_bits left had (λ p. elim (has_or_not left p) [
    | inl u ↦ (let v = kept p u in omega (arith, u, v))
    | inr u ↦ elim (has_or_not had p) [
      | inl v ↦ absurd (u (bit_kept sub p v))
      | inr v ↦ both_none left had p u v
    ]
  ])
    where
      both_none : (a b p : ℕ) → ¬ (HasBit a p) → ¬ (HasBit b p) → bit_at a p ≡ bit_at b p
      both_none a b p u v = clear a p u ∙ sym (clear b p v)
        where
          clear : (w p : ℕ) → ¬ (HasBit w p) → bit_at w p ≡ 0
          clear w p none = elim (cases_lt 0 (bit_at w p)) [
            | inl more ↦ absurd (none (let l = bit_at-lt w p in omega (arith, l, more)))
            | inr zero ↦ omega (arith, zero)
          ]

  pub above_base : (v : ℤ) → InWord base left v → (base ≤ℤ v) × (v ≤ℤ (base +ℤ pos 63))
  above_base v h = let e = h.2 in let l = place_fits left h.0 fits-left h.1 in (omega (arith, ints), omega (arith, ints))

  pub some_left : (whole : ℤ × ℤ) (L M : List (ℤ × ℤ)) → SameMembers (Covers L) S → IsRunListIn whole L → IsRunsOf M (InWord base left) → ¬ (IsSubset S (InWord base left)) → IsLeftOf whole L (InWord base left) (Some M)
  some_left whole L M covers runs m lost = keeps_some_within whole L M (InWord base left) runs
      record { maximal = m.maximal; members = λ v. ((λ h. let u = (m.members v).0 h in ((covers v).1 (left_in v u), u)), (λ h. (m.members v).1 h.1)) }
      (λ same. lost (λ v h. (m.members v).0 ((same v).1 ((covers v).1 h))))

pub sum_of_bases : (xb yb n : ℤ) → IsWithin xb → IsWithin yb → n ≡ to_z w64 (of_z w64 xb) +ℤ to_z w64 (of_z w64 yb) → to_z w64 (of_z w64 n) ≡ xb +ℤ yb
sum_of_bases xb yb n x y e = let a = x.0 in let b = x.1 in let c = y.0 in let d = y.1 in omega (arith, ints)

-- Results without a gap, and the lists to which they are added.
use Rattle.std.proofs.Common.{◌≡◌, ◌∙◌, ⊎_elim, inl, inr, ℕ, ◌+◌, ◌<◌, ◌≤◌, ℤ, pos, ◌+ℤ◌, ◌-ℤ◌, ◌≤ℤ◌, ◌<ℤ◌, Bool, false, IsTrue, List, [], ◌∷◌, ◌++◌, length, take, take_all, drop, get_or, refl, sym, ap, subst, arith}
use Rattle.std.proofs.lemmas.Bool.{cases_Bool}
use Rattle.std.proofs.lemmas.Int.{ints, clamps, by_lt_z}
use Rattle.std.proofs.lemmas.List.{take_more}
use Rattle.std.proofs.Math.Bool.{true≢false}
use Rattle.std.specs.Int.{int_min}
use Rattle.ivl_laws.specs.Bounds.{width_of}
use Rattle.ivl_laws.specs.Sets.{HasSome, Intersection, IsBetween, IsSubset, SameMembers, Union}
use Rattle.ivl_laws.specs.Runs.{Covers, IsRunsOf}
use Rattle.ivl_laws.proofs.Intervals.{pos-non_negative_part, width_of-filled}
use Rattle.ivl_laws.proofs.Merging.{covers-append, covers-append_left, covers-append_right}
use Rattle.ivl_laws.proofs.Places.{covers-drop, covers-take}
use Rattle.ivl_laws.proofs.SetLaws.{IsRunsOf-same}
use Rattle.ivl_places.proofs.Windows.{covers_split}
use Rattle.ivl_within.specs.Within.{Clipped, SumsBy}
use Rattle.ivl_within.specs.Fronts.{IsFront, IsStretch}
use Rattle.ivl_within.proofs.Reaching.{alone}
use Rattle.ivl_within.specs.declared.within.Combined.{Combined}

-- the number after the reach is in the range
pub next_in_range : (whole : ℤ × ℤ) (from to reach one : ℤ) → whole.0 ≤ℤ from → to ≤ℤ whole.1 → from ≤ℤ reach → reach <ℤ to → one ≡ pos 1 → IsBetween whole (reach +ℤ one)
next_in_range whole from to reach one low high up less e = (omega (arith, ints), omega (arith, ints))

-- a greater number is nearer to the end
pub nearer : (from next to : ℤ) → from <ℤ next → from ≤ℤ to → width_of (next, to) < width_of (from, to)
nearer from next to up h =
    let wide = width_of-filled (from, to) h in
    let less = pos-non_negative_part ((to -ℤ next) +ℤ pos 1) in
    omega (arith, ints, clamps, wide, less)

module _ (S : ℤ → Type 0) (from to : ℤ) (is_met : Bool) (reach next : ℤ) (front : IsFront S from is_met reach next) where
  module _ (met : IsTrue is_met) where
    module _ (at one : ℤ) (e : at ≡ reach +ℤ one) (f : one ≡ pos 1) (other_met : Bool) (reach' next' : ℤ) (further : IsFront S at other_met reach' next') where
      -- the front at the next number carries the results on
      pub carried : IsTrue other_met → IsFront S from is_met reach' next
      carried t =
          let (up, within) = front.met met in
          let (up', more) = further.met t in
          record {
            met = λ u. (omega (arith, ints), λ z (low, high). by_lt_z reach z (λ beyond. more z (omega (arith, ints), high)) (λ inside. within z (low, inside)));
            unmet = λ u. absurd (true≢false (sym met ∙ u));
          }

      pub goes_on : IsTrue other_met → reach <ℤ reach'
      goes_on t = let up = (further.met t).0 in omega (arith, ints)

      -- there is a gap at the next number
      pub to_gap : other_met ≡ false → IsStretch S from to is_met reach next'
      to_gap u = record {
        met = front.met;
        rest = λ z s (low, high). by_lt_z reach z
            (λ beyond. let (above, far) = further.unmet u z s (omega (arith, ints)) in let up = (front.met met).0 in inr (omega (arith, ints), far))
            (λ inside. inl (met, inside));
      }

    -- they go on to the end
    pub to_end : (next' : ℤ) → to ≤ℤ reach → IsStretch S from to is_met reach next'
    to_end next' h = record {
      met = front.met;
      rest = λ z s (low, high). inl (met, omega (arith, ints));
    }

  pub none_met : is_met ≡ false → IsStretch S from to is_met reach next
  none_met u = record {
    met = front.met;
    rest = λ z s (low, high). inr (front.unmet u z s low);
  }

-- a run up to whose end the results go on
pub run_whole : (S : ℤ → Type 0) (run : ℤ × ℤ) (from to end : ℤ) (is_met : Bool) (reach next : ℤ) → IsStretch S from to is_met reach next → IsTrue is_met → from ≡ run.0 → end ≡ run.1 → end ≤ℤ reach → IsSubset (IsBetween run) S
run_whole S run from to end is_met reach next front met e f h z (low, high) = (front.met met).1 z (omega (arith, ints), omega (arith, ints))

pub has_some : (p : ℤ × ℤ) → p.0 ≤ℤ p.1 → HasSome (IsBetween p)
has_some p h = (p.0, (omega (arith, ints), h))

-- ---- a list to which the results in a run are added

-- those below a number are added
pub record IsAddedBelow (S : ℤ → Type 0) (run : ℤ × ℤ) (old new : List (ℤ × ℤ)) (from : ℤ) : Type 0 where
  pub starts : run.0 ≤ℤ from
  pub only : IsSubset (Covers new) (Union (Covers old) (Clipped run S))
  pub kept : IsSubset (Covers old) (Covers new)
  pub all : (z : ℤ) → S z → IsBetween run z → z <ℤ from → Covers new z

pub added_none : (S : ℤ → Type 0) (run : ℤ × ℤ) (old : List (ℤ × ℤ)) (from : ℤ) → from ≡ run.0 → IsAddedBelow S run old old from
added_none S run old from e = record {
  starts = omega (arith, ints);
  only = λ z c. inl c;
  kept = λ z c. c;
  all = λ z s (low, high) less. absurd (omega (arith, ints));
}

pub added_all : (S : ℤ → Type 0) (run : ℤ × ℤ) (old new : List (ℤ × ℤ)) (from to : ℤ) → to ≡ run.1 → to <ℤ from → IsAddedBelow S run old new from → SameMembers (Covers new) (Union (Covers old) (Clipped run S))
added_all S run old new from to e h inv z = (inv.only z, ⊎_elim (inv.kept z) (λ (s, (low, high)). inv.all z s (low, high) (omega (arith, ints))))

module _ (S : ℤ → Type 0) (run : ℤ × ℤ) (old entries new : List (ℤ × ℤ)) (from to : ℤ) (is_met : Bool) (reach next : ℤ)
    (end : to ≡ run.1) (front : IsStretch S from to is_met reach next) (inv : IsAddedBelow S run old entries from) where
  -- the stretch is added, as far as it lies in the run
  record IsStretchAdded : Type 0 where
    pub only : IsSubset (Covers new) (Union (Covers old) (Clipped run S))
    pub kept : IsSubset (Covers entries) (Covers new)
    pub stretch : IsTrue is_met → (z : ℤ) → IsBetween (from, to) z → z ≤ℤ reach → Covers new z

  stretch_added : (e : ℤ × ℤ) → IsTrue is_met → e ≡ (from, int_min reach to) → new ≡ entries ++ e ∷ [] → IsStretchAdded
  stretch_added e met is added =
      let (up, within) = front.met met in
      let first = inv.starts in
      record {
        only = λ z c. ⊎_elim (inv.only z)
            (⊎_elim (λ b. let (low, high) = subst (λ (p : ℤ × ℤ). IsBetween p z) is b in
            inr (within z (low, omega (arith, ints, clamps)), (omega (arith, ints), omega (arith, ints, clamps)))) (λ n. absurd n))
            (covers-append entries (e ∷ []) z (subst (λ (L : List (ℤ × ℤ)). Covers L z) added c));
        kept = λ z c. subst (λ (L : List (ℤ × ℤ)). Covers L z) (sym added) (covers-append_left entries (e ∷ []) z c);
        stretch = λ t z (low, high) in_reach. subst (λ (L : List (ℤ × ℤ)). Covers L z) (sym added)
            (covers-append_right entries (e ∷ []) z (inl (subst (λ (p : ℤ × ℤ). IsBetween p z) (sym is) (low, omega (arith, ints, clamps)))));
      }

  none_added : is_met ≡ false → new ≡ entries → IsStretchAdded
  none_added none same = record {
    only = λ z c. inv.only z (subst (λ (L : List (ℤ × ℤ)). Covers L z) same c);
    kept = λ z c. subst (λ (L : List (ℤ × ℤ)). Covers L z) (sym same) c;
    stretch = λ t. absurd (true≢false (sym t ∙ none));
  }

  module _ (pushed : IsTrue is_met → new ≡ entries ++ (from, int_min reach to) ∷ []) (unchanged : is_met ≡ false → new ≡ entries) where
    added : IsStretchAdded
    added = ⊎_elim (λ t. stretch_added (from, int_min reach to) t refl (pushed t)) (λ f. none_added f (unchanged f)) (cases_Bool is_met)

    from_here : (z : ℤ) → S z → IsBetween run z → (from ≤ℤ z → (from <ℤ next) × (next ≤ℤ z) → Covers new z) → Covers new z
    from_here z s (low, high) beyond = by_lt_z z from
        (λ below. added.kept z (inv.all z s (low, high) below))
        (λ above. ⊎_elim
        (λ (met, in_reach). added.stretch met z (above, omega (arith, ints)) in_reach)
        (beyond above)
        (front.rest z s (above, omega (arith, ints))))

    pub nothing_next : next ≤ℤ from → SameMembers (Covers new) (Union (Covers old) (Clipped run S))
    nothing_next h z = (
      added.only z,
      ⊎_elim (λ o. added.kept z (inv.kept z o)) (λ (s, b). from_here z s b (λ above (up, far). absurd (omega (arith, ints)))),
    )

    pub next_below : from <ℤ next → IsAddedBelow S run old new next
    next_below h = record {
      starts = let first = inv.starts in omega (arith, ints);
      only = added.only;
      kept = λ z o. added.kept z (inv.kept z o);
      all = λ z s b less. from_here z s b (λ above (up, far). absurd (omega (arith, ints)));
    }

-- ---- run by run

take_next : (L : List (ℤ × ℤ)) (i : ℕ) (p : ℤ × ℤ) → i < length L → p ≡ get_or L i p → take (i + 1) L ≡ take i L ++ p ∷ []
take_next L i p l is = take_more L i p l ∙ ap (λ (y : ℤ × ℤ). take i L ++ y ∷ []) (sym is)

pub none_yet : (S : ℤ → Type 0) (old L : List (ℤ × ℤ)) → SameMembers (Covers old) (Union (Covers old) (Intersection (Covers (take 0 L)) S))
none_yet S old [] z = (inl, ⊎_elim (λ o. o) (λ (n, s). absurd n))
none_yet S old (p ∷ L) z = (inl, ⊎_elim (λ o. o) (λ (n, s). absurd n))

pub all_runs : (S : ℤ → Type 0) (old new L : List (ℤ × ℤ)) (i : ℕ) → length L ≤ i → SameMembers (Covers new) (Union (Covers old) (Intersection (Covers (take i L)) S)) →
    SameMembers (Covers new) (Union (Covers old) (Intersection (Covers L) S))
all_runs S old new L i h = subst (λ (m : List (ℤ × ℤ)). SameMembers (Covers new) (Union (Covers old) (Intersection (Covers m) S))) (take_all i L h)

-- the results in one run more are added
pub run_added : (S : ℤ → Type 0) (old entries new L : List (ℤ × ℤ)) (i : ℕ) (p : ℤ × ℤ) → i < length L → p ≡ get_or L i p → SameMembers (Covers new) (Union (Covers entries) (Clipped p S))
    → SameMembers (Covers entries) (Union (Covers old) (Intersection (Covers (take i L)) S)) → SameMembers (Covers new) (Union (Covers old) (Intersection (Covers (take (i + 1) L)) S))
run_added S old entries new L i p l is k h =
    subst (λ (m : List (ℤ × ℤ)). SameMembers (Covers new) (Union (Covers old) (Intersection (Covers m) S))) (sym (take_next L i p l is)) (λ z. (
      (λ c. ⊎_elim
          (λ e. ⊎_elim inl (λ (t, s). inr (covers-append_left (take i L) (p ∷ []) z t, s)) ((h z).0 e))
          (λ (s, b). inr (covers-append_right (take i L) (p ∷ []) z (inl b), s))
          ((k z).0 c)),
      ⊎_elim
          (λ o. (k z).1 (inl ((h z).1 (inl o))))
          (λ (t, s). ⊎_elim (λ c. (k z).1 (inl ((h z).1 (inr (c, s))))) (λ c. (k z).1 (inr (s, alone p z c))) (covers-append (take i L) (p ∷ []) z t)),
    ))

-- one run more is whole
pub run_kept : (S : ℤ → Type 0) (L : List (ℤ × ℤ)) (i : ℕ) (p : ℤ × ℤ) → i < length L → p ≡ get_or L i p → IsSubset (IsBetween p) S → IsSubset (Covers (take i L)) S → IsSubset (Covers (take (i + 1) L)) S
run_kept S L i p l is k h z c = ⊎_elim (h z) (λ b. k z (alone p z b)) (covers-append (take i L) (p ∷ []) z (subst (λ (m : List (ℤ × ℤ)). Covers m z) (take_next L i p l is) c))

-- the first runs are whole, and the results in the others are added to them
pub results_are : (S : ℤ → Type 0) (L new : List (ℤ × ℤ)) (k : ℕ) → IsSubset (Covers (take k L)) S → SameMembers (Covers new) (Union (Covers (take k L)) (Intersection (Covers (drop k L)) S)) →
    SameMembers (Covers new) (Intersection (Covers L) S)
results_are S L new k whole h z = (
  (λ c. ⊎_elim (λ t. (covers-take L k z t, whole z t)) (λ (d, s). (covers-drop L k z d, s)) ((h z).0 c)),
  (λ (c, s). ⊎_elim (λ t. (h z).1 (inl t)) (λ d. (h z).1 (inr (d, s))) (covers_split L k z c)),
)

-- ---- where the lists are read through slices

pub fits_seen : (op : Combined) (whole : ℤ × ℤ) (L M A B : List (ℤ × ℤ)) → L ≡ A → M ≡ B → IsSubset (SumsBy op (Covers A) (Covers B)) (IsBetween whole) → IsSubset (SumsBy op (Covers L) (Covers M)) (IsBetween whole)
fits_seen op whole L M A B e f h = rw (e, f) h

-- all runs are whole
pub all_kept : (op : Combined) (R L M X A B : List (ℤ × ℤ)) (k : ℕ) → R ≡ X → L ≡ A → M ≡ B → length R ≤ k → IsSubset (Covers (take k R)) (SumsBy op (Covers L) (Covers M)) → IsSubset (Covers X) (SumsBy op (Covers A) (Covers B))
all_kept op R L M X A B k d e f h i = rw (← d, ← e, ← f) (subst (λ (m : List (ℤ × ℤ)). IsSubset (Covers m) (SumsBy op (Covers L) (Covers M))) (take_all k R h) i)

-- some runs are whole, and the results in the others were added to them
pub results_seen : (op : Combined) (R L M X A B new N : List (ℤ × ℤ)) (k : ℕ) → R ≡ X → L ≡ A → M ≡ B → IsSubset (Covers (take k R)) (SumsBy op (Covers L) (Covers M)) →
    SameMembers (Covers new) (Union (Covers (take k R)) (Intersection (Covers (drop k R)) (SumsBy op (Covers L) (Covers M)))) → IsRunsOf N (Covers new) → IsRunsOf N (Intersection (Covers X) (SumsBy op (Covers A) (Covers B)))
results_seen op R L M X A B new N k d e f whole h runs =
    let S = SumsBy op (Covers L) (Covers M) in
    rw (← d, ← e, ← f) (IsRunsOf-same (Covers new) (Intersection (Covers R) S) N (results_are S R new k whole h) runs)

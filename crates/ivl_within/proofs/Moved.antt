-- The results with one run, and the walk over them and the runs of a list.
use Rattle.std.proofs.Common.{◌≡◌, ◌≢◌, ◌∙◌, ◌⊎◌, ⊎_elim, inl, inr, ℕ, ◌+◌, ◌<◌, ◌≤◌, ℤ, pos, ◌≤ℤ◌, ◌<ℤ◌, List, [], ◌∷◌, ◌++◌, length, get_or, refl, sym, ap, subst, arith}
use Rattle.std.proofs.lemmas.Bool.{cases_lt}
use Rattle.std.proofs.lemmas.Int.{ints}
use Rattle.std.proofs.lemmas.List.{get_or_default}
use Rattle.ivl_laws.specs.Sets.{HasNone, Intersection, IsBetween, IsSubset, Only, SameMembers, Union}
use Rattle.ivl_laws.specs.Runs.{Covers, IsMaximal}
use Rattle.ivl_laws.proofs.Places.{covers_at, open_at, place_of_covered, runs_ascend}
use Rattle.ivl_images.specs.Sweeps.{run_at}
use Rattle.ivl_within.specs.Within.{SumsBy, pair_by}
use Rattle.ivl_within.specs.Fronts.{nth_by}
use Rattle.ivl_within.specs.Moved.{HasOneRun, image_by, image_count}
use Rattle.ivl_laws.proofs.Runs.{lower_end}
use Rattle.ivl_laws.proofs.Merging.{covers-append, covers-append_left, covers-append_right}
use Rattle.ivl_within.proofs.Reaching.{alone}
use Rattle.ivl_within.proofs.Fronts.{at_most, in_rows, of_row, row, row_ascends, row_within}
use Rattle.ivl_within.specs.declared.within.Combined.{Combined}
use Rattle.ivl_within.specs.declared.within.Combined.TheVariants.{Sum, Difference}

-- ---- the results with one run

-- runs that ascend, and cover a set
pub record AreAscending (f : ℕ → ℤ × ℤ) (n : ℕ) (S : ℤ → Type 0) : Type 0 where
  pub within : (k : ℕ) → k < n → IsSubset (IsBetween (f k)) S
  pub each : (z : ℤ) → S z → (k : ℕ) × (k < n) × IsBetween (f k) z
  pub ascend : (j k : ℕ) → j ≤ k → k < n → ((f j).0 ≤ℤ (f k).0) × ((f j).1 ≤ℤ (f k).1)

-- the results of a later run with the same one
row_above : (op : Combined) (b : List (ℤ × ℤ)) (p q : ℤ × ℤ) (k : ℕ) → p.0 ≤ℤ q.0 → p.1 ≤ℤ q.1 → ((row op b p k).0 ≤ℤ (row op b q k).0) × ((row op b p k).1 ≤ℤ (row op b q k).1)
row_above Sum b p q k h i = (omega (arith, ints), omega (arith, ints))
row_above Difference b p q k h i = (omega (arith, ints), omega (arith, ints))

pub images_ascend : (op : Combined) (a b : List (ℤ × ℤ)) → IsMaximal a → IsMaximal b → HasOneRun a b → AreAscending (image_by op a b) (image_count a b) (SumsBy op (Covers a) (Covers b))
images_ascend op [] b l r one = record {
  within = λ k h. absurd (omega (arith, h));
  each = λ z s. let (i, h, k, j, t) = in_rows op [] b z s in absurd (omega (arith, h));
  ascend = λ j k h i. absurd (omega (arith, i));
}
images_ascend op (p ∷ []) b l r one = record {
  within = λ k h z t. of_row op (p ∷ []) b 0 (omega arith) z (row_within op b p k l.0 r h z t);
  each = λ z s.
      let (i, h, k, j, t) = in_rows op (p ∷ []) b z s in
      let first : i ≡ 0 = omega arith in
      (k, j, subst (λ (n : ℕ). IsBetween (row op b (run_at (p ∷ []) n) k) z) first t);
  ascend = λ j k h i. row_ascends op b p j k r h i;
}
images_ascend op (p ∷ q ∷ L) b l r one =
    let a = p ∷ q ∷ L in
    let single : length b ≡ 1 = ⊎_elim (λ e. absurd (omega (arith, e))) (λ e. e) one in
    record {
      within = λ k h z t. of_row op a b k h z (row_within op b (run_at a k) 0 (open_at a k (pos 0, pos 0) l h) r (omega arith) z t);
      each = λ z s.
          let (i, h, k, j, t) = in_rows op a b z s in
          let first : k ≡ 0 = omega arith in
          (i, h, subst (λ (n : ℕ). IsBetween (row op b (run_at a i) n) z) first t);
      ascend = λ j k h i. let (low, high) = at_most a j k l h i in row_above op b (run_at a j) (run_at a k) 0 low high;
    }

-- where the first list has one run, and where not
pub count_of_one : (a b : List (ℤ × ℤ)) → length a ≡ 1 → length b ≡ image_count a b
count_of_one [] b e = absurd (omega (arith, e))
count_of_one (p ∷ []) b e = refl
count_of_one (p ∷ q ∷ a) b e = absurd (omega (arith, e))

pub count_of_other : (a b : List (ℤ × ℤ)) → length a ≢ 1 → length a ≡ image_count a b
count_of_other [] b n = refl
count_of_other (p ∷ []) b n = absurd (n refl)
count_of_other (p ∷ q ∷ a) b n = refl

pub image_of_one : (op : Combined) (a b : List (ℤ × ℤ)) (p r : ℤ × ℤ) (k : ℕ) → length a ≡ 1 → p ≡ get_or a 0 p → r ≡ pair_by op p (nth_by op b k) → r ≡ image_by op a b k
image_of_one op [] b p r k e is made = absurd (omega (arith, e))
image_of_one op (q ∷ []) b p r k e is made = made ∙ ap (λ (t : ℤ × ℤ). pair_by op t (nth_by op b k)) is
image_of_one op (q ∷ q' ∷ a) b p r k e is made = absurd (omega (arith, e))

pub image_of_other : (op : Combined) (a b : List (ℤ × ℤ)) (p r : ℤ × ℤ) (k : ℕ) → length a ≢ 1 → k < length a → p ≡ get_or a k p → r ≡ pair_by op p (nth_by op b 0) → r ≡ image_by op a b k
image_of_other op [] b p r k n l is made = absurd (omega (arith, l))
image_of_other op (q ∷ []) b p r k n l is made = absurd (n refl)
image_of_other op (q ∷ q' ∷ a) b p r k n l is made =
    made ∙ ap (λ (t : ℤ × ℤ). pair_by op t (nth_by op b 0)) (is ∙ get_or_default (q ∷ q' ∷ a) k p (pos 0, pos 0) l)

-- ---- the walk

-- what each run and each result have in common is added, but for those from two places on
pub record IsCommonAdded (f : ℕ → ℤ × ℤ) (n : ℕ) (S : ℤ → Type 0) (R old new : List (ℤ × ℤ)) (i j : ℕ) : Type 0 where
  pub only : IsSubset (Covers new) (Union (Covers old) (Intersection (Covers R) S))
  pub kept : IsSubset (Covers old) (Covers new)
  pub all : (k m : ℕ) → k < length R → m < n → (z : ℤ) → IsBetween (run_at R k) z → IsBetween (f m) z → Covers new z ⊎ ((i ≤ k) × (j ≤ m))

pub common_none : (f : ℕ → ℤ × ℤ) (n : ℕ) (S : ℤ → Type 0) (R old : List (ℤ × ℤ)) → IsCommonAdded f n S R old old 0 0
common_none f n S R old = record {
  only = λ z c. inl c;
  kept = λ z c. c;
  all = λ k m h l z b b'. inr (omega arith, omega arith);
}

module _ (f : ℕ → ℤ × ℤ) (n : ℕ) (S : ℤ → Type 0) (R old : List (ℤ × ℤ)) (up : AreAscending f n S) where
  pub common_all : (new : List (ℤ × ℤ)) (i j : ℕ) → (length R ≤ i) ⊎ (n ≤ j) → IsCommonAdded f n S R old new i j → SameMembers (Covers new) (Union (Covers old) (Intersection (Covers R) S))
  common_all new i j done inv z = (
    inv.only z,
    ⊎_elim (inv.kept z) (λ (c, s).
        let (k, h, b) = place_of_covered R (pos 0, pos 0) z c in
        let (m, l, b') = up.each z s in
        ⊎_elim (λ d. d) (λ (u, v). ⊎_elim (λ e. absurd (omega arith)) (λ e. absurd (omega arith)) done) (inv.all k m h l z b b')),
  )

  module _ (entries new : List (ℤ × ℤ)) (i j : ℕ) (run image part : ℤ × ℤ) (maximal : IsMaximal R) (here : i < length R) (there : j < n)
      (is : run ≡ get_or R i run) (made : image ≡ f j) (common : SameMembers (IsBetween part) (Intersection (IsBetween run) (IsBetween image)))
      (pushed : SameMembers (Covers new) (Union (Covers entries) (IsBetween part))) (inv : IsCommonAdded f n S R old entries i j) where
    run_is : run ≡ run_at R i
    run_is = is ∙ get_or_default R i run (pos 0, pos 0) here

    in_part : (z : ℤ) → IsBetween (run_at R i) z → IsBetween (f j) z → Covers new z
    in_part z b b' = (pushed z).1 (inr ((common z).1 (subst (λ (t : ℤ × ℤ). IsBetween t z) (sym run_is) b, subst (λ (t : ℤ × ℤ). IsBetween t z) (sym made) b')))

    only : IsSubset (Covers new) (Union (Covers old) (Intersection (Covers R) S))
    only z c = ⊎_elim (inv.only z)
        (λ t. let (b, b') = (common z).0 t in
        inr (covers_at R i run z here (subst (λ (u : ℤ × ℤ). IsBetween u z) is b), up.within j there z (subst (λ (u : ℤ × ℤ). IsBetween u z) made b')))
        ((pushed z).0 c)

    kept : IsSubset (Covers old) (Covers new)
    kept z o = (pushed z).1 (inl (inv.kept z o))

    -- no later run has a member of the result at hand
    pub next_image : image.1 ≤ℤ run.1 → IsCommonAdded f n S R old new i (j + 1)
    next_image low = record {
      only = only;
      kept = kept;
      all = λ k m h l z b b'. ⊎_elim
          (λ c. inl ((pushed z).1 (inl c)))
          (λ (u, v). ⊎_elim
          (λ later. inr (u, omega arith))
          (λ now. let this : m ≡ j = omega arith in
          let b'' = subst (λ (t : ℕ). IsBetween (f t) z) this b' in
          ⊎_elim
          (λ beyond. let above = runs_ascend R i k (pos 0, pos 0) maximal beyond h in
          let low' = subst (λ (t : ℤ × ℤ). (f j).1 ≤ℤ t.1) run_is (subst (λ (t : ℤ × ℤ). t.1 ≤ℤ run.1) made low) in
          let (x, y) = b in let (x', y') = b'' in absurd (omega (arith, ints)))
          (λ same. let this' : k ≡ i = omega arith in inl (in_part z (subst (λ (t : ℕ). IsBetween (run_at R t) z) this' b) b''))
          (cases_lt i k))
          (cases_lt j m))
          (inv.all k m h l z b b');
    }

    -- what a later result has of the run at hand, the one at hand has too
    pub next_run : run.1 <ℤ image.1 → IsCommonAdded f n S R old new (i + 1) j
    next_run high = record {
      only = only;
      kept = kept;
      all = λ k m h l z b b'. ⊎_elim
          (λ c. inl ((pushed z).1 (inl c)))
          (λ (u, v). ⊎_elim
          (λ later. inr (omega arith, v))
          (λ now. let this : k ≡ i = omega arith in
          let b'' = subst (λ (t : ℕ). IsBetween (run_at R t) z) this b in
          let high' = subst (λ (t : ℤ × ℤ). t.1 <ℤ (f j).1) run_is (subst (λ (t : ℤ × ℤ). run.1 <ℤ t.1) made high) in
          let first = (up.ascend j m v l).0 in
          let (x, y) = b'' in let (x', y') = b' in
          inl (in_part z b'' (omega (arith, ints), omega (arith, ints))))
          (cases_lt i k))
          (inv.all k m h l z b b');
    }

-- an entry, or none
pub part_pushed : (entries new : List (ℤ × ℤ)) (part : ℤ × ℤ) → new ≡ entries ++ part ∷ [] → SameMembers (Covers new) (Union (Covers entries) (IsBetween part))
part_pushed entries new part is = subst (λ (L : List (ℤ × ℤ)). SameMembers (Covers L) (Union (Covers entries) (IsBetween part))) (sym is) (λ z. (
  (λ c. ⊎_elim inl (λ k. inr (alone part z k)) (covers-append entries (part ∷ []) z c)),
  ⊎_elim (covers-append_left entries (part ∷ []) z) (λ b. covers-append_right entries (part ∷ []) z (inl b)),
))

pub none_pushed : (entries : List (ℤ × ℤ)) (part : ℤ × ℤ) → HasNone (IsBetween part) → SameMembers (Covers entries) (Union (Covers entries) (IsBetween part))
none_pushed entries part none z = (inl, ⊎_elim (λ c. c) (λ b. absurd (none z b)))

-- a run within a result is within all of them
pub in_result : (f : ℕ → ℤ × ℤ) (n : ℕ) (S : ℤ → Type 0) (j : ℕ) (run image : ℤ × ℤ) → AreAscending f n S → j < n → image ≡ f j → IsSubset (IsBetween run) (IsBetween image) → IsSubset (IsBetween run) S
in_result f n S j run image up l made h z b = up.within j l z (subst (λ (t : ℤ × ℤ). IsBetween t z) made (h z b))

-- a set of one number has one run
pub one_run_of_number : (L : List (ℤ × ℤ)) → IsMaximal L → (x : ℤ) × SameMembers (Covers L) (Only x) → length L ≡ 1
one_run_of_number [] m (x, same) = absurd ((same x).1 refl)
one_run_of_number (p ∷ []) m (x, same) = refl
one_run_of_number (p ∷ q ∷ L) m (x, same) =
    let first = (same p.0).0 (inl (lower_end p m.0)) in
    let second = (same q.0).0 (inr (inl (lower_end q m.2.0))) in
    let wide = m.0 in
    let apart = m.1 in
    absurd (omega (arith, ints, first, second, wide, apart))

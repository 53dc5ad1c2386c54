-- Members of pages that stand in a row: the longest run of a page, and the lowest place with room.
use Rattle.std.proofs.Common.{◌≡◌, ◌⊎◌, ⊎_elim, inl, inr, ℕ, zero, suc, ◌+◌, ◌-◌, ◌<◌, ◌≤◌, ℤ, pos, ◌+ℤ◌, ◌-ℤ◌, ◌≤ℤ◌, Bool, true, false, cond, List, [], ◌∷◌, ◌++◌, length, length-drop, get_or, take, take_all, drop, Some, None, refl, sym, ap, subst, ◌∙◌, arith}
use Rattle.std.specs.Prelude.{Option, MatchOption}
use Rattle.std.proofs.lemmas.Int.{ints, by_lt_z}
use Rattle.std.proofs.lemmas.List.{drop_more, get_or-drop}
use Rattle.ivl_laws.specs.Bounds.{width_of}
use Rattle.ivl_laws.specs.Counts.{IsIn}
use Rattle.ivl_laws.specs.Sets.{AtLeast, IsBetween, IsSubset, SameMembers, Union}
use Rattle.ivl_laws.specs.Runs.{Covers, IsMaximal}
use Rattle.ivl_laws.proofs.Counts.{in-append}
use Rattle.ivl_laws.proofs.Intervals.{width_of-filled}
use Rattle.ivl_laws.proofs.Merging.{covers-append_left, covers-append_right}
use Rattle.ivl_laws.proofs.Places.{IsMaximal-take, open_at}
use Rattle.ivl_laws.proofs.Products.{one_covers}
use Rattle.ivl_places.specs.Neighbours.{IsRunWith}
use Rattle.ivl_places.specs.FirstFit.{FitsAt, IsFirstFit}
use Rattle.ivl_places.proofs.FirstFit.{IsFitOf, fit_of_members, fit_of_same, in_one_run}
use Rattle.ivl_places.proofs.Ranks.{more_is, none_taken}
use Rattle.ivl_paged.specs.Longests.{HasLong, IsNextLong}
use Rattle.ivl_paged.specs.Pages.{IsLongest, StartsUpTo, flattened}
use Rattle.ivl_paged.proofs.Paging.{IsMaximal-dropped, covers_dropped, covers_taken, cut_at, ends_below, order_of, parts_apart, taken_covers}

-- ---- the longest run

none_fit : (S : ℤ → Type 0) (v : ℤ) → FitsAt 0 S v
none_fit S v z b = let low = b.0 in let high = b.1 in absurd (omega (arith, ints))

pub fewer_fit : (m n : ℕ) (S : ℤ → Type 0) (v : ℤ) → m ≤ n → FitsAt n S v → FitsAt m S v
fewer_fit m n S v h f z b = let low = b.0 in let high = b.1 in f z (low, omega (arith, ints, high, h))

pub longest_of_none : (L : List (ℤ × ℤ)) (n : ℕ) → n ≡ 0 → IsLongest n (Covers (take 0 L))
longest_of_none L n e = subst (λ (k : ℕ). IsLongest k (Covers (take 0 L))) (sym e) (record { fits = (pos 0, none_fit (Covers (take 0 L)) (pos 0)); most = most })
  where
    most : (m : ℕ) (v : ℤ) → FitsAt m (Covers (take 0 L)) v → m ≤ 0
    most zero v f = omega arith
    most (suc m) v f = absurd (none_taken L v (f v (omega (arith, ints), omega (arith, ints))))

module _ (L : List (ℤ × ℤ)) (i k : ℕ) (d : ℤ × ℤ) (m : IsMaximal L) (h : i < length L) (is : d ≡ get_or L i d) (so_far : IsLongest k (Covers (take i L))) where
  open_here : d.0 ≤ℤ d.1
  open_here = subst (λ (p : ℤ × ℤ). p.0 ≤ℤ p.1) (sym is) (open_at L i d m h)

  pushed : IsMaximal (take i L ++ d ∷ [])
  pushed = subst IsMaximal (more_is L i d m h is) (IsMaximal-take L (i + 1) m)

  -- numbers in a row are in the runs so far, or in the next one
  either : (n : ℕ) (v : ℤ) → 0 < n → FitsAt n (Covers (take i L ++ d ∷ [])) v → (n ≤ k) ⊎ (n ≤ width_of d)
  either n v some f =
      let r = in_one_run n (take i L ++ d ∷ []) v some pushed f in
      let p = r.0 in
      let low = r.2.0 in
      let high = r.3.1 in
      ⊎_elim
      (λ (a : IsIn (take i L) p). inl (so_far.most n v (λ z b. let lo = b.0 in let hi = b.1 in one_covers (take i L) p z a (omega (arith, ints), omega (arith, ints)))))
      (⊎_elim
      (λ (e : p ≡ d). inr (
      let width = width_of-filled d open_here in
      let lo : d.0 ≤ℤ v = subst (λ (q : ℤ × ℤ). q.0 ≤ℤ v) e low in
      let hi : ((v +ℤ pos n) -ℤ pos 1) ≤ℤ d.1 = subst (λ (q : ℤ × ℤ). ((v +ℤ pos n) -ℤ pos 1) ≤ℤ q.1) e high in
      omega (arith, ints, width, lo, hi)))
      (λ x. absurd x))
      (in-append (take i L) (d ∷ []) p r.1)

  longest_same : width_of d ≤ k → IsLongest k (Covers (take i L ++ d ∷ []))
  longest_same le = record {
    fits = (so_far.fits.0, λ z b. covers-append_left (take i L) (d ∷ []) z (so_far.fits.1 z b));
    most = most;
  }
    where
      most : (n : ℕ) (v : ℤ) → FitsAt n (Covers (take i L ++ d ∷ [])) v → n ≤ k
      most zero v f = omega arith
      most (suc n) v f = ⊎_elim (λ a. a) (λ b. omega (arith, b, le)) (either (suc n) v (omega arith) f)

  longest_here : k ≤ width_of d → IsLongest (width_of d) (Covers (take i L ++ d ∷ []))
  longest_here le = record {
    fits = (d.0, λ z b. let width = width_of-filled d open_here in let low = b.0 in let high = b.1 in covers-append_right (take i L) (d ∷ []) z (inl (low, omega (arith, ints, width, high))));
    most = most;
  }
    where
      most : (n : ℕ) (v : ℤ) → FitsAt n (Covers (take i L ++ d ∷ [])) v → n ≤ width_of d
      most zero v f = omega arith
      most (suc n) v f = ⊎_elim (λ a. omega (arith, a, le)) (λ b. b) (either (suc n) v (omega arith) f)

-- x is the longest so far and y the length of the next run; the test t decides
pub longest_next : {A : Type 0} (size : A → ℕ) (L : List (ℤ × ℤ)) (i : ℕ) (d : ℤ × ℤ) (x y r : A) (t : Bool) → IsMaximal L → i < length L → d ≡ get_or L i d → IsLongest (size x) (Covers (take i L)) → size y ≡ width_of d →
    (t ≡ true → size x ≤ size y) → (t ≡ false → size y < size x) → r ≡ cond t y x → IsLongest (size r) (Covers (take (i + 1) L))
longest_next size L i d x y r true m h is so_far w up down e =
    let le = up refl in
    subst (λ (M : List (ℤ × ℤ)). IsLongest (size r) (Covers M)) (sym (more_is L i d m h is))
    (subst (λ (n : ℕ). IsLongest n (Covers (take i L ++ d ∷ []))) (sym w ∙ ap size (sym e)) (longest_here L i (size x) d m h is so_far (omega (arith, le, w))))
longest_next size L i d x y r false m h is so_far w up down e =
    let lt = down refl in
    subst (λ (M : List (ℤ × ℤ)). IsLongest (size r) (Covers M)) (sym (more_is L i d m h is))
    (subst (λ (n : ℕ). IsLongest n (Covers (take i L ++ d ∷ []))) (ap size (sym e)) (longest_same L i (size x) d m h is so_far (omega (arith, lt, w))))

-- ---- the longest run after an edit

-- numbers in a row that share one with a run lie in it
in_run : (m : ℕ) (S : ℤ → Type 0) (run : ℤ × ℤ) (v x z : ℤ) → IsRunWith x S run → FitsAt m S v → IsBetween (v, (v +ℤ pos m) -ℤ pos 1) z → IsBetween run z → m ≤ width_of run
in_run m S run v x z r f b c =
    let low = b.0 in
    let high = b.1 in
    let from = c.0 in
    let to = c.1 in
    let filled : run.0 ≤ℤ run.1 = omega (arith, ints, from, to) in
    let width = width_of-filled run filled in
    let start : run.0 ≤ℤ v = by_lt_z v run.0
    (λ lt. absurd (r.free_below (f (run.0 -ℤ pos 1) (omega (arith, ints, lt), omega (arith, ints, from, high)))))
    (λ le. le) in
    let end : ((v +ℤ pos m) -ℤ pos 1) ≤ℤ run.1 = by_lt_z run.1 ((v +ℤ pos m) -ℤ pos 1)
    (λ lt. absurd (r.free_above (f (run.1 +ℤ pos 1) (omega (arith, ints, low, to), omega (arith, ints, lt)))))
    (λ le. le) in
    omega (arith, ints, start, end, width)

-- numbers of a set that begin in a run of it lie in it
within_run : (S : ℤ → Type 0) (run p : ℤ × ℤ) → IsRunWith p.0 S run → p.0 ≤ℤ p.1 → IsSubset (IsBetween p) S → p.1 ≤ℤ run.1
within_run S run p r filled inside = by_lt_z run.1 p.1
    (λ lt. let low = r.holds.0 in let high = r.holds.1 in absurd (r.free_above (inside (run.1 +ℤ pos 1) (omega (arith, ints, high), omega (arith, ints, lt)))))
    (λ le. le)

-- p was added to S, which made T, and `run` holds it there
longest_grown : (k n : ℕ) (S T : ℤ → Type 0) (run p : ℤ × ℤ) → IsLongest k S → SameMembers T (Union S (IsBetween p)) → p.0 ≤ℤ p.1 → IsRunWith p.0 T run →
    (k ≤ n) × (width_of run ≤ n) × ((n ≡ k) ⊎ (n ≡ width_of run)) → IsLongest n T
longest_grown k n S T run p old same filled r (more, wide, which) = record { fits = fits; most = most }
  where
    low : run.0 ≤ℤ p.0
    low = r.holds.0

    high : p.1 ≤ℤ run.1
    high = within_run T run p r filled (λ z b. (same z).1 (inr b))

    open_run : run.0 ≤ℤ run.1
    open_run = let l = low in let h = high in omega (arith, ints, l, h, filled)

    fits : (v : ℤ) × FitsAt n T v
    fits = ⊎_elim
        (λ e. (old.fits.0, λ z b. (same z).1 (inl (subst (λ (m : ℕ). FitsAt m S old.fits.0) (sym e) old.fits.1 z b))))
        (λ e. (run.0, λ z b. let width = width_of-filled run open_run in let lo = b.0 in let hi = b.1 in r.inside z (lo, omega (arith, ints, width, hi, e))))
        which

    -- clear of the run they were there before
    clear : (m : ℕ) (v : ℤ) → FitsAt m T v → ((z : ℤ) → IsBetween (v, (v +ℤ pos m) -ℤ pos 1) z → ¬ (IsBetween run z)) → m ≤ k
    clear m v f apart = old.most m v (λ z b. ⊎_elim (λ s. s)
        (λ c. let l = low in let h = high in let lo = c.0 in let hi = c.1 in absurd (apart z b (omega (arith, ints, l, lo), omega (arith, ints, h, hi))))
        ((same z).0 (f z b)))

    most : (m : ℕ) (v : ℤ) → FitsAt m T v → m ≤ n
    most m v f = by_lt_z ((v +ℤ pos m) -ℤ pos 1) run.0
        (λ before. let le = clear m v f (λ z b c. let hi = b.1 in let lo = c.0 in omega (arith, ints, before, hi, lo)) in omega (arith, le, more))
        (λ up. by_lt_z run.1 v
        (λ after. let le = clear m v f (λ z b c. let lo = b.0 in let hi = c.1 in omega (arith, ints, after, lo, hi)) in omega (arith, le, more))
        (λ down. by_lt_z v run.0
        (λ under. let o = open_run in let le = in_run m T run v p.0 run.0 r f (omega (arith, ints, under), up) (omega (arith, ints), o) in omega (arith, le, wide))
        (λ over. share m v f over down)))
      where
        share : (m : ℕ) (v : ℤ) → FitsAt m T v → run.0 ≤ℤ v → v ≤ℤ run.1 → m ≤ n
        share zero v f over down = omega arith
        share (suc m) v f over down = let le = in_run (suc m) T run v p.0 v r f (omega (arith, ints), omega (arith, ints)) (over, down) in omega (arith, le, wide)

-- the same where a search at v, the first number of p, found the run
pub grown_by_run : (o : Option (ℤ × ℤ)) (k n : ℕ) (S T : ℤ → Type 0) (p : ℤ × ℤ) (v : ℤ) → v ≡ p.0 → IsLongest k S → SameMembers T (Union S (IsBetween p)) → p.0 ≤ℤ p.1 → MatchOption o (¬ (T v)) (IsRunWith v T) →
    MatchOption o (n ≡ k) (λ run. (k ≤ n) × (width_of run ≤ n) × ((n ≡ k) ⊎ (n ≡ width_of run))) → IsLongest n T
grown_by_run None k n S T p v e old same filled free h = absurd (free (subst T (sym e) ((same p.0).1 (inr (omega (arith, ints), filled)))))
grown_by_run (Some run) k n S T p v e old same filled r h = longest_grown k n S T run p old same filled (subst (λ (x : ℤ). IsRunWith x T run) e r) h

-- ---- two lists of which one follows the other

pub fits_in_part : (n : ℕ) (A B : List (ℤ × ℤ)) (v : ℤ) → 0 < n → IsMaximal (A ++ B) → FitsAt n (Covers (A ++ B)) v → FitsAt n (Covers A) v ⊎ FitsAt n (Covers B) v
fits_in_part n A B v some m f =
    let r = in_one_run n (A ++ B) v some m f in
    ⊎_elim (λ i. inl (all_of A r.0 i r.2.0 r.3.1)) (λ i. inr (all_of B r.0 i r.2.0 r.3.1)) (in-append A B r.0 r.1)
  where
    all_of : (L : List (ℤ × ℤ)) (p : ℤ × ℤ) → IsIn L p → p.0 ≤ℤ v → ((v +ℤ pos n) -ℤ pos 1) ≤ℤ p.1 → FitsAt n (Covers L) v
    all_of L p i low high z b = let lo = b.0 in let hi = b.1 in one_covers L p z i (omega (arith, ints), omega (arith, ints))

pub first_of : (n : ℕ) (v : ℤ) (S : ℤ → Type 0) → 0 < n → FitsAt n S v → S v
first_of n v S some f = f v (omega (arith, ints, some), omega (arith, ints, some))

-- nothing fits in the first, so what fits is in the second
fit_in_second : (n : ℕ) (A B : List (ℤ × ℤ)) (o : Option (ℤ × ℤ)) → 0 < n → IsMaximal (A ++ B) → ((v : ℤ) → ¬ (FitsAt n (Covers A) v)) → IsFitOf n (Covers B) o → IsFitOf n (Covers (A ++ B)) o
fit_in_second n A B o some m none k = fit_of_same n (Covers B) (Covers (A ++ B)) o
    (λ v f. ⊎_elim (λ a. absurd (none v a)) (λ b. b) (fits_in_part n A B v some m f)) (λ z c. covers-append_right A B z c) k

fit_in_first : (n : ℕ) (A B : List (ℤ × ℤ)) (run : ℤ × ℤ) → 0 < n → IsMaximal (A ++ B) → IsFirstFit n (Covers A) run → IsFirstFit n (Covers (A ++ B)) run
fit_in_first n A B run some m k = record {
  count = k.count;
  members = λ z b. covers-append_left A B z (k.members z b);
  lowest = λ v f. ⊎_elim (λ a. k.lowest v a)
      (λ b. let e = k.count in
      let here = k.members run.0 (omega (arith, ints), omega (arith, ints, e, some)) in
      let far = parts_apart A B run.0 v m here (first_of n v (Covers B) some b) in omega (arith, ints, far))
      (fits_in_part n A B v some m f);
}

-- ---- a loop over pages: what fits in the rest fits in all

abbrev pub FitsAsPages : ℕ → List (List (ℤ × ℤ)) → ℕ → Type 0
FitsAsPages n P i = (o : Option (ℤ × ℤ)) → IsFitOf n (Covers (flattened (drop i P))) o → IsFitOf n (Covers (flattened P)) o

pub fits_as_all_pages : (n : ℕ) (P : List (List (ℤ × ℤ))) → FitsAsPages n P 0
fits_as_all_pages n P o k = k

page_first : (P : List (List (ℤ × ℤ))) (i : ℕ) (d : List (ℤ × ℤ)) → i < length P → flattened (drop i P) ≡ get_or P i d ++ flattened (drop (i + 1) P)
page_first P i d h = ap flattened (drop_more P i d h)

open_page : (P : List (List (ℤ × ℤ))) (L : List (ℤ × ℤ)) (i : ℕ) → IsMaximal (flattened P) → i < length P → L ≡ get_or P i [] → IsMaximal (L ++ flattened (drop (i + 1) P))
open_page P L i m h e = subst (λ (K : List (ℤ × ℤ)). IsMaximal (K ++ flattened (drop (i + 1) P))) (sym e) (subst IsMaximal (page_first P i [] h) (IsMaximal-dropped P i m))

-- page i has no room
fits_past_page : (n : ℕ) (P : List (List (ℤ × ℤ))) (i : ℕ) → 0 < n → i < length P → IsMaximal (flattened P) → ¬ (HasLong n P i) → FitsAsPages n P i → FitsAsPages n P (i + 1)
fits_past_page n P i some h m none f o k =
    let L = get_or P i [] in
    f o (subst (λ (K : List (ℤ × ℤ)). IsFitOf n (Covers K) o) (sym (page_first P i [] h))
    (fit_in_second n L (flattened (drop (i + 1) P)) o some (open_page P L i m h refl) (λ v g. none (v, g)) k))

-- no page from place `from` on to before place i has room
fits_past_pages : (n : ℕ) (P : List (List (ℤ × ℤ))) (i : ℕ) → 0 < n → i ≤ length P → IsMaximal (flattened P) → ((k : ℕ) → k < i → ¬ (HasLong n P k)) → FitsAsPages n P i
fits_past_pages n P zero some h m none = fits_as_all_pages n P
fits_past_pages n P (suc i) some h m none =
    let next : i + 1 ≡ suc i = omega arith in
    subst (λ (j : ℕ). FitsAsPages n P j) next (fits_past_page n P i some (omega (arith, h)) m (none i (omega arith)) (fits_past_pages n P i some (omega (arith, h)) m (λ k less. none k (omega (arith, less)))))

-- page L has room
fits_in_page : (n : ℕ) (P : List (List (ℤ × ℤ))) (i : ℕ) (o : Option (ℤ × ℤ)) → 0 < n → i < length P → IsMaximal (flattened P) → HasLong n P i → IsFitOf n (Covers (get_or P i [])) o → FitsAsPages n P i → IsFitOf n (Covers (flattened P)) o
fits_in_page n P i None some h m long k f = absurd (k long.0 long.1)
fits_in_page n P i (Some run) some h m long k f =
    let L = get_or P i [] in
    f (Some run) (subst (λ (K : List (ℤ × ℤ)). IsFirstFit n (Covers K) run) (sym (page_first P i [] h)) (fit_in_first n L (flattened (drop (i + 1) P)) run some (open_page P L i m h refl) k))

no_page_fits : (n : ℕ) (P : List (List (ℤ × ℤ))) (i : ℕ) → 0 < n → length P ≤ i → FitsAsPages n P i → IsFitOf n (Covers (flattened P)) None
no_page_fits n P i some h f = f None (λ v g. let (k, le, c) = covers_dropped P i v (first_of n v _ some g) in beyond P k v (omega (arith, le, h)) c)
  where
    beyond : (Q : List (List (ℤ × ℤ))) (k : ℕ) (z : ℤ) → length Q ≤ k → Covers (get_or Q k []) z → ⊥
    beyond [] k z h c = c
    beyond (L ∷ Q) zero z h c = absurd (omega arith)
    beyond (L ∷ Q) (suc k) z h c = beyond Q k z (omega arith) c

-- ---- the pages from place `from` on

long_at : (n : ℕ) (P : List (List (ℤ × ℤ))) (i k : ℕ) → get_or (drop i P) k [] ≡ get_or P (i + k) []
long_at n P i k = get_or-drop i P k []

pub fit_of_next : (n : ℕ) (P : List (List (ℤ × ℤ))) (L : List (ℤ × ℤ)) (from i : ℕ) (o : Option (ℤ × ℤ)) → 0 < n → IsMaximal (flattened P) → IsNextLong n P from i → L ≡ get_or P i [] → IsFitOf n (Covers L) o → IsFitOf n (Covers (flattened (drop from P))) o
fit_of_next n P L from i o some m p e k =
    let D = drop from P in
    let low = p.from in
    let less = p.less in
    let left = length-drop from P in
    let there : from + (i - from) ≡ i = omega (arith, low) in
    let here : get_or D (i - from) [] ≡ get_or P i [] = long_at n P from (i - from) ∙ ap (λ (j : ℕ). get_or P j []) there in
    let long : HasLong n D (i - from) = (p.long.0, subst (λ (K : List (ℤ × ℤ)). FitsAt n (Covers K) p.long.0) (sym here) p.long.1) in
    fits_in_page n D (i - from) o some (omega (arith, low, less, left)) (IsMaximal-dropped P from m) long (subst (λ (K : List (ℤ × ℤ)). IsFitOf n (Covers K) o) (e ∙ sym here) k)
    (fits_past_pages n D (i - from) some (omega (arith, low, less, left)) (IsMaximal-dropped P from m)
    (λ j lt l. p.passed (from + j) (omega arith) (omega (arith, lt, low)) (l.0, subst (λ (K : List (ℤ × ℤ)). FitsAt n (Covers K) l.0) (long_at n P from j) l.1)))

pub fit_of_none : (n : ℕ) (P : List (List (ℤ × ℤ))) (from : ℕ) → 0 < n → IsMaximal (flattened P) → ((k : ℕ) → from ≤ k → k < length P → ¬ (HasLong n P k)) → IsFitOf n (Covers (flattened (drop from P))) None
fit_of_none n P from some m none =
    let D = drop from P in
    let left = length-drop from P in
    no_page_fits n D (length D) some (omega arith)
    (fits_past_pages n D (length D) some (omega arith) (IsMaximal-dropped P from m)
    (λ j lt l. none (from + j) (omega arith) (omega (arith, lt, left)) (l.0, subst (λ (K : List (ℤ × ℤ)). FitsAt n (Covers K) l.0) (long_at n P from j) l.1)))

-- ---- the members from a number on

-- of the pages that start up to v only the last has a number at v or above
pub fit_in_last : (n : ℕ) (P : List (List (ℤ × ℤ))) (L : List (ℤ × ℤ)) (v : ℤ) (k : ℕ) (o : Option (ℤ × ℤ)) → IsMaximal (flattened P) → StartsUpTo P v k → 0 < k → L ≡ get_or P (k - 1) [] →
    IsFitOf n (AtLeast v (Covers L)) o → IsFitOf n (AtLeast v (Covers (flattened (take k P)))) o
fit_in_last n P L v k o m s some e = fit_of_members n (AtLeast v (Covers L)) (AtLeast v (Covers (flattened (take k P)))) o (λ z. (
  (λ (c, up). (taken_covers P k (k - 1) z (omega (arith, some)) (subst (λ (K : List (ℤ × ℤ)). Covers K z) e c), up)),
  (λ (c, up). let (j, lt, a) = covers_taken P k z c in
      ⊎_elim (λ before. absurd (let far = ends_below P v k j z m s before a in omega (arith, ints, far, up)))
      (λ behind. (subst (λ (K : List (ℤ × ℤ)). Covers K z) (sym e) (subst (λ (i : ℕ). Covers (get_or P i []) z) (omega (arith, lt, behind)) a), up))
      (order_of (j + 1) k)),
))

pub fit_in_no_page : (n : ℕ) (P : List (List (ℤ × ℤ))) (v : ℤ) (k : ℕ) → 0 < n → k ≡ 0 → IsFitOf n (AtLeast v (Covers (flattened (take k P)))) None
fit_in_no_page n P v k some e w f = let (j, lt, a) = covers_taken P k w (first_of n w _ some f).0 in omega (arith, lt, e)

module _ (n : ℕ) (P : List (List (ℤ × ℤ))) (N : List (ℤ × ℤ)) (v : ℤ) (k : ℕ) (some : 0 < n) (m : IsMaximal (flattened P)) (e : flattened P ≡ N) (s : StartsUpTo P v k) where
  abbrev T : List (ℤ × ℤ)
  T = flattened (take k P)

  abbrev D : List (ℤ × ℤ)
  D = flattened (drop k P)

  parts : T ++ D ≡ N
  parts = sym (cut_at P k) ∙ e

  open_parts : IsMaximal (T ++ D)
  open_parts = subst IsMaximal (cut_at P k) m

  above : (z : ℤ) → Covers D z → v ≤ℤ z
  above z c = let (j, le, a) = covers_dropped P k z c in let far = s.above j z le a in omega (arith, ints, far)

  in_part : (w : ℤ) → FitsAt n (AtLeast v (Covers N)) w → FitsAt n (AtLeast v (Covers T)) w ⊎ FitsAt n (Covers D) w
  in_part w f = ⊎_elim (λ a. inl (λ z b. (a z b, (f z b).1))) (λ b. inr b)
      (fits_in_part n T D w some open_parts (λ z b. subst (λ (K : List (ℤ × ℤ)). Covers K z) (sym parts) (f z b).0))

  pub fit_from_below : (run : ℤ × ℤ) → IsFirstFit n (AtLeast v (Covers (flattened (take k P)))) run → IsFirstFit n (AtLeast v (Covers N)) run
  fit_from_below run r = record {
    count = r.count;
    members = λ z b. let a = r.members z b in (subst (λ (K : List (ℤ × ℤ)). Covers K z) parts (covers-append_left T D z a.0), a.1);
    lowest = λ w f. ⊎_elim (λ a. r.lowest w a)
        (λ b. let c = r.count in
        let here = r.members run.0 (omega (arith, ints), omega (arith, ints, c, some)) in
        let far = parts_apart T D run.0 w open_parts here.0 (first_of n w (Covers D) some b) in omega (arith, ints, far))
        (in_part w f);
  }

  pub fit_from_above : (o : Option (ℤ × ℤ)) → IsFitOf n (AtLeast v (Covers (flattened (take k P)))) None → IsFitOf n (Covers (flattened (drop k P))) o → IsFitOf n (AtLeast v (Covers N)) o
  fit_from_above o none r = fit_of_same n (Covers D) (AtLeast v (Covers N)) o
      (λ w f. ⊎_elim (λ a. absurd (none w a)) (λ b. b) (in_part w f))
      (λ z c. (subst (λ (K : List (ℤ × ℤ)). Covers K z) parts (covers-append_right T D z c), above z c)) r

-- the pages from place k on, as a slice of them
pub rest_of_pages : (P Q : List (List (ℤ × ℤ))) (k : ℕ) → Q ≡ P → flattened (take (length Q - k) (drop k Q)) ≡ flattened (drop k P)
rest_of_pages P Q k e = ap flattened (take_all (length Q - k) (drop k Q) (omega (arith, length-drop k Q)) ∙ ap (λ (R : List (List (ℤ × ℤ))). drop k R) e)

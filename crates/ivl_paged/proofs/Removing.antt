-- Numbers removed from one page, or from the first and the last of several, and pages that are joined.
use Rattle.std.proofs.Common.{◌≡◌, ⊎_elim, inl, inr, ℕ, zero, suc, ◌+◌, ◌-◌, ◌<◌, ◌≤◌, ℤ, pos, ◌+ℤ◌, ◌-ℤ◌, ◌≤ℤ◌, List, [], ◌∷◌, ◌++◌, length, get_or, take, drop, set, refl, sym, ap, ap₂, subst, ◌∙◌, arith, append_assoc, append-nil}
use Rattle.std.specs.Prelude.{Result, Ok, Err, OnOk}
use Rattle.std.proofs.lemmas.Int.{ints}
use Rattle.std.proofs.lemmas.List.{drop_at, length-take-le}
use Rattle.ivl_laws.specs.Families.{set_at}
use Rattle.ivl_laws.specs.Sets.{IsBetween, IsSubset, Only, SameMembers, Union, Without}
use Rattle.ivl_laws.specs.Runs.{Covers, IsMaximal, IsRunsOf}
use Rattle.ivl_laws.proofs.Merging.{covers-append, covers-append_left, covers-append_right}
use Rattle.ivl_laws.proofs.Runs.{runs_are_unique}
use Rattle.ivl_places.specs.Edits.{widened}
use Rattle.ivl_walks.proofs.MergeState.{IsMaximal-append}
use Rattle.ivl_places.specs.Neighbours.{IsLeast}
use Rattle.ivl_paged.specs.Pages.{IsPageCut, IsPageSpan, flattened}
use Rattle.ivl_paged.proofs.Longest.{without_same}
use Rattle.ivl_paged.proofs.Heads.{span_of_least}
use Rattle.ivl_paged.proofs.Paging.{IsMaximal-dropped, IsMaximal-first, covers_page, cut_at, flattened-append, pages_ascend, removed, removed_from_one}

-- ---- one page

pub set_is : (P : List (List (ℤ × ℤ))) (i : ℕ) (M : List (ℤ × ℤ)) → i < length P → set P i M ≡ take i P ++ (M ∷ drop (i + 1) P)
set_is [] i M h = absurd (omega arith)
set_is (L ∷ P) zero M h = refl
set_is (L ∷ P) (suc i) M h =
    let e : suc i + 1 ≡ suc (i + 1) = omega arith in
    ap (λ (N : List (List (ℤ × ℤ))). L ∷ N) (set_is P i M (omega arith)) ∙ ap (λ (n : ℕ). take (suc i) (L ∷ P) ++ (M ∷ drop n (L ∷ P))) (sym e)

-- the page lies within the interval
pub cut_whole : (P : List (List (ℤ × ℤ))) (p : ℤ × ℤ) (i : ℕ) → IsSubset (set_at P i) (IsBetween p) → IsPageCut P p i (take i P ++ drop (i + 1) P)
cut_whole P p i within = record {
  left = [];
  pages = refl;
  members = record { maximal = tt; members = λ z. ((λ c. absurd c), (λ (a, n). absurd (n (within z a)))) };
}

pub cut_some : (P : List (List (ℤ × ℤ))) (M : List (ℤ × ℤ)) (p : ℤ × ℤ) (i : ℕ) → i < length P → IsRunsOf M (Without (set_at P i) (IsBetween p)) → IsPageCut P p i (set P i M)
cut_some P M p i h made = record {
  left = M ∷ [];
  pages = set_is P i M h;
  members = subst (λ (L : List (ℤ × ℤ)). IsRunsOf L (Without (set_at P i) (IsBetween p))) (sym (append-nil M)) made;
}

flattened_cut : (P Q : List (List (ℤ × ℤ))) (p : ℤ × ℤ) (i : ℕ) (c : IsPageCut P p i Q) → flattened Q ≡ flattened (take i P) ++ (flattened c.left ++ flattened (drop (i + 1) P))
flattened_cut P Q p i c =
    ap flattened c.pages ∙ flattened-append (take i P) (c.left ++ drop (i + 1) P)
    ∙ ap (λ (L : List (ℤ × ℤ)). flattened (take i P) ++ L) (flattened-append c.left (drop (i + 1) P))

pub removed_once : (P Q : List (List (ℤ × ℤ))) (p : ℤ × ℤ) (i j : ℕ) → IsMaximal (flattened P) → IsPageSpan P p.0 p.1 i j → j - i ≡ 1 → IsPageCut P p i Q →
    IsRunsOf (flattened Q) (Without (Covers (flattened P)) (IsBetween p))
removed_once P Q p i j m s one c =
    let o = s.in_order in
    let last : j ≡ i + 1 = omega (arith, o, one) in
    subst (λ (L : List (ℤ × ℤ)). IsRunsOf L (Without (Covers (flattened P)) (IsBetween p))) (sym (flattened_cut P Q p i c))
    (removed_from_one P (flattened c.left) p i m (subst (λ (k : ℕ). IsPageSpan P p.0 p.1 i k) last s) c.members)

-- ---- the first and the last of several

pub take_within : (P X : List (List (ℤ × ℤ))) (a b : ℕ) → a ≤ b → b ≤ length P → take a (take b P ++ X) ≡ take a P
take_within P X zero b h k = refl
take_within [] X (suc a) b h k = absurd (omega arith)
take_within (L ∷ P) X (suc a) zero h k = absurd (omega arith)
take_within (L ∷ P) X (suc a) (suc b) h k = ap (λ (N : List (List (ℤ × ℤ))). L ∷ N) (take_within P X a b (omega arith) (omega arith))

index_within : (P X : List (List (ℤ × ℤ))) (i b : ℕ) → i < b → b ≤ length P → get_or (take b P ++ X) i [] ≡ get_or P i []
index_within [] X i b h k = absurd (omega arith)
index_within (L ∷ P) X i zero h k = absurd (omega arith)
index_within (L ∷ P) X zero (suc b) h k = refl
index_within (L ∷ P) X (suc i) (suc b) h k = index_within P X i b (omega arith) (omega arith)

pub drop_past : (P X : List (List (ℤ × ℤ))) (b : ℕ) → b ≤ length P → drop b (take b P ++ X) ≡ X
drop_past P X b h = drop_at (take b P) X b (length-take-le b P h)

-- of several pages the last one: a removal there cannot fail, since the interval does not lie inside a run
pub last_is_cut : (P : List (List (ℤ × ℤ))) (p : ℤ × ℤ) (i j : ℕ) → IsPageSpan P p.0 p.1 i j → ¬ (j - i ≡ 1) → p.0 ≤ℤ p.1 → ¬ (IsSubset (IsBetween (widened p)) (set_at P (j - 1)))
last_is_cut P p i j s several filled h =
    let o = s.in_order in
    let far = s.from (j - 1) p.0 (omega (arith, o, several)) (h p.0 (omega (arith, ints), omega (arith, ints, filled))) in
    omega (arith, ints, far)

-- Q is P without the numbers in page j - 1, R without the pages between, and T without the numbers in page i
module _ (P Q R T : List (List (ℤ × ℤ))) (p : ℤ × ℤ) (i j : ℕ) (m : IsMaximal (flattened P)) (s : IsPageSpan P p.0 p.1 i j) (several : ¬ (j - i ≡ 1))
    (high : IsPageCut P p (j - 1) Q) (between : R ≡ take (i + 1) Q ++ drop (j - 1) Q) where
  less : i + 1 ≤ j - 1
  less = let o = s.in_order in omega (arith, o, several)

  at_most : j - 1 ≤ length P
  at_most = let h = s.at_most in omega (arith, h)

  pub middle_fits : j - 1 ≤ length Q
  middle_fits = let n = length_cut in omega (arith, n)
    where
      length_cut : j - 1 ≤ length Q
      length_cut = subst (λ (N : List (List (ℤ × ℤ))). j - 1 ≤ length N) (sym high.pages) (longer (take (j - 1) P) (high.left ++ drop (j - 1 + 1) P) (j - 1) (length-take-le (j - 1) P at_most))
        where
          longer : (A B : List (List (ℤ × ℤ))) (n : ℕ) → length A ≡ n → n ≤ length (A ++ B)
          longer [] B n e = omega (arith, e)
          longer (L ∷ A) B zero e = omega arith
          longer (L ∷ A) B (suc n) e = let k = longer A B n (omega (arith, e)) in omega (arith, k)

  pub rest_is : R ≡ take (i + 1) P ++ (high.left ++ drop j P)
  rest_is =
      let X : List (List (ℤ × ℤ)) = high.left ++ drop (j - 1 + 1) P in
      let l = less in
      let last : j - 1 + 1 ≡ j = omega (arith, l) in
      between
      ∙ ap (λ (N : List (List (ℤ × ℤ))). take (i + 1) N ++ drop (j - 1) N) high.pages
      ∙ ap₂ (λ (A B : List (List (ℤ × ℤ))). A ++ B) (take_within P X (i + 1) (j - 1) less at_most) (drop_past P X (j - 1) at_most)
      ∙ ap (λ (n : ℕ). take (i + 1) P ++ (high.left ++ drop n P)) last

  pub fits : i + 1 ≤ length P
  fits = let h = at_most in let l = less in omega (arith, h, l)

  pub first_there : i < length R
  first_there = subst (λ (N : List (List (ℤ × ℤ))). i < length N) (sym rest_is) (longer P i (high.left ++ drop j P) fits)
    where
      longer : (A : List (List (ℤ × ℤ))) (k : ℕ) (B : List (List (ℤ × ℤ))) → k + 1 ≤ length A → k < length (take (k + 1) A ++ B)
      longer [] k B h = absurd (omega arith)
      longer (L ∷ A) zero B h = omega arith
      longer (L ∷ A) (suc k) B h =
          let e : suc k + 1 ≡ suc (k + 1) = omega arith in
          let n = longer A k B (omega arith) in
          subst (λ (n : ℕ). suc k < length (take n (L ∷ A) ++ B)) (sym e) (omega (arith, n))

  pub first_is : get_or R i [] ≡ get_or P i []
  first_is = ap (λ (N : List (List (ℤ × ℤ))). get_or N i []) rest_is ∙ index_within P (high.left ++ drop j P) i (i + 1) (omega arith) fits

  -- neither can a removal from the first
  pub first_is_cut : p.0 ≤ℤ p.1 → ¬ (IsSubset (IsBetween (widened p)) (set_at R i))
  first_is_cut filled h =
      let l = less in
      let here : set_at P i p.1 = subst (λ (L : List (ℤ × ℤ)). Covers L p.1) first_is (h p.1 (omega (arith, ints, filled), omega (arith, ints))) in
      let far = s.to i p.1 (omega (arith, l)) here in
      omega (arith, ints, far)

  module _ (low : IsPageCut R p i T) where
    pages_are : T ≡ take i P ++ (low.left ++ (high.left ++ drop j P))
    pages_are =
        low.pages
        ∙ ap (λ (N : List (List (ℤ × ℤ))). take i N ++ (low.left ++ drop (i + 1) N)) rest_is
        ∙ ap₂ (λ (A B : List (List (ℤ × ℤ))). A ++ (low.left ++ B)) (take_within P (high.left ++ drop j P) i (i + 1) (omega arith) fits) (drop_past P (high.left ++ drop j P) (i + 1) fits)

    runs_are : flattened T ≡ flattened (take i P) ++ ((flattened low.left ++ flattened high.left) ++ flattened (drop j P))
    runs_are =
        ap flattened pages_are
        ∙ flattened-append (take i P) (low.left ++ (high.left ++ drop j P))
        ∙ ap (λ (L : List (ℤ × ℤ)). flattened (take i P) ++ L)
        (flattened-append low.left (high.left ++ drop j P)
        ∙ ap (λ (L : List (ℤ × ℤ)). flattened low.left ++ L) (flattened-append high.left (drop j P))
        ∙ sym (append_assoc (flattened low.left) (flattened high.left) (flattened (drop j P))))

    low_members : SameMembers (Covers (flattened low.left)) (Without (set_at P i) (IsBetween p))
    low_members z = subst (λ (L : List (ℤ × ℤ)). (Covers (flattened low.left) z → Without (Covers L) (IsBetween p) z) × (Without (Covers L) (IsBetween p) z → Covers (flattened low.left) z)) first_is (low.members.members z)

    both : IsRunsOf (flattened low.left ++ flattened high.left) (Without (Union (set_at P i) (set_at P (j - 1))) (IsBetween p))
    both = record {
      maximal = IsMaximal-append (flattened low.left) (flattened high.left) low.members.maximal high.members.maximal
          (λ x y c d. let l = less in pages_ascend P i (j - 1) x y m (omega (arith, l)) ((low_members x).0 c).0 ((high.members.members y).0 d).0);
      members = λ z. (
        (λ c. ⊎_elim
            (λ a. let w = (low_members z).0 a in (inl w.0, w.1))
            (λ b. let w = (high.members.members z).0 b in (inr w.0, w.1))
            (covers-append (flattened low.left) (flattened high.left) z c)),
        (λ (u, n). ⊎_elim
            (λ a. covers-append_left (flattened low.left) (flattened high.left) z ((low_members z).1 (a, n)))
            (λ b. covers-append_right (flattened low.left) (flattened high.left) z ((high.members.members z).1 (b, n)))
            u),
      );
    }

    pub removed_twice : IsRunsOf (flattened T) (Without (Covers (flattened P)) (IsBetween p))
    removed_twice = subst (λ (L : List (ℤ × ℤ)). IsRunsOf L (Without (Covers (flattened P)) (IsBetween p))) (sym runs_are) (removed P (flattened low.left ++ flattened high.left) p i j m s both)

-- an interval that does not lie inside a run of all does not lie inside one of a page
pub page_is_cut : (P : List (List (ℤ × ℤ))) (p : ℤ × ℤ) (i : ℕ) → ¬ (IsSubset (IsBetween (widened p)) (Covers (flattened P))) → ¬ (IsSubset (IsBetween (widened p)) (set_at P i))
page_is_cut P p i n h = n (λ z b. covers_page P i z (h z b))

-- ---- two pages in one

two_pages : (P : List (List (ℤ × ℤ))) (i : ℕ) → i + 1 < length P → flattened (drop i P) ≡ (get_or P i [] ++ get_or P (i + 1) []) ++ flattened (drop (i + 2) P)
two_pages [] i h = absurd (omega arith)
two_pages (L ∷ []) i h = absurd (omega arith)
two_pages (L ∷ M ∷ P) zero h = sym (append_assoc L M (flattened P))
two_pages (L ∷ M ∷ P) (suc i) h =
    let e : suc i + 1 ≡ suc (i + 1) = omega arith in
    let f : suc i + 2 ≡ suc (i + 2) = omega arith in
    two_pages (M ∷ P) i (omega arith)
    ∙ ap (λ (n : ℕ). (get_or (M ∷ P) i [] ++ get_or (L ∷ M ∷ P) n []) ++ flattened (drop (i + 2) (M ∷ P))) (sym e)
    ∙ ap (λ (n : ℕ). (get_or (M ∷ P) i [] ++ get_or (L ∷ M ∷ P) (suc i + 1) []) ++ flattened (drop n (L ∷ M ∷ P))) (sym f)

-- A and B are the pages at places i and i + 1, and J their union
pub joined_pages : (P : List (List (ℤ × ℤ))) (A B J : List (ℤ × ℤ)) (i : ℕ) → IsMaximal (flattened P) → i + 1 < length P → A ≡ get_or P i [] → B ≡ get_or P (i + 1) [] → IsRunsOf J (Union (Covers A) (Covers B)) →
    flattened (take i P) ++ (J ++ flattened (drop (i + 2) P)) ≡ flattened P
joined_pages P A B J i m h e f r =
    let both : flattened (drop i P) ≡ (A ++ B) ++ flattened (drop (i + 2) P) = two_pages P i h ∙ ap₂ (λ (K L : List (ℤ × ℤ)). (K ++ L) ++ flattened (drop (i + 2) P)) (sym e) (sym f) in
    let open_both : IsMaximal (A ++ B) = IsMaximal-first (A ++ B) (flattened (drop (i + 2) P)) (subst IsMaximal both (IsMaximal-dropped P i m)) in
    let same : J ≡ A ++ B = runs_are_unique J (A ++ B) r.maximal open_both (λ z. (
      (λ c. ⊎_elim (λ a. covers-append_left A B z a) (λ b. covers-append_right A B z b) ((r.members z).0 c)),
      (λ c. (r.members z).1 (covers-append A B z c)),
    )) in
    ap (λ (K : List (ℤ × ℤ)). flattened (take i P) ++ (K ++ flattened (drop (i + 2) P))) same
    ∙ ap (λ (K : List (ℤ × ℤ)). flattened (take i P) ++ K) (sym both)
    ∙ sym (cut_at P i)

-- ---- a member at an end, which lies inside no run

pub least_is_cut : (S : ℤ → Type 0) (v : ℤ) → ((z : ℤ) → S z → v ≤ℤ z) → ¬ (IsSubset (IsBetween (widened (v, v))) S)
least_is_cut S v least h = let low = least (v -ℤ pos 1) (h (v -ℤ pos 1) (omega (arith, ints), omega (arith, ints))) in omega (arith, ints, low)

pub greatest_is_cut : (S : ℤ → Type 0) (v : ℤ) → ((z : ℤ) → S z → z ≤ℤ v) → ¬ (IsSubset (IsBetween (widened (v, v))) S)
greatest_is_cut S v greatest h = let high = greatest (v +ℤ pos 1) (h (v +ℤ pos 1) (omega (arith, ints), omega (arith, ints))) in omega (arith, ints, high)

-- ---- a call that cannot fail

pub on_ok_holds : {A E : Type 0} (X : Type 0) (r : Result A E) (a : A) → r ≡ Ok a → OnOk r X → X
on_ok_holds X (Ok b) a e made = made
on_ok_holds X (Err b) a e made = absurd (cc)

-- an interval that has one number alone
alone : (v : ℤ) → SameMembers (IsBetween (v, v)) (Only v)
alone v z = (
  (λ b. let low = b.0 in let high = b.1 in omega (arith, ints, low, high)),
  (λ e. (omega (arith, ints, e), omega (arith, ints, e))),
)

-- a number removed, as the interval of it alone
pub removed_alone : (S : ℤ → Type 0) (L : List (ℤ × ℤ)) (v : ℤ) → IsRunsOf L (Without S (Only v)) → IsRunsOf L (Without S (IsBetween (v, v)))
removed_alone S L v r = record { maximal = r.maximal; members = without_same S (Covers L) (IsBetween (v, v)) (Only v) (alone v) r.members }

-- the least number removed from the first page
pub removed_least : (P Q : List (List (ℤ × ℤ))) (v : ℤ) → IsMaximal (flattened P) → 0 < length P → IsLeast v (set_at P 0) → IsPageCut P (v, v) 0 Q →
    IsRunsOf (flattened Q) (Without (Covers (flattened P)) (Only v))
removed_least P Q v m some l c =
    let one : 1 - 0 ≡ 1 = omega arith in
    let made = removed_once P Q (v, v) 0 1 m (span_of_least P v m some l) one c in
    record {
      maximal = made.maximal;
      members = without_same (Covers (flattened P)) (Covers (flattened Q)) (Only v) (IsBetween (v, v)) (λ z. let (in_alone, is) = alone v z in (is, in_alone)) made.members;
    }

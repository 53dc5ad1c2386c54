-- The runs of pages that meet a window, and what the pages have in it.
use Rattle.std.proofs.Common.{◌≡◌, ◌⊎◌, ⊎_elim, inl, inr, ℕ, zero, suc, ◌+◌, ◌-◌, ◌<◌, ◌≤◌, ℤ, List, [], ◌∷◌, ◌++◌, length, get_or, take, drop, take_all, refl, sym, ap, subst, ◌∙◌, arith, append-nil, append_assoc}
use Rattle.std.specs.Prelude.{All}
use Rattle.std.proofs.lemmas.Int.{ints, by_lt_z}
use Rattle.std.proofs.lemmas.List.{drop-drop}
use Rattle.std.proofs.lemmas.List.Elements.{All-append}
use Rattle.ivl_laws.specs.Bounds.{width_of}
use Rattle.ivl_laws.specs.Counts.{IsCountOf}
use Rattle.ivl_laws.specs.Families.{set_at}
use Rattle.ivl_laws.specs.Sets.{HasNone, HasSome, Intersection, IsBetween, IsSubset, SameMembers, Union, Without}
use Rattle.ivl_laws.specs.Runs.{Covers, IsMaximal, IsRunListIn, IsRunsOf}
use Rattle.ivl_laws.proofs.Counts.{IsCountOf-apart, IsCountOf-none, IsCountOf-same, count_is_monotone, in-append}
use Rattle.ivl_laws.proofs.Intervals.{IsCountOf-width_of}
use Rattle.ivl_laws.proofs.Merging.{covers-append, covers-append_left, covers-append_right}
use Rattle.ivl_laws.proofs.Places.{in_at}
use Rattle.ivl_laws.proofs.Products.{both_covered_by_one, one_covers, one_run_is_one_pair, open_in}
use Rattle.ivl_laws.proofs.Runs.{lower_end}
use Rattle.ivl_laws.proofs.SetLaws.{one_run_of_member}
use Rattle.ivl_walks.proofs.MergeState.{IsMaximal-append}
use Rattle.ivl_places.specs.Windows.{OfRunsThatMeet}
use Rattle.ivl_paged.specs.Pages.{IsPageSpan, flattened}
use Rattle.ivl_paged.specs.Parts.{ArePagesMet}
use Rattle.ivl_paged.proofs.Paging.{IsMaximal-dropped, IsMaximal-first, IsMaximal-second, IsMaximal-taken, covers_dropped, covers_page, covers_taken, cut_at, flattened-append, order_of, page_of, pages_ascend, parts_apart, taken_covers}

-- ---- the runs of two lists, of which one follows the other

of_one_run : (W S : ℤ → Type 0) (z : ℤ) → OfRunsThatMeet W S z → S z
of_one_run W S z (y, w, f) = f z (by_lt_z z y (λ h. inr (omega (arith, ints), omega (arith, ints))) (λ h. inl (h, omega (arith, ints))))

-- a number that stands in one run with a number of the window does so in its own list
met_in_one : {C : Type 0} (W : ℤ → Type 0) (L M : List (ℤ × ℤ)) (z : ℤ) → IsMaximal (L ++ M) → OfRunsThatMeet W (Covers (L ++ M)) z → (OfRunsThatMeet W (Covers L) z → C) → (OfRunsThatMeet W (Covers M) z → C) → C
met_in_one W L M z m (y, w, f) left right =
    let (p, i, a, b) = both_covered_by_one (L ++ M) y z (one_run_is_one_pair (L ++ M) y z m f) in
    let between : (x : ℤ) → IsBetween (y, z) x ⊎ IsBetween (z, y) x → IsBetween p x = λ x.
    ⊎_elim (λ t. (omega (arith, ints, a.0, t.0), omega (arith, ints, b.1, t.1))) (λ t. (omega (arith, ints, b.0, t.0), omega (arith, ints, a.1, t.1))) in
    ⊎_elim
    (λ j. left (y, w, λ x t. one_covers L p x j (between x t)))
    (λ j. right (y, w, λ x t. one_covers M p x j (between x t)))
    (in-append L M p i)

pub met_parts : (W : ℤ → Type 0) (L M F G : List (ℤ × ℤ)) → IsMaximal (L ++ M) → IsRunsOf F (OfRunsThatMeet W (Covers L)) → IsRunsOf G (OfRunsThatMeet W (Covers M)) → IsRunsOf (F ++ G) (OfRunsThatMeet W (Covers (L ++ M)))
met_parts W L M F G m f g = record {
  maximal = IsMaximal-append F G f.maximal g.maximal (λ x y c d. parts_apart L M x y m (of_one_run W (Covers L) x ((f.members x).0 c)) (of_one_run W (Covers M) y ((g.members y).0 d)));
  members = λ z. (
    (λ c. ⊎_elim
        (λ a. let (y, w, h) = (f.members z).0 a in (y, w, λ x t. covers-append_left L M x (h x t)))
        (λ a. let (y, w, h) = (g.members z).0 a in (y, w, λ x t. covers-append_right L M x (h x t)))
        (covers-append F G z c)),
    (λ h. met_in_one W L M z m h (λ a. covers-append_left F G z ((f.members z).1 a)) (λ a. covers-append_right F G z ((g.members z).1 a))),
  );
}

-- all runs of a list that lies in the window meet it
pub all_met : (W : ℤ → Type 0) (L : List (ℤ × ℤ)) → IsMaximal L → IsSubset (Covers L) W → IsRunsOf L (OfRunsThatMeet W (Covers L))
all_met W L m h = record {
  maximal = m;
  members = λ z. ((λ c. (z, h z c, one_run_of_member (Covers L) z c)), (λ t. of_one_run W (Covers L) z t));
}

pub each_of_all_met : (W : ℤ → Type 0) (L : List (ℤ × ℤ)) → IsMaximal L → IsSubset (Covers L) W → All (λ run. HasSome (Intersection (IsBetween run) W)) L
each_of_all_met W L m h k d less =
    let p = get_or L k d in
    let i = in_at L k d less in
    let low = lower_end p (open_in L p m i) in
    (p.0, (low, h p.0 (one_covers L p p.0 i low)))

pub none_of_none : (W : ℤ → Type 0) → IsRunsOf [] (OfRunsThatMeet W (Covers []))
none_of_none W = record { maximal = tt; members = λ z. ((λ c. absurd c), (λ t. of_one_run W (Covers []) z t)) }

pub runs_in_whole : (whole : ℤ × ℤ) (P : List (List (ℤ × ℤ))) (R N : List (ℤ × ℤ)) (p : ℤ × ℤ) → IsRunListIn whole (flattened P) → flattened P ≡ N → IsRunsOf R (OfRunsThatMeet (IsBetween p) (Covers N)) → IsRunListIn whole R
runs_in_whole whole P R N p r e s = record {
  maximal = s.maximal;
  within = λ z c. r.within z (subst (λ (K : List (ℤ × ℤ)). Covers K z) (sym e) (of_one_run (IsBetween p) (Covers N) z ((s.members z).0 c)));
}

-- what a window has beside the runs that meet it is what it has beside all
pub gaps_seen : (W S : ℤ → Type 0) (all met : List (ℤ × ℤ)) → IsRunsOf all W → IsRunsOf met (OfRunsThatMeet W S) → SameMembers (Without (Covers all) (Covers met)) (Without W S)
gaps_seen W S all met a m z = (
  (λ (c, n). let w = (a.members z).0 c in (w, λ s. n ((m.members z).1 (z, w, one_run_of_member S z s)))),
  (λ (w, n). ((a.members z).1 w, λ c. n (of_one_run W S z ((m.members z).0 c)))),
)

-- ---- the pages that meet a window

pub met_span : (P Q : List (List (ℤ × ℤ))) (p : ℤ × ℤ) (u v : ℤ) (i j : ℕ) → IsPageSpan P u v i j → u ≡ p.0 → v ≡ p.1 → Q ≡ take (j - i) (drop i P) → ArePagesMet P p Q
met_span P Q p u v i j s e f q = record {
  start = i;
  end = j;
  pages = q;
  outside = λ k z. ⊎_elim
      (λ less c b. let far = s.below k z less c in omega (arith, ints, far, b.0, e))
      (λ more c b. let far = s.above k z more c in omega (arith, ints, far, b.1, f));
  inside = λ k less more z c. let low = s.from k z less c in let high = s.to k z more c in (omega (arith, ints, low, e), omega (arith, ints, high, f));
}

pub met_none : (P Q : List (List (ℤ × ℤ))) (p : ℤ × ℤ) → (length P ≡ 0) ⊎ HasNone (IsBetween p) → Q ≡ [] → ArePagesMet P p Q
met_none P Q p none e = record {
  start = 0;
  end = 0;
  pages = e;
  outside = λ k z _ c b. ⊎_elim (λ h. let (j, less, d) = page_of P z (covers_page P k z c) in omega (arith, less, h)) (λ h. h z b) none;
  inside = λ k less more. absurd (omega (arith, less, more));
}

start_between : (y z : ℤ) → IsBetween (y, z) y ⊎ IsBetween (z, y) y
start_between y z = by_lt_z z y (λ h. inr (omega (arith, ints), omega (arith, ints))) (λ h. inl (omega (arith, ints), h))

taken_at : (R : List (List (ℤ × ℤ))) (n k : ℕ) (z : ℤ) → set_at (take n R) k z → set_at R k z
taken_at R zero k z c = absurd c
taken_at [] (suc n) k z c = c
taken_at (L ∷ R) (suc n) zero z c = c
taken_at (L ∷ R) (suc n) (suc k) z c = taken_at R n k z c

taken_length : (R : List (List (ℤ × ℤ))) (n : ℕ) → length (take n R) ≤ n
taken_length R zero = omega arith
taken_length [] (suc n) = omega arith
taken_length (L ∷ R) (suc n) = let k = taken_length R n in omega (arith, k)

dropped_at : (P : List (List (ℤ × ℤ))) (i k : ℕ) (z : ℤ) → set_at (drop i P) k z → set_at P (i + k) z
dropped_at P zero k z c = let e : k ≡ 0 + k = omega arith in subst (λ (j : ℕ). set_at P j z) e c
dropped_at [] (suc i) k z c = absurd c
dropped_at (L ∷ P) (suc i) k z c = let e : suc (i + k) ≡ suc i + k = omega arith in subst (λ (j : ℕ). set_at (L ∷ P) j z) e (dropped_at P i k z c)

-- Q are those pages
module _ (P Q : List (List (ℤ × ℤ))) (p : ℤ × ℤ) (m : IsMaximal (flattened P)) (s : ArePagesMet P p Q) where
  met_is_maximal_list : IsMaximal (flattened (take (s.end - s.start) (drop s.start P)))
  met_is_maximal_list = IsMaximal-taken (drop s.start P) (s.end - s.start) (IsMaximal-dropped P s.start m)

  pub met_is_maximal : IsMaximal (flattened Q)
  met_is_maximal = subst (λ (R : List (List (ℤ × ℤ))). IsMaximal (flattened R)) (sym s.pages) met_is_maximal_list

  in_met : (z : ℤ) → Covers (flattened Q) z → Covers (flattened P) z
  in_met z c =
      let (k, less, d) = covers_taken (drop s.start P) (s.end - s.start) z (subst (λ (R : List (List (ℤ × ℤ))). Covers (flattened R) z) s.pages c) in
      let (j, le, e) = covers_dropped P s.start z (covers_page (drop s.start P) k z d) in
      covers_page P j z e

  pub met_within : (whole : ℤ × ℤ) → IsRunListIn whole (flattened P) → IsRunListIn whole (flattened Q)
  met_within whole r = record { maximal = met_is_maximal; within = λ z c. r.within z (in_met z c) }

  below_met : (z : ℤ) → Covers (flattened (take s.start P)) z → ¬ (IsBetween p z)
  below_met z c = let (k, less, d) = covers_taken P s.start z c in s.outside k z (inl less) d

  above_met : (z : ℤ) → Covers (flattened (drop (s.end - s.start) (drop s.start P))) z → ¬ (IsBetween p z)
  above_met z c =
      let (k, le, d) = covers_dropped (drop s.start P) (s.end - s.start) z c in
      let (j, more, e) = covers_dropped P (s.start + (s.end - s.start)) z (subst (λ (R : List (List (ℤ × ℤ))). Covers (flattened R) z) (drop-drop (s.end - s.start) s.start P) c) in
      s.outside j z (inr (omega (arith, more))) e

  of_pages : flattened (take (s.end - s.start) (drop s.start P)) ≡ flattened Q
  of_pages = ap flattened (sym s.pages)

  pub met_has_all : SameMembers (Intersection (Covers (flattened Q)) (IsBetween p)) (Intersection (Covers (flattened P)) (IsBetween p))
  met_has_all z = (
    (λ (c, b). (in_met z c, b)),
    (λ (c, b). (
      ⊎_elim
          (λ a. absurd (below_met z a b))
          (λ a. ⊎_elim
          (λ d. subst (λ (K : List (ℤ × ℤ)). Covers K z) of_pages d)
          (λ d. absurd (above_met z d b))
          (covers-append (flattened (take (s.end - s.start) (drop s.start P))) (flattened (drop (s.end - s.start) (drop s.start P))) z (subst (λ (K : List (ℤ × ℤ)). Covers K z) (cut_at (drop s.start P) (s.end - s.start)) a)))
          (covers-append (flattened (take s.start P)) (flattened (drop s.start P)) z (subst (λ (K : List (ℤ × ℤ)). Covers K z) (cut_at P s.start) c)),
      b,
    )),
  )

  pub same_runs_met : SameMembers (OfRunsThatMeet (IsBetween p) (Covers (flattened Q))) (OfRunsThatMeet (IsBetween p) (Covers (flattened P)))
  same_runs_met z = (
    (λ (y, w, f). (y, w, λ x t. in_met x (f x t))),
    (λ h. met_in_one (IsBetween p) (flattened (take s.start P)) (flattened (drop s.start P)) z (subst IsMaximal (cut_at P s.start) m)
        (subst (λ (K : List (ℤ × ℤ)). OfRunsThatMeet (IsBetween p) (Covers K) z) (cut_at P s.start) h)
        (λ (y, w, f). absurd (below_met y (f y (start_between y z)) w))
        (λ k. met_in_one (IsBetween p) (flattened (take (s.end - s.start) (drop s.start P))) (flattened (drop (s.end - s.start) (drop s.start P))) z
        (subst IsMaximal (cut_at (drop s.start P) (s.end - s.start)) (IsMaximal-dropped P s.start m))
        (subst (λ (K : List (ℤ × ℤ)). OfRunsThatMeet (IsBetween p) (Covers K) z) (cut_at (drop s.start P) (s.end - s.start)) k)
        (λ g. subst (λ (K : List (ℤ × ℤ)). OfRunsThatMeet (IsBetween p) (Covers K) z) of_pages g)
        (λ (y, w, f). absurd (above_met y (f y (start_between y z)) w)))),
  )

  pub inside_of_met : (k : ℕ) → 0 < k → k + 1 < length Q → IsSubset (set_at Q k) (IsBetween p)
  inside_of_met k some less z c =
      let here = taken_at (drop s.start P) (s.end - s.start) k z (subst (λ (R : List (List (ℤ × ℤ))). set_at R k z) s.pages c) in
      let few = taken_length (drop s.start P) (s.end - s.start) in
      let count = ap length s.pages in
      s.inside (s.start + k) (omega (arith, some)) (omega (arith, less, few, count)) z (dropped_at P s.start k z here)

-- ---- the runs of those pages

appended_at : (B C : List (List (ℤ × ℤ))) (k : ℕ) (z : ℤ) → set_at B k z → set_at (B ++ C) k z
appended_at [] C k z c = absurd c
appended_at (L ∷ B) C zero z c = c
appended_at (L ∷ B) C (suc k) z c = appended_at B C k z c

appended_length : (B : List (List (ℤ × ℤ))) (Z : List (ℤ × ℤ)) → length (B ++ Z ∷ []) ≡ length B + 1
appended_length [] Z = refl
appended_length (L ∷ B) Z = let k = appended_length B Z in omega (arith, k)

-- F and G are what the first page and the last have, and of the pages B between them all is met
module _ (p : ℤ × ℤ) (Q B R : List (List (ℤ × ℤ))) (L Z F G : List (ℤ × ℤ)) (m : IsMaximal (flattened Q)) (e : Q ≡ L ∷ R) (inside : (k : ℕ) → 0 < k → k + 1 < length Q → IsSubset (set_at Q k) (IsBetween p))
    (f : IsRunsOf F (OfRunsThatMeet (IsBetween p) (Covers L))) (a : All (λ run. HasSome (Intersection (IsBetween run) (IsBetween p))) F) where
  first_is_maximal : IsMaximal (L ++ flattened R)
  first_is_maximal = subst (λ (K : List (List (ℤ × ℤ))). IsMaximal (flattened K)) e m

  pub one_met : R ≡ [] → IsRunsOf (F ++ []) (OfRunsThatMeet (IsBetween p) (Covers (flattened Q)))
  one_met none = subst (λ (K : List (List (ℤ × ℤ))). IsRunsOf (F ++ []) (OfRunsThatMeet (IsBetween p) (Covers (flattened K)))) (sym (e ∙ ap (λ (K : List (List (ℤ × ℤ))). L ∷ K) none))
      (met_parts (IsBetween p) L [] F [] (subst (λ (K : List (List (ℤ × ℤ))). IsMaximal (L ++ flattened K)) none first_is_maximal) f (none_of_none (IsBetween p)))

  module _ (g : IsRunsOf G (OfRunsThatMeet (IsBetween p) (Covers Z))) (b : All (λ run. HasSome (Intersection (IsBetween run) (IsBetween p))) G) (h : R ≡ B ++ Z ∷ []) where
    rest_is : flattened R ≡ flattened B ++ (Z ++ [])
    rest_is = ap flattened h ∙ flattened-append B (Z ∷ [])

    between_in : IsSubset (Covers (flattened B)) (IsBetween p)
    between_in z c =
        let (k, less, d) = page_of B z c in
        let count = ap length (e ∙ ap (λ (K : List (List (ℤ × ℤ))). L ∷ K) h) in
        let more = appended_length B Z in
        inside (k + 1) (omega arith) (omega (arith, less, count, more)) z (subst (λ (K : List (List (ℤ × ℤ))). set_at K (k + 1) z) (sym (e ∙ ap (λ (K : List (List (ℤ × ℤ))). L ∷ K) h)) (next_at k z d))
      where
        next_at : (k : ℕ) (z : ℤ) → set_at B k z → set_at (L ∷ (B ++ Z ∷ [])) (k + 1) z
        next_at k z d = let n : suc k ≡ k + 1 = omega arith in subst (λ (j : ℕ). set_at (L ∷ (B ++ Z ∷ [])) j z) n (appended_at B (Z ∷ []) k z d)

    whole_is_maximal : IsMaximal (L ++ (flattened B ++ (Z ++ [])))
    whole_is_maximal = subst (λ (K : List (ℤ × ℤ)). IsMaximal (L ++ K)) rest_is first_is_maximal

    between_is_maximal : IsMaximal (flattened B)
    between_is_maximal = IsMaximal-first (flattened B) (Z ++ []) (IsMaximal-second L (flattened B ++ (Z ++ [])) whole_is_maximal)

    last_is_maximal : IsMaximal (Z ++ [])
    last_is_maximal = IsMaximal-second (flattened B) (Z ++ []) (IsMaximal-second L (flattened B ++ (Z ++ [])) whole_is_maximal)

    last_met : IsRunsOf G (OfRunsThatMeet (IsBetween p) (Covers (Z ++ [])))
    last_met = subst (λ (K : List (ℤ × ℤ)). IsRunsOf G (OfRunsThatMeet (IsBetween p) (Covers K))) (sym (append-nil Z)) g

    behind : IsRunsOf (F ++ (flattened B ++ G)) (OfRunsThatMeet (IsBetween p) (Covers (flattened Q)))
    behind = subst (λ (K : List (ℤ × ℤ)). IsRunsOf (F ++ (flattened B ++ G)) (OfRunsThatMeet (IsBetween p) (Covers K)))
        (sym (ap flattened e ∙ ap (λ (K : List (ℤ × ℤ)). L ++ K) rest_is))
        (met_parts (IsBetween p) L (flattened B ++ (Z ++ [])) F (flattened B ++ G) whole_is_maximal f
        (met_parts (IsBetween p) (flattened B) (Z ++ []) (flattened B) G (IsMaximal-second L (flattened B ++ (Z ++ [])) whole_is_maximal)
        (all_met (IsBetween p) (flattened B) between_is_maximal between_in) last_met))

    pub more_met : IsRunsOf ((F ++ flattened B) ++ G) (OfRunsThatMeet (IsBetween p) (Covers (flattened Q)))
    more_met = subst (λ (K : List (ℤ × ℤ)). IsRunsOf K (OfRunsThatMeet (IsBetween p) (Covers (flattened Q)))) (sym (append_assoc F (flattened B) G)) behind

    pub each_met : All (λ run. HasSome (Intersection (IsBetween run) (IsBetween p))) ((F ++ flattened B) ++ G)
    each_met = All-append (λ run. HasSome (Intersection (IsBetween run) (IsBetween p))) (F ++ flattened B) G
        (All-append (λ run. HasSome (Intersection (IsBetween run) (IsBetween p))) F (flattened B) a (each_of_all_met (IsBetween p) (flattened B) between_is_maximal between_in)) b

-- no page is behind the first
pub none_behind : (P : ℤ × ℤ → Type 0) (R : List (List (ℤ × ℤ))) (F : List (ℤ × ℤ)) → length R ≡ 0 → All P F → All P ((F ++ flattened R) ++ [])
none_behind P [] F h a = subst (All P) (sym (append-nil (F ++ []) ∙ append-nil F)) a
none_behind P (L ∷ R) F h a = absurd (omega (arith, h))

-- ---- how many members the pages have in the window

pub parts_of_none : (P : List (List (ℤ × ℤ))) (T : ℤ → Type 0) (n : ℕ) → n ≡ 0 → IsCountOf n (Intersection (Covers (flattened (take 0 P))) T)
parts_of_none P T n e = subst (λ (k : ℕ). IsCountOf k (Intersection (Covers (flattened (take 0 P))) T)) (sym e)
    (IsCountOf-none (Intersection (Covers (flattened (take 0 P))) T) (λ z (c, t). let (k, lt, a) = covers_taken P 0 z c in omega (arith, lt)))

pub parts_of_next : (P : List (List (ℤ × ℤ))) (T : ℤ → Type 0) (i : ℕ) (L : List (ℤ × ℤ)) (k n : ℕ) → IsMaximal (flattened P) → i < length P → L ≡ get_or P i [] →
    IsCountOf k (Intersection (Covers (flattened (take i P))) T) → IsCountOf n (Intersection (Covers L) T) → IsCountOf (k + n) (Intersection (Covers (flattened (take (i + 1) P))) T)
parts_of_next P T i L k n m h is a b = IsCountOf-same (Union (Intersection (Covers (flattened (take i P))) T) (Intersection (Covers L) T)) (Intersection (Covers (flattened (take (i + 1) P))) T) (k + n)
    (λ z. (
      ⊎_elim
          (λ (c : Intersection (Covers (flattened (take i P))) T z). let (j, lt, d) = covers_taken P i z c.0 in (taken_covers P (i + 1) j z (omega (arith, lt)) d, c.1))
          (λ (c : Intersection (Covers L) T z). (taken_covers P (i + 1) i z (omega arith) (subst (λ (K : List (ℤ × ℤ)). Covers K z) is c.0), c.1)),
      (λ (c, t). let (j, lt, d) = covers_taken P (i + 1) z c in
          ⊎_elim (λ less. inl (taken_covers P i j z less d, t))
          (λ le. let same : j ≡ i = omega (arith, lt, le) in inr (subst (λ (K : List (ℤ × ℤ)). Covers K z) (sym is) (subst (λ (x : ℕ). set_at P x z) same d), t))
          (order_of j i)),
    ))
    (IsCountOf-apart (Intersection (Covers (flattened (take i P))) T) (Intersection (Covers L) T) k n
    (λ z c d. let (j, lt, f) = covers_taken P i z c.0 in
    let far = pages_ascend P j i z z m lt f (subst (λ (K : List (ℤ × ℤ)). Covers K z) is d.0) in
    omega (arith, ints, far))
    a b)

pub parts_of_fit : (whole : ℤ × ℤ) (P : List (List (ℤ × ℤ))) (T : ℤ → Type 0) (i k greatest : ℕ) → IsRunListIn whole (flattened P) → width_of whole ≤ greatest → IsCountOf k (Intersection (Covers (flattened (take i P))) T) → k ≤ greatest
parts_of_fit whole P T i k greatest r h a =
    let few = count_is_monotone (Intersection (Covers (flattened (take i P))) T) (IsBetween whole) k (width_of whole)
    (λ z (c, t). let (j, lt, d) = covers_taken P i z c in r.within z (covers_page P j z d)) a (IsCountOf-width_of whole) in
    omega (arith, few, h)

pub parts_of_all : (P : List (List (ℤ × ℤ))) (T : ℤ → Type 0) (i k : ℕ) → length P ≤ i → IsCountOf k (Intersection (Covers (flattened (take i P))) T) → IsCountOf k (Intersection (Covers (flattened P)) T)
parts_of_all P T i k h a = subst (λ (Q : List (List (ℤ × ℤ))). IsCountOf k (Intersection (Covers (flattened Q)) T)) (take_all i P h) a

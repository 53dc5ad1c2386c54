-- Bounds of the runs of pages, by groups: where a group is found, and what an edit of the groups does to the bounds.
use Rattle.std.proofs.Common.{◌≡◌, ◌⊎◌, ⊎_elim, inl, inr, ℕ, zero, suc, ◌+◌, ◌-◌, ◌<◌, ◌≤◌, ℤ, List, [], ◌∷◌, ◌++◌, length, length-append, get_or, take, take_all, drop, set, refl, sym, ap, subst, ◌∙◌, append_assoc, append-nil, arith, Some, None}
use Rattle.std.specs.Prelude.{All, MatchOption, Option, max, min, replicate}
use Rattle.std.proofs.lemmas.List.{drop-drop, get_or_default, get_or-append_right, get_or-replicate, get_or-drop, get_or-set_same, get_or-take, get_or_append_left, length-drop, length-replicate, length-set, length-take, replicate-append-replicate, take_rest}
use Rattle.std.proofs.lemmas.List.Elements.{All-more}
use Rattle.ivl_laws.specs.Runs.{Covers}
use Rattle.ivl_laws.proofs.Merging.{covers-append_left, covers-append_right}
use Rattle.ivl_places.specs.FirstFit.{FitsAt}
use Rattle.ivl_paged.specs.Longests.{AreAtMost, AreBounded, HasLong, IsGroup, IsNextLong, IsNextLongPart, IsNextPart, NoneLonger, bounds_of, cut, place_count}
use Rattle.ivl_paged.specs.Pages.{IsLongest}
use Rattle.ivl_paged.proofs.Fitting.{fewer_fit}
use Rattle.ivl_paged.proofs.Paging.{order_of}

-- ---- where a group is found

total_all : (N : List ℕ) (g : ℕ) → length N ≤ g → place_count (take g N) ≡ place_count N
total_all N g h = ap place_count (take_all g N h)

pub group_there : (N : List ℕ) (i g left : ℕ) → i < place_count N → i ≡ place_count (take g N) + left → g < length N
group_there N i g left less is = ⊎_elim (λ lt. lt) (λ le. absurd (let e = total_all N g le in omega (arith, less, is, e))) (order_of g (length N))

pub total_more : (N : List ℕ) (g : ℕ) → g < length N → place_count (take (g + 1) N) ≡ place_count (take g N) + get_or N g 0
total_more [] g h = absurd (omega arith)
total_more (n ∷ N) zero h = omega arith
total_more (n ∷ N) (suc g) h =
    let more : suc g + 1 ≡ suc (g + 1) = omega arith in
    let e = total_more N g (omega (arith, h)) in
    ap (λ (k : ℕ). place_count (take k (n ∷ N))) more ∙ omega (arith, e)

pub group_found : (N : List ℕ) (i g left : ℕ) → i ≡ place_count (take g N) + left → g < length N → left < get_or N g 0 → IsGroup N i g left
group_found [] i g left is h less = absurd (omega (arith, h))
group_found (n ∷ N) i zero left is h less = (omega (arith, is), less)
group_found (n ∷ N) i (suc g) left is h less = (omega (arith, is), group_found N (i - n) g left (omega (arith, is)) (omega (arith, h)) less)

pub group_is_there : (N : List ℕ) (i g left : ℕ) → IsGroup N i g left → g < length N
group_is_there [] i g left h = absurd h
group_is_there (n ∷ N) i zero left h = omega arith
group_is_there (n ∷ N) i (suc g) left h = let e = group_is_there N (i - n) g left h.1 in omega (arith, e)

pub group_within : (N : List ℕ) (i g left : ℕ) → IsGroup N i g left → (left < get_or N g 0) × (left ≤ i) × ((i - left) + get_or N g 0 ≤ place_count N)
group_within [] i g left h = absurd h
group_within (n ∷ N) i zero left h = let a = h.0 in let b = h.1 in (b, omega (arith, a), omega (arith, a, b))
group_within (n ∷ N) i (suc g) left h =
    let (a, b, d) = group_within N (i - n) g left h.1 in
    let low = h.0 in
    (a, omega (arith, b, low), omega (arith, b, d, low))

-- ---- what the bounds are

module _ {X : Type 0} (size : X → ℕ) where
  pub length_bounds : (N : List ℕ) (M : List X) → length N ≡ length M → length (bounds_of size N M) ≡ place_count N
  length_bounds [] M e = refl
  length_bounds (n ∷ N) [] e = absurd (omega (arith, e))
  length_bounds (n ∷ N) (x ∷ M) e =
      let a = length-append (replicate n (size x)) (bounds_of size N M) in
      let b = length-replicate n (size x) in
      let c = length_bounds N M (omega (arith, e)) in
      omega (arith, a, b, c)

  pub bound_at : (N : List ℕ) (M : List X) (i g left : ℕ) (d : X) → length N ≡ length M → IsGroup N i g left → get_or (bounds_of size N M) i 0 ≡ size (get_or M g d)
  bound_at [] M i g left d e h = absurd h
  bound_at (n ∷ N) [] i g left d e h = absurd (omega (arith, e))
  bound_at (n ∷ N) (x ∷ M) i zero left d e h =
      let a = h.0 in
      let b = h.1 in
      let less : i < n = omega (arith, a, b) in
      get_or_append_left (replicate n (size x)) (bounds_of size N M) 0 i (omega (arith, less, length-replicate n (size x))) ∙ get_or-replicate n i (size x) 0 less
  bound_at (n ∷ N) (x ∷ M) i (suc g) left d e h =
      get_or-append_right (replicate n (size x)) (bounds_of size N M) n i 0 (length-replicate n (size x)) h.0 ∙ bound_at N M (i - n) g left d (omega (arith, e)) h.1

-- ---- bounds that are raised

pub at_most_same : (A : List ℕ) → AreAtMost A A
at_most_same [] = tt
at_most_same (a ∷ A) = (omega arith, at_most_same A)

at_most_append : (A B C D : List ℕ) → AreAtMost A B → AreAtMost C D → AreAtMost (A ++ C) (B ++ D)
at_most_append [] [] C D h k = k
at_most_append [] (b ∷ B) C D h k = absurd h
at_most_append (a ∷ A) [] C D h k = absurd h
at_most_append (a ∷ A) (b ∷ B) C D h k = (h.0, at_most_append A B C D h.1 k)

at_most_rows : (n a b : ℕ) → a ≤ b → AreAtMost (replicate n a) (replicate n b)
at_most_rows zero a b h = tt
at_most_rows (suc n) a b h = (h, at_most_rows n a b h)

module _ {X : Type 0} (size : X → ℕ) where
  pub raised : (N : List ℕ) (M : List X) (g : ℕ) (d x : X) → size (get_or M g d) ≤ size x → AreAtMost (bounds_of size N M) (bounds_of size N (set M g x))
  raised [] M g d x h = tt
  raised (n ∷ N) [] g d x h = tt
  raised (n ∷ N) (y ∷ M) zero d x h = at_most_append (replicate n (size y)) (replicate n (size x)) (bounds_of size N M) (bounds_of size N M) (at_most_rows n (size y) (size x) h) (at_most_same (bounds_of size N M))
  raised (n ∷ N) (y ∷ M) (suc g) d x h =
      at_most_append (replicate n (size y)) (replicate n (size y)) (bounds_of size N M) (bounds_of size N (set M g x)) (at_most_same (replicate n (size y))) (raised N M g d x h)

  -- a group more, of one page
  pub pushed_new : (N : List ℕ) (M : List X) (x : X) → length N ≡ length M → bounds_of size (N ++ 1 ∷ []) (M ++ x ∷ []) ≡ bounds_of size N M ++ size x ∷ []
  pushed_new [] [] x e = refl
  pushed_new [] (y ∷ M) x e = absurd (omega (arith, e))
  pushed_new (n ∷ N) [] x e = absurd (omega (arith, e))
  pushed_new (n ∷ N) (y ∷ M) x e =
      ap (λ (A : List ℕ). replicate n (size y) ++ A) (pushed_new N M x (omega (arith, e))) ∙ sym (append_assoc (replicate n (size y)) (bounds_of size N M) (size x ∷ []))

  last_row : (n a b m : ℕ) → a ≤ b → m ≤ b → AreAtMost ((replicate n a ++ []) ++ m ∷ []) (replicate (n + 1) b ++ [])
  last_row zero a b m h k = (k, tt)
  last_row (suc n) a b m h k =
      let more : suc n + 1 ≡ suc (n + 1) = omega arith in
      subst (λ (j : ℕ). AreAtMost ((replicate (suc n) a ++ []) ++ m ∷ []) (replicate j b ++ [])) (sym more) (h, last_row n a b m h k)

  -- a page more in the last group
  pub pushed_last : (N : List ℕ) (M : List X) (g m : ℕ) (d x : X) → length N ≡ length M → g + 1 ≡ length N → size (get_or M g d) ≤ size x → m ≤ size x →
      AreAtMost (bounds_of size N M ++ m ∷ []) (bounds_of size (set N g (get_or N g 0 + 1)) (set M g x))
  pushed_last [] M g m d x e last h k = absurd (omega (arith, last))
  pushed_last (n ∷ N) [] g m d x e last h k = absurd (omega (arith, e))
  pushed_last (n ∷ []) (y ∷ M) zero m d x e last h k = last_row n (size y) (size x) m h k
  pushed_last (n ∷ l ∷ N) (y ∷ M) zero m d x e last h k = absurd (omega (arith, last))
  pushed_last (n ∷ N) (y ∷ M) (suc g) m d x e last h k =
      subst (λ (A : List ℕ). AreAtMost A (replicate n (size y) ++ bounds_of size (set N g (get_or N g 0 + 1)) (set M g x))) (sym (append_assoc (replicate n (size y)) (bounds_of size N M) (m ∷ [])))
      (at_most_append (replicate n (size y)) (replicate n (size y)) (bounds_of size N M ++ m ∷ []) (bounds_of size (set N g (get_or N g 0 + 1)) (set M g x)) (at_most_same (replicate n (size y)))
      (pushed_last N M g m d x (omega (arith, e)) (omega (arith, last)) h k))

-- ---- a page more behind one of a group

widen_here : (n i s : ℕ) (C : List ℕ) → i < n → replicate (n + 1) s ++ C ≡ take (i + 1) (replicate n s ++ C) ++ s ∷ drop (i + 1) (replicate n s ++ C)
widen_here zero i s C h = absurd (omega arith)
widen_here (suc n) zero s C h = let more : suc n + 1 ≡ suc (suc n) = omega arith in ap (λ (k : ℕ). replicate k s ++ C) more
widen_here (suc n) (suc i) s C h =
    let more : suc n + 1 ≡ suc (n + 1) = omega arith in
    let next : suc i + 1 ≡ suc (i + 1) = omega arith in
    ap (λ (k : ℕ). replicate k s ++ C) more
    ∙ ap (λ (A : List ℕ). s ∷ A) (widen_here n i s C (omega (arith, h)))
    ∙ ap (λ (k : ℕ). take k (replicate (suc n) s ++ C) ++ s ∷ drop k (replicate (suc n) s ++ C)) (sym next)

widen_past : (n i s x : ℕ) (C D : List ℕ) → n ≤ i → D ≡ take (i - n + 1) C ++ x ∷ drop (i - n + 1) C → replicate n s ++ D ≡ take (i + 1) (replicate n s ++ C) ++ x ∷ drop (i + 1) (replicate n s ++ C)
widen_past zero i s x C D h e = let same : i - zero + 1 ≡ i + 1 = omega arith in e ∙ ap (λ (k : ℕ). take k C ++ x ∷ drop k C) same
widen_past (suc n) zero s x C D h e = absurd (omega (arith, h))
widen_past (suc n) (suc i) s x C D h e =
    let same : suc i - suc n + 1 ≡ i - n + 1 = omega arith in
    let next : suc i + 1 ≡ suc (i + 1) = omega arith in
    ap (λ (A : List ℕ). s ∷ A) (widen_past n i s x C D (omega (arith, h)) (e ∙ ap (λ (k : ℕ). take k C ++ x ∷ drop k C) same))
    ∙ ap (λ (k : ℕ). take k (replicate (suc n) s ++ C) ++ x ∷ drop k (replicate (suc n) s ++ C)) (sym next)

module _ {X : Type 0} (size : X → ℕ) where
  pub widened_group : (N : List ℕ) (M : List X) (i g left : ℕ) → length N ≡ length M → IsGroup N i g left →
      bounds_of size (set N g (get_or N g 0 + 1)) M ≡ take (i + 1) (bounds_of size N M) ++ get_or (bounds_of size N M) i 0 ∷ drop (i + 1) (bounds_of size N M)
  widened_group [] M i g left e h = absurd h
  widened_group (n ∷ N) [] i g left e h = absurd (omega (arith, e))
  widened_group (n ∷ N) (x ∷ M) i zero left e h =
      let a = h.0 in
      let b = h.1 in
      widen_here n i (size x) (bounds_of size N M) (omega (arith, a, b))
      ∙ ap (λ (y : ℕ). take (i + 1) (bounds_of size (n ∷ N) (x ∷ M)) ++ y ∷ drop (i + 1) (bounds_of size (n ∷ N) (x ∷ M))) (sym (bound_at size (n ∷ N) (x ∷ M) i zero left x e h))
  widened_group (n ∷ N) (x ∷ M) i (suc g) left e h =
      widen_past n i (size x) (get_or (bounds_of size N M) (i - n) 0) (bounds_of size N M) (bounds_of size (set N g (get_or N g 0 + 1)) M) h.0 (widened_group N M (i - n) g left (omega (arith, e)) h.1)
      ∙ ap (λ (y : ℕ). take (i + 1) (bounds_of size (n ∷ N) (x ∷ M)) ++ y ∷ drop (i + 1) (bounds_of size (n ∷ N) (x ∷ M)))
      (sym (get_or-append_right (replicate n (size x)) (bounds_of size N M) n i 0 (length-replicate n (size x)) h.0))

  -- a group in two
  pub divided_group : (N : List ℕ) (M : List X) (g a b : ℕ) (d : X) → length N ≡ length M → g < length N → a + b ≡ get_or N g 0 →
      bounds_of size (set (take (g + 1) N ++ b ∷ drop (g + 1) N) g a) (take (g + 1) M ++ get_or M g d ∷ drop (g + 1) M) ≡ bounds_of size N M
  divided_group [] M g a b d e h s = absurd (omega (arith, h))
  divided_group (n ∷ N) [] g a b d e h s = absurd (omega (arith, e))
  divided_group (n ∷ N) (x ∷ M) zero a b d e h s =
      sym (append_assoc (replicate a (size x)) (replicate b (size x)) (bounds_of size N M))
      ∙ ap (λ (A : List ℕ). A ++ bounds_of size N M) (replicate-append-replicate a b (size x))
      ∙ ap (λ (k : ℕ). replicate k (size x) ++ bounds_of size N M) s
  divided_group (n ∷ N) (x ∷ M) (suc g) a b d e h s =
      let next : suc g + 1 ≡ suc (g + 1) = omega arith in
      ap (λ (k : ℕ). bounds_of size (set (take k (n ∷ N) ++ b ∷ drop k (n ∷ N)) (suc g) a) (take k (x ∷ M) ++ get_or M g d ∷ drop k (x ∷ M))) next
      ∙ ap (λ (A : List ℕ). replicate n (size x) ++ A) (divided_group N M g a b d (omega (arith, e)) (omega (arith, h)) s)

  -- a group without pages taken out
  pub emptied_group : (N : List ℕ) (M : List X) (g : ℕ) → length N ≡ length M → g < length N → get_or N g 0 ≡ 0 →
      bounds_of size (take g N ++ drop (g + 1) N) (take g M ++ drop (g + 1) M) ≡ bounds_of size N M
  emptied_group [] M g e h s = absurd (omega (arith, h))
  emptied_group (n ∷ N) [] g e h s = absurd (omega (arith, e))
  emptied_group (n ∷ N) (x ∷ M) zero e h s = ap (λ (k : ℕ). replicate k (size x) ++ bounds_of size N M) (sym s)
  emptied_group (n ∷ N) (x ∷ M) (suc g) e h s =
      let next : suc g + 1 ≡ suc (g + 1) = omega arith in
      ap (λ (k : ℕ). bounds_of size (n ∷ (take g N ++ drop k (n ∷ N))) (x ∷ (take g M ++ drop k (x ∷ M)))) next
      ∙ ap (λ (A : List ℕ). replicate n (size x) ++ A) (emptied_group N M g (omega (arith, e)) (omega (arith, h)) s)

-- ---- pages taken out of the groups

pub length_of_cut : (s e : ℕ) (N : List ℕ) → length (cut s e N) ≡ length N
length_of_cut s e [] = refl
length_of_cut s e (n ∷ N) = let h = length_of_cut (s - n) (e - n) N in omega (arith, h)

take_rows : (s n v : ℕ) (C : List ℕ) → take s (replicate n v ++ C) ≡ replicate (min s n) v ++ take (s - n) C
take_rows zero n v C =
    let a : min zero n ≡ 0 = omega arith in
    let b : zero - n ≡ 0 = omega arith in
    sym (ap (λ (k : ℕ). replicate k v ++ take (zero - n) C) a ∙ ap (λ (k : ℕ). take k C) b)
take_rows (suc s) zero v C =
    let a : min (suc s) zero ≡ 0 = omega arith in
    let b : suc s - zero ≡ suc s = omega arith in
    sym (ap (λ (k : ℕ). replicate k v ++ take (suc s - zero) C) a ∙ ap (λ (k : ℕ). take k C) b)
take_rows (suc s) (suc n) v C =
    let a : min (suc s) (suc n) ≡ suc (min s n) = omega arith in
    let b : suc s - suc n ≡ s - n = omega arith in
    ap (λ (A : List ℕ). v ∷ A) (take_rows s n v C)
    ∙ sym (ap (λ (k : ℕ). replicate k v ++ take (suc s - suc n) C) a ∙ ap (λ (k : ℕ). replicate (suc (min s n)) v ++ take k C) b)

drop_rows : (e n v : ℕ) (C : List ℕ) → drop e (replicate n v ++ C) ≡ replicate (n - e) v ++ drop (e - n) C
drop_rows zero n v C =
    let a : n - zero ≡ n = omega arith in
    let b : zero - n ≡ 0 = omega arith in
    sym (ap (λ (k : ℕ). replicate k v ++ drop (zero - n) C) a ∙ ap (λ (k : ℕ). replicate n v ++ drop k C) b)
drop_rows (suc e) zero v C =
    let a : zero - suc e ≡ 0 = omega arith in
    let b : suc e - zero ≡ suc e = omega arith in
    sym (ap (λ (k : ℕ). replicate k v ++ drop (suc e - zero) C) a ∙ ap (λ (k : ℕ). drop k C) b)
drop_rows (suc e) (suc n) v C =
    let a : suc n - suc e ≡ n - e = omega arith in
    let b : suc e - suc n ≡ e - n = omega arith in
    drop_rows e n v C ∙ sym (ap (λ (k : ℕ). replicate k v ++ drop (suc e - suc n) C) a ∙ ap (λ (k : ℕ). replicate (n - e) v ++ drop k C) b)

rows_joined : (a b v : ℕ) (A B : List ℕ) → (b ≡ 0) ⊎ (A ≡ []) → replicate (a + b) v ++ (A ++ B) ≡ (replicate a v ++ A) ++ (replicate b v ++ B)
rows_joined a b v A B (inl e) =
    let same : a + b ≡ a = omega (arith, e) in
    ap (λ (k : ℕ). replicate k v ++ (A ++ B)) same ∙ sym (append_assoc (replicate a v) A B) ∙ ap (λ (k : ℕ). (replicate a v ++ A) ++ (replicate k v ++ B)) (sym e)
rows_joined a b v A B (inr e) =
    ap (λ (C : List ℕ). replicate (a + b) v ++ (C ++ B)) e
    ∙ ap (λ (C : List ℕ). C ++ B) (sym (replicate-append-replicate a b v))
    ∙ append_assoc (replicate a v) (replicate b v) B
    ∙ ap (λ (C : List ℕ). C ++ (replicate b v ++ B)) (sym (append-nil (replicate a v)))
    ∙ ap (λ (C : List ℕ). (replicate a v ++ C) ++ (replicate b v ++ B)) (sym e)

none_taken : (s e : ℕ) (A : List ℕ) → length A ≡ 0 → take s A ++ drop e A ≡ []
none_taken s e (a ∷ A) h = absurd (omega (arith, h))
none_taken zero zero [] h = refl
none_taken zero (suc e) [] h = refl
none_taken (suc s) zero [] h = refl
none_taken (suc s) (suc e) [] h = refl

module _ {X : Type 0} (size : X → ℕ) where
  pub bounds_cut : (s e : ℕ) (N : List ℕ) (M : List X) → s ≤ e → length N ≡ length M → bounds_of size (cut s e N) M ≡ take s (bounds_of size N M) ++ drop e (bounds_of size N M)
  bounds_cut s e [] M h l = sym (none_taken s e [] refl)
  bounds_cut s e (n ∷ N) [] h l = absurd (omega (arith, l))
  bounds_cut s e (n ∷ N) (x ∷ M) h l =
      let C = bounds_of size N M in
      ap (λ (A : List ℕ). replicate (min s n + (n - e)) (size x) ++ A) (bounds_cut (s - n) (e - n) N M (omega (arith, h)) (omega (arith, l)))
      ∙ rows_joined (min s n) (n - e) (size x) (take (s - n) C) (drop (e - n) C)
      (⊎_elim (λ lt. inl (omega (arith, lt, h))) (λ le. let none : s - n ≡ 0 = omega (arith, le) in inr (ap (λ (k : ℕ). take k C) none)) (order_of n s))
      ∙ sym (ap (λ (A : List ℕ). A ++ drop e (replicate n (size x) ++ C)) (take_rows s n (size x) C) ∙ ap (λ (A : List ℕ). (replicate (min s n) (size x) ++ take (s - n) C) ++ A) (drop_rows e n (size x) C))

-- ---- pages and their bounds

pub none_longer_up : (m n : ℕ) (S : ℤ → Type 0) → m ≤ n → NoneLonger m S → NoneLonger n S
none_longer_up m n S h k j v f = let le = k j v f in omega (arith, le, h)

pub none_longer_in : (n : ℕ) (S T : ℤ → Type 0) → ((z : ℤ) → T z → S z) → NoneLonger n S → NoneLonger n T
none_longer_in n S T h k j v f = k j v (λ z b. h z (f z b))

pub bounded_length : (A : List ℕ) (P : List (List (ℤ × ℤ))) → AreBounded A P → length A ≡ length P
bounded_length [] [] h = refl
bounded_length [] (L ∷ P) h = absurd h
bounded_length (a ∷ A) [] h = absurd h
bounded_length (a ∷ A) (L ∷ P) h = let e = bounded_length A P h.1 in omega (arith, e)

pub bounded_at : (A : List ℕ) (P : List (List (ℤ × ℤ))) (k : ℕ) (d : List (ℤ × ℤ)) → AreBounded A P → k < length P → NoneLonger (get_or A k 0) (Covers (get_or P k d))
bounded_at [] [] k d h less = absurd (omega (arith, less))
bounded_at [] (L ∷ P) k d h less = absurd h
bounded_at (a ∷ A) [] k d h less = absurd h
bounded_at (a ∷ A) (L ∷ P) zero d h less = h.0
bounded_at (a ∷ A) (L ∷ P) (suc k) d h less = bounded_at A P k d h.1 (omega (arith, less))

pub bounded_raised : (A B : List ℕ) (P : List (List (ℤ × ℤ))) → AreBounded A P → AreAtMost A B → AreBounded B P
bounded_raised [] [] P h k = h
bounded_raised [] (b ∷ B) P h k = absurd k
bounded_raised (a ∷ A) [] P h k = absurd k
bounded_raised (a ∷ A) (b ∷ B) [] h k = absurd h
bounded_raised (a ∷ A) (b ∷ B) (L ∷ P) h k = (none_longer_up a b (Covers L) k.0 h.0, bounded_raised A B P h.1 k.1)

pub bounded_set : (A : List ℕ) (P : List (List (ℤ × ℤ))) (i : ℕ) (L : List (ℤ × ℤ)) → AreBounded A P → NoneLonger (get_or A i 0) (Covers L) → AreBounded A (set P i L)
bounded_set [] [] i L h k = h
bounded_set [] (M ∷ P) i L h k = absurd h
bounded_set (a ∷ A) [] i L h k = absurd h
bounded_set (a ∷ A) (M ∷ P) zero L h k = (k, h.1)
bounded_set (a ∷ A) (M ∷ P) (suc i) L h k = (h.0, bounded_set A P i L h.1 k)

bounded_append : (A B : List ℕ) (P Q : List (List (ℤ × ℤ))) → AreBounded A P → AreBounded B Q → AreBounded (A ++ B) (P ++ Q)
bounded_append [] B [] Q h k = k
bounded_append [] B (L ∷ P) Q h k = absurd h
bounded_append (a ∷ A) B [] Q h k = absurd h
bounded_append (a ∷ A) B (L ∷ P) Q h k = (h.0, bounded_append A B P Q h.1 k)

bounded_take : (A : List ℕ) (P : List (List (ℤ × ℤ))) (i : ℕ) → AreBounded A P → AreBounded (take i A) (take i P)
bounded_take A P zero h = tt
bounded_take [] [] (suc i) h = tt
bounded_take [] (L ∷ P) (suc i) h = absurd h
bounded_take (a ∷ A) [] (suc i) h = absurd h
bounded_take (a ∷ A) (L ∷ P) (suc i) h = (h.0, bounded_take A P i h.1)

bounded_drop : (A : List ℕ) (P : List (List (ℤ × ℤ))) (i : ℕ) → AreBounded A P → AreBounded (drop i A) (drop i P)
bounded_drop A P zero h = h
bounded_drop [] [] (suc i) h = tt
bounded_drop [] (L ∷ P) (suc i) h = absurd h
bounded_drop (a ∷ A) [] (suc i) h = absurd h
bounded_drop (a ∷ A) (L ∷ P) (suc i) h = bounded_drop A P i h.1

pub bounded_push : (A : List ℕ) (P : List (List (ℤ × ℤ))) (n : ℕ) (L : List (ℤ × ℤ)) → AreBounded A P → NoneLonger n (Covers L) → AreBounded (A ++ n ∷ []) (P ++ L ∷ [])
bounded_push A P n L h k = bounded_append A (n ∷ []) P (L ∷ []) h (k, tt)

pub bounded_insert : (A : List ℕ) (P : List (List (ℤ × ℤ))) (i n : ℕ) (L : List (ℤ × ℤ)) → AreBounded A P → NoneLonger n (Covers L) → AreBounded (take i A ++ n ∷ drop i A) (take i P ++ L ∷ drop i P)
bounded_insert A P i n L h k = bounded_append (take i A) (n ∷ drop i A) (take i P) (L ∷ drop i P) (bounded_take A P i h) (k, bounded_drop A P i h)

pub bounded_without : (A : List ℕ) (P : List (List (ℤ × ℤ))) (i j : ℕ) → AreBounded A P → AreBounded (take i A ++ drop j A) (take i P ++ drop j P)
bounded_without A P i j h = bounded_append (take i A) (drop j A) (take i P) (drop j P) (bounded_take A P i h) (bounded_drop A P j h)

-- ---- a group whose pages are read anew

row_anew : (n a b : ℕ) (C : List ℕ) (P : List (List (ℤ × ℤ))) → AreBounded (replicate n a ++ C) P → All (λ L. NoneLonger b (Covers L)) (take n P) → AreBounded (replicate n b ++ C) P
row_anew zero a b C P h k = h
row_anew (suc n) a b C [] h k = absurd h
row_anew (suc n) a b C (L ∷ P) h k = (k 0 L (omega arith), row_anew n a b C P h.1 (λ j d less. k (suc j) d (omega (arith, less))))

row_past : (n a : ℕ) (C D : List ℕ) (P : List (List (ℤ × ℤ))) → AreBounded (replicate n a ++ C) P → (AreBounded C (drop n P) → AreBounded D (drop n P)) → AreBounded (replicate n a ++ D) P
row_past zero a C D P h k = k h
row_past (suc n) a C D [] h k = absurd h
row_past (suc n) a C D (L ∷ P) h k = (h.0, row_past n a C D P h.1 k)

pub anew : {X : Type 0} (size : X → ℕ) (N : List ℕ) (M : List X) (i g left : ℕ) (x : X) (P : List (List (ℤ × ℤ))) → length N ≡ length M → IsGroup N i g left → AreBounded (bounds_of size N M) P →
    All (λ L. NoneLonger (size x) (Covers L)) (take (get_or N g 0) (drop (i - left) P)) → AreBounded (bounds_of size N (set M g x)) P
anew size [] M i g left x P e h b k = absurd h
anew size (n ∷ N) [] i g left x P e h b k = absurd (omega (arith, e))
anew size (n ∷ N) (y ∷ M) i zero left x P e h b k =
    let a = h.0 in
    let same : i - left ≡ 0 = omega (arith, a) in
    row_anew n (size y) (size x) (bounds_of size N M) P b (subst (λ (j : ℕ). All (λ L. NoneLonger (size x) (Covers L)) (take n (drop j P))) same k)
anew size (n ∷ N) (y ∷ M) i (suc g) left x P e h b k =
    let w = group_within N (i - n) g left h.1 in
    let low = h.0 in
    let up = w.1 in
    let same : i - left ≡ n + (i - n - left) = omega (arith, low, up) in
    row_past n (size y) (bounds_of size N M) (bounds_of size N (set M g x)) P b
    (λ c. anew size N M (i - n) g left x (drop n P) (omega (arith, e)) h.1 c
    (subst (λ (Q : List (List (ℤ × ℤ))). All (λ L. NoneLonger (size x) (Covers L)) (take (get_or N g 0) Q)) (ap (λ (j : ℕ). drop j P) same ∙ sym (drop-drop (i - n - left) n P)) k))

-- ---- the longest of some pages

pub short_none : (P : List (List (ℤ × ℤ))) (n : ℕ) → All (λ L. NoneLonger n (Covers L)) (take 0 P)
short_none P n k d less = absurd (omega (arith, less))

pub short_next : (P : List (List (ℤ × ℤ))) (i a b n : ℕ) (L : List (ℤ × ℤ)) → i < length P → L ≡ get_or P i L → All (λ K. NoneLonger a (Covers K)) (take i P) → a ≤ n → IsLongest b (Covers L) → b ≤ n →
    All (λ K. NoneLonger n (Covers K)) (take (i + 1) P)
short_next P i a b n L less is so_far up most le = All-more (λ K. NoneLonger n (Covers K)) P i L less
    (λ k d h. none_longer_up a n (Covers (get_or (take i P) k d)) up (so_far k d h))
    (subst (λ (K : List (ℤ × ℤ)). NoneLonger n (Covers K)) is (none_longer_up b n (Covers L) le most.most))

pub short_all : (P : List (List (ℤ × ℤ))) (i n : ℕ) → length P ≤ i → All (λ L. NoneLonger n (Covers L)) (take i P) → All (λ L. NoneLonger n (Covers L)) P
short_all P i n h = subst (λ (Q : List (List (ℤ × ℤ))). All (λ L. NoneLonger n (Covers L)) Q) (take_all i P h)

-- ---- a place of the bounds, as a caller sees them

module _ {X : Type 0} (size : X → ℕ) (N : List ℕ) (M : List X) (A : List ℕ) (e : length N ≡ length M) (view : bounds_of size N M ≡ A) where
  pub counted : place_count N ≡ length A
  counted = sym (length_bounds size N M e) ∙ ap length view

  pub place_counted : (i : ℕ) (K : List ℕ) → i < length A → K ≡ N → i < place_count K
  place_counted i K less same = let n = counted in subst (λ (J : List ℕ). i < place_count J) (sym same) (omega (arith, less, n))

  pub has_group : (i g left : ℕ) (K : List ℕ) → K ≡ N → IsGroup K i g left → IsGroup N i g left
  has_group i g left K same h = subst (λ (J : List ℕ). IsGroup J i g left) same h

  pub raised_others : (g : ℕ) (x y : X) → x ≡ get_or M g x → size x ≤ size y → AreAtMost A (bounds_of size N (set M g y))
  raised_others g x y is le = subst (λ (B : List ℕ). AreAtMost B (bounds_of size N (set M g y))) view (raised size N M g x y (subst (λ (z : X). size z ≤ size y) is le))

  pub raised_here : (i g left m : ℕ) (y : X) → IsGroup N i g left → m ≤ size y → m ≤ get_or (bounds_of size N (set M g y)) i 0
  raised_here i g left m y h le =
      let there = group_is_there N i g left h in
      let same : length N ≡ length (set M g y) = e ∙ sym (length-set M g y) in
      subst (λ (n : ℕ). m ≤ n) (sym (bound_at size N (set M g y) i g left y same h ∙ ap size (get_or-set_same M g y y (omega (arith, there, e))))) le

  pub counted_group : (g left i n : ℕ) → IsGroup N i g left → n ≡ get_or N g n → (left ≤ i) × ((i - left) + n ≤ length A)
  counted_group g left i n h is =
      let w = group_within N i g left h in
      let there = group_is_there N i g left h in
      let same : n ≡ get_or N g 0 = is ∙ get_or_default N g n 0 there in
      let low = w.1 in
      let high = w.2 in
      let all = counted in
      (low, omega (arith, high, same, all))

  pub widened_in_group : (i g left n : ℕ) → IsGroup N i g left → n ≡ get_or N g n → bounds_of size (set N g (n + 1)) M ≡ take (i + 1) A ++ get_or A i 0 ∷ drop (i + 1) A
  widened_in_group i g left n h is =
      let there = group_is_there N i g left h in
      let same : n ≡ get_or N g 0 = is ∙ get_or_default N g n 0 there in
      ap (λ (k : ℕ). bounds_of size (set N g (k + 1)) M) same ∙ widened_group size N M i g left e h ∙ ap (λ (B : List ℕ). take (i + 1) B ++ get_or B i 0 ∷ drop (i + 1) B) view

  pub pushed_in_last : (g m n : ℕ) (x y : X) → g + 1 ≡ length N → n ≡ get_or N g n → x ≡ get_or M g x → size x ≤ size y → m ≤ size y → AreAtMost (A ++ m ∷ []) (bounds_of size (set N g (n + 1)) (set M g y))
  pushed_in_last g m n x y last is here le up =
      let same : n ≡ get_or N g 0 = is ∙ get_or_default N g n 0 (omega (arith, last)) in
      subst (λ (k : ℕ). AreAtMost (A ++ m ∷ []) (bounds_of size (set N g (k + 1)) (set M g y))) (sym same)
      (subst (λ (B : List ℕ). AreAtMost (B ++ m ∷ []) (bounds_of size (set N g (get_or N g 0 + 1)) (set M g y))) view
      (pushed_last size N M g m x y e last (subst (λ (z : X). size z ≤ size y) here le) up))

  pub pushed_behind : (N' : List ℕ) (M' : List X) (x : X) → N' ≡ N ++ 1 ∷ [] → M' ≡ M ++ x ∷ [] → AreAtMost (A ++ size x ∷ []) (bounds_of size N' M')
  pushed_behind N' M' x a b =
      subst (λ (K : List ℕ). AreAtMost (A ++ size x ∷ []) (bounds_of size K M')) (sym a)
      (subst (λ (K : List X). AreAtMost (A ++ size x ∷ []) (bounds_of size (N ++ 1 ∷ []) K)) (sym b)
      (subst (λ (B : List ℕ). AreAtMost (B ++ size x ∷ []) (bounds_of size (N ++ 1 ∷ []) (M ++ x ∷ []))) view
      (subst (λ (B : List ℕ). AreAtMost (bounds_of size N M ++ size x ∷ []) B) (sym (pushed_new size N M x e)) (at_most_same (bounds_of size N M ++ size x ∷ [])))))

  pub read_group : (i g left n : ℕ) (y : X) (P : List (List (ℤ × ℤ))) → IsGroup N i g left → n ≡ get_or N g n → AreBounded A P →
      All (λ L. NoneLonger (size y) (Covers L)) (take n (take (length P - (i - left)) (drop (i - left) P))) → AreBounded (bounds_of size N (set M g y)) P
  read_group i g left n y P h is b k =
      let there = group_is_there N i g left h in
      let same : n ≡ get_or N g 0 = is ∙ get_or_default N g n 0 there in
      anew size N M i g left y P e h (subst (λ (B : List ℕ). AreBounded B P) (sym view) b)
      (subst (λ (j : ℕ). All (λ L. NoneLonger (size y) (Covers L)) (take j (drop (i - left) P))) same
      (subst (λ (Q : List (List (ℤ × ℤ))). All (λ L. NoneLonger (size y) (Covers L)) (take n Q)) (take_rest P (i - left)) k))

  pub part_seen : (K : List ℕ) (J : List X) (from n : ℕ) (o : Option (ℕ × ℕ)) → K ≡ N → J ≡ M →
      MatchOption o ((k : ℕ) → from ≤ k → k < length (bounds_of size K J) → get_or (bounds_of size K J) k 0 < n) (IsNextPart (bounds_of size K J) from n) →
      MatchOption o ((k : ℕ) → from ≤ k → k < length A → get_or A k 0 < n) (IsNextPart A from n)
  part_seen K J from n o k j h =
      subst (λ (B : List ℕ). MatchOption o ((k : ℕ) → from ≤ k → k < length B → get_or B k 0 < n) (IsNextPart B from n))
      (ap (λ (H : List ℕ). bounds_of size H J) k ∙ ap (λ (H : List X). bounds_of size N H) j ∙ view) h

  pub taken_out : (s t : ℕ) (K : List ℕ) (B : List ℕ) → s ≤ t → K ≡ cut s t N → B ≡ bounds_of size K M → B ≡ take s A ++ drop t A
  taken_out s t K B le a b = b ∙ ap (λ (J : List ℕ). bounds_of size J M) a ∙ bounds_cut size s t N M le e ∙ ap (λ (J : List ℕ). take s J ++ drop t J) view

module _ {X : Type 0} (size : X → ℕ) (N N' : List ℕ) (M M' : List X) (g n : ℕ) (e : length N ≡ length M) (there : g < length N) (is : n ≡ get_or N g n) where
  first_is : n ≡ get_or N g 0
  first_is = is ∙ get_or_default N g n 0 there

  pub divided_in_two : (a b : ℕ) (x : X) → x ≡ get_or M g x → a + b ≡ n → N' ≡ take (g + 1) N ++ b ∷ drop (g + 1) N → M' ≡ take (g + 1) M ++ x ∷ drop (g + 1) M → bounds_of size (set N' g a) M' ≡ bounds_of size N M
  divided_in_two a b x here s c d =
      ap (λ (K : List ℕ). bounds_of size (set K g a) M') c
      ∙ ap (λ (K : List X). bounds_of size (set (take (g + 1) N ++ b ∷ drop (g + 1) N) g a) K) (d ∙ ap (λ (y : X). take (g + 1) M ++ y ∷ drop (g + 1) M) here)
      ∙ divided_group size N M g a b x e there (s ∙ first_is)

  pub emptied : n ≡ 0 → N' ≡ take g N ++ drop (g + 1) N → M' ≡ take g M ++ drop (g + 1) M → (length N' ≡ length M') × (bounds_of size N' M' ≡ bounds_of size N M)
  emptied none c d = (
    (let a = ap length c in
        let b = ap length d in
        let p = length-append (take g N) (drop (g + 1) N) in
        let q = length-append (take g M) (drop (g + 1) M) in
        let r = length-take g N in
        let s = length-take g M in
        let t = length-drop (g + 1) N in
        let u = length-drop (g + 1) M in
        omega (arith, a, b, p, q, r, s, t, u, e)),
    ap (λ (K : List ℕ). bounds_of size K M') c ∙ ap (λ (K : List X). bounds_of size (take g N ++ drop (g + 1) N) K) d ∙ emptied_group size N M g e there (sym first_is ∙ none),
  )

-- ---- a search among the groups

pub total_part : (N : List ℕ) (g : ℕ) → g < length N → place_count (take g N) + get_or N g 0 ≤ place_count N
total_part [] g h = absurd (omega (arith, h))
total_part (n ∷ N) zero h = omega arith
total_part (n ∷ N) (suc g) h = let le = total_part N g (omega (arith, h)) in omega (arith, le)

-- the bounds from place `from` to before place `start` are below n
abbrev pub Passed : {X : Type 0} → (X → ℕ) → List ℕ → List X → ℕ → ℕ → ℕ → Type 0
Passed size N M from n start = (k : ℕ) → from ≤ k → k < start → get_or (bounds_of size N M) k 0 < n

module _ {X : Type 0} (size : X → ℕ) (N : List ℕ) (M : List X) (e : length N ≡ length M) (from n : ℕ) where
  pub none_passed : Passed size N M from n 0
  none_passed k a b = absurd (omega (arith, b))

  -- the next group has only places before, or a lower number
  pub passed_more : (start g c : ℕ) (x : X) → g < length N → start ≡ place_count (take g N) → c ≡ get_or N g 0 → x ≡ get_or M g x → Passed size N M from n start → (start + c ≤ from) ⊎ (size x < n) → Passed size N M from n (start + c)
  passed_more start g c x there is here at p (inl far) k a b = absurd (omega (arith, far, a, b))
  passed_more start g c x there is here at p (inr low) k a b = ⊎_elim (λ lt. p k a lt)
      (λ le. let group = group_found N k g (k - start) (omega (arith, le, is)) there (omega (arith, le, b, here)) in
      let same = bound_at size N M k g (k - start) x e group in
      subst (λ (j : ℕ). j < n) (sym (same ∙ ap size (sym at))) low)
      (order_of k start)

  pub next_part : (start g c a : ℕ) → g < length N → start ≡ place_count (take g N) → c ≡ get_or N g 0 → a ≡ max start from → from < start + c → Passed size N M from n start → IsNextPart (bounds_of size N M) from n (a, start + c)
  next_part start g c a there is here top on p = record {
    from = omega (arith, top);
    in_order = omega (arith, top, on);
    on = on;
    at_most = let le = total_part N g there in let all = length_bounds size N M e in omega (arith, le, all, is, here);
    passed = λ k low lt. p k low (omega (arith, lt, top, low));
  }

  pub all_passed : (start g : ℕ) → length N ≤ g → start ≡ place_count (take g N) → Passed size N M from n start → (k : ℕ) → from ≤ k → k < length (bounds_of size N M) → get_or (bounds_of size N M) k 0 < n
  all_passed start g h is p k a b = let all = total_all N g h in let many = length_bounds size N M e in p k a (omega (arith, is, all, many, b))

-- ---- what a list of pages keeps of its bounds A

-- a caller sees the pages P as Q
pub bounds_there : (A : List ℕ) (P Q : List (List (ℤ × ℤ))) (i : ℕ) → AreBounded A P → P ≡ Q → i < length Q → i < length A
bounds_there A P Q i h e less = let same = bounded_length A P h in let view = ap (λ (R : List (List (ℤ × ℤ))). length R) e in omega (arith, same, view, less)

pub longest_bounded : (A : List ℕ) (P Q : List (List (ℤ × ℤ))) (i m : ℕ) (L : List (ℤ × ℤ)) → AreBounded A P → P ≡ Q → i < length Q → L ≡ get_or P i L → IsLongest m (Covers L) → m ≤ get_or A i 0
longest_bounded A P Q i m L h e less is most =
    bounded_at A P i L h (subst (λ (R : List (List (ℤ × ℤ))). i < length R) (sym e) less) m most.fits.0 (subst (λ (K : List (ℤ × ℤ)). FitsAt m (Covers K) most.fits.0) is most.fits.1)

pub bounded_grown : (A B : List ℕ) (P : List (List (ℤ × ℤ))) (i m : ℕ) (M : List (ℤ × ℤ)) → AreBounded A P → AreAtMost A B → IsLongest m (Covers M) → m ≤ get_or B i 0 → AreBounded B (set P i M)
bounded_grown A B P i m M h up most le = bounded_set B P i M (bounded_raised A B P h up) (none_longer_up m (get_or B i 0) (Covers M) le most.most)

pub bounded_shrunk : (A : List ℕ) (P Q K : List (List (ℤ × ℤ))) (i : ℕ) (L M : List (ℤ × ℤ)) → AreBounded A P → P ≡ Q → i < length Q → L ≡ get_or P i L → ((z : ℤ) → Covers M z → Covers L z) → K ≡ set P i M → AreBounded A K
bounded_shrunk A P Q K i L M h e less is sub same =
    let here = bounded_at A P i L h (subst (λ (R : List (List (ℤ × ℤ))). i < length R) (sym e) less) in
    subst (λ (R : List (List (ℤ × ℤ))). AreBounded A R) (sym same)
    (bounded_set A P i M h (none_longer_in (get_or A i 0) (Covers L) (Covers M) sub (subst (λ (N : List (ℤ × ℤ)). NoneLonger (get_or A i 0) (Covers N)) (sym is) here)))

pub bounded_split : (A B : List ℕ) (P K : List (List (ℤ × ℤ))) (i : ℕ) (low high : List (ℤ × ℤ)) → AreBounded A P → i < length P → low ++ high ≡ get_or P i [] →
    B ≡ take (i + 1) A ++ get_or A i 0 ∷ drop (i + 1) A → K ≡ set (take (i + 1) P ++ high ∷ drop (i + 1) P) i low → AreBounded B K
bounded_split A B P K i low high h less parts a k =
    let n = get_or A i 0 in
    let D = n ∷ drop (i + 1) A in
    let all : NoneLonger n (Covers (low ++ high)) = subst (λ (L : List (ℤ × ℤ)). NoneLonger n (Covers L)) (sym parts) (bounded_at A P i [] h less) in
    let same = bounded_length A P h in
    let row = length-take (i + 1) A in
    let first : get_or (take (i + 1) A ++ D) i 0 ≡ n = get_or_append_left (take (i + 1) A) D 0 i (omega (arith, row, same, less)) ∙ get_or-take (i + 1) A i 0 (omega arith) in
    subst (λ (E : List ℕ). AreBounded E K) (sym a) (subst (λ (R : List (List (ℤ × ℤ))). AreBounded (take (i + 1) A ++ D) R) (sym k)
    (bounded_set (take (i + 1) A ++ D) (take (i + 1) P ++ high ∷ drop (i + 1) P) i low
    (bounded_insert A P (i + 1) n high h (none_longer_in n (Covers (low ++ high)) (Covers high) (λ z c. covers-append_right low high z c) all))
    (subst (λ (j : ℕ). NoneLonger j (Covers low)) (sym first) (none_longer_in n (Covers (low ++ high)) (Covers low) (λ z c. covers-append_left low high z c) all))))

pub bounded_less : (A B : List ℕ) (P K : List (List (ℤ × ℤ))) (i j : ℕ) → AreBounded A P → B ≡ take i A ++ drop j A → K ≡ take i P ++ drop j P → AreBounded B K
bounded_less A B P K i j h a k = subst (λ (E : List ℕ). AreBounded E K) (sym a) (subst (λ (R : List (List (ℤ × ℤ))). AreBounded (take i A ++ drop j A) R) (sym k) (bounded_without A P i j h))

pub bounded_more : (A B : List ℕ) (P K : List (List (ℤ × ℤ))) (n : ℕ) (L : List (ℤ × ℤ)) → AreBounded A P → IsLongest n (Covers L) → AreAtMost (A ++ n ∷ []) B → K ≡ P ++ L ∷ [] → AreBounded B K
bounded_more A B P K n L h most up k =
    subst (λ (R : List (List (ℤ × ℤ))). AreBounded B R) (sym k) (bounded_raised (A ++ n ∷ []) B (P ++ L ∷ []) (bounded_push A P n L h most.most) up)

pub bounded_as : (A : List ℕ) (P K : List (List (ℤ × ℤ))) → K ≡ P → AreBounded A K → AreBounded A P
bounded_as A P K e = subst (λ (R : List (List (ℤ × ℤ))). AreBounded A R) e

-- ---- a search among pages

pub is_long : (P : List (List (ℤ × ℤ))) (i m n : ℕ) (L : List (ℤ × ℤ)) → i < length P → L ≡ get_or P i L → IsLongest m (Covers L) → n ≤ m → HasLong n P i
is_long P i m n L less is most le =
    let page : L ≡ get_or P i [] = is ∙ get_or_default P i L [] less in
    let v = most.fits.0 in
    (v, subst (λ (K : List (ℤ × ℤ)). FitsAt n (Covers K) v) page (fewer_fit n m (Covers L) v le most.fits.1))

pub none_long_next : (P : List (List (ℤ × ℤ))) (i m n : ℕ) (L : List (ℤ × ℤ)) → i < length P → L ≡ get_or P i L → IsLongest m (Covers L) → m < n → ((k : ℕ) → k < i → ¬ (HasLong n P k)) → (k : ℕ) → k < i + 1 → ¬ (HasLong n P k)
none_long_next P i m n L less is most lt so_far k h l = ⊎_elim (λ a. so_far k a l)
    (λ le. let page : L ≡ get_or P i [] = is ∙ get_or_default P i L [] less in
    let here : HasLong n P i = subst (λ (j : ℕ). HasLong n P j) (omega (arith, le, h)) l in
    let fits = most.most n here.0 (subst (λ (K : List (ℤ × ℤ)). FitsAt n (Covers K) here.0) (sym page) here.1) in
    absurd (omega (arith, fits, lt)))
    (order_of k i)

-- the greater of two numbers of which each is 0, or a page has it
pub long_next : (P : List (List (ℤ × ℤ))) (i a b n : ℕ) (L : List (ℤ × ℤ)) → i < length P → L ≡ get_or P i L → (a ≡ 0) ⊎ ((k : ℕ) × HasLong a P k) → IsLongest b (Covers L) → (n ≡ a) ⊎ (n ≡ b) →
    (n ≡ 0) ⊎ ((k : ℕ) × HasLong n P k)
long_next P i a b n L less is so_far most (inl e) = subst (λ (m : ℕ). (m ≡ 0) ⊎ ((k : ℕ) × HasLong m P k)) (sym e) so_far
long_next P i a b n L less is so_far most (inr e) = inr (i, subst (λ (m : ℕ). HasLong m P i) (sym e) (is_long P i b b L less is most (omega arith)))

-- the bounds say it
pub none_long_below : (A : List ℕ) (P : List (List (ℤ × ℤ))) (n k : ℕ) → AreBounded A P → k < length P → get_or A k 0 < n → ¬ (HasLong n P k)
none_long_below A P n k h less low l = let le = bounded_at A P k [] h less n l.0 l.1 in absurd (omega (arith, le, low))

pub part_of_pages : (A : List ℕ) (P : List (List (ℤ × ℤ))) (from n : ℕ) (o : Option (ℕ × ℕ)) → AreBounded A P → MatchOption o ((k : ℕ) → from ≤ k → k < length A → get_or A k 0 < n) (IsNextPart A from n) →
    MatchOption o ((k : ℕ) → from ≤ k → k < length P → ¬ (HasLong n P k)) (IsNextLongPart n P from)
part_of_pages A P from n None h e = λ k a less. let same = bounded_length A P h in none_long_below A P n k h less (e k a (omega (arith, same, less)))
part_of_pages A P from n (Some r) h p =
    let same = bounded_length A P h in
    let order = p.in_order in
    let most = p.at_most in
    record {
      from = p.from;
      in_order = p.in_order;
      on = p.on;
      at_most = omega (arith, same, most);
      passed = λ k a lt. none_long_below A P n k h (omega (arith, lt, order, most, same)) (p.passed k a lt);
    }

module _ (A : List ℕ) (P : List (List (ℤ × ℤ))) (from n place : ℕ) (h : AreBounded A P) (le : from ≤ place) (so_far : (k : ℕ) → from ≤ k → k < place → ¬ (HasLong n P k)) where
  pub none_long_at_all : ((k : ℕ) → place ≤ k → k < length A → get_or A k 0 < n) → (k : ℕ) → from ≤ k → k < length P → ¬ (HasLong n P k)
  none_long_at_all none k a less = ⊎_elim (λ lt. so_far k a lt)
      (λ up. let same = bounded_length A P h in none_long_below A P n k h less (none k up (omega (arith, same, less))))
      (order_of k place)

  in_slice : (r : ℕ × ℕ) (Q : List (List (ℤ × ℤ))) (k : ℕ) → Q ≡ take (r.1 - r.0) (drop r.0 P) → r.0 ≤ k → k < r.1 → HasLong n P k → HasLong n Q (k - r.0)
  in_slice r Q k e a b l =
      let back : r.0 + (k - r.0) ≡ k = omega (arith, a) in
      let same : get_or Q (k - r.0) [] ≡ get_or P k [] =
      ap (λ (R : List (List (ℤ × ℤ))). get_or R (k - r.0) []) e ∙ get_or-take (r.1 - r.0) (drop r.0 P) (k - r.0) [] (omega (arith, a, b)) ∙ get_or-drop r.0 P (k - r.0) [] ∙ ap (λ (j : ℕ). get_or P j []) back in
      (l.0, subst (λ (L : List (ℤ × ℤ)). FitsAt n (Covers L) l.0) (sym same) l.1)

  of_slice : (r : ℕ × ℕ) (Q : List (List (ℤ × ℤ))) (k : ℕ) → Q ≡ take (r.1 - r.0) (drop r.0 P) → k < r.1 - r.0 → HasLong n Q k → HasLong n P (r.0 + k)
  of_slice r Q k e b l =
      let same : get_or Q k [] ≡ get_or P (r.0 + k) [] = ap (λ (R : List (List (ℤ × ℤ))). get_or R k []) e ∙ get_or-take (r.1 - r.0) (drop r.0 P) k [] b ∙ get_or-drop r.0 P k [] in
      (l.0, subst (λ (L : List (ℤ × ℤ)). FitsAt n (Covers L) l.0) same l.1)

  slice_length : (r : ℕ × ℕ) (Q : List (List (ℤ × ℤ))) → IsNextPart A place n r → Q ≡ take (r.1 - r.0) (drop r.0 P) → length Q ≡ r.1 - r.0
  slice_length r Q p e =
      let same = bounded_length A P h in
      let most = p.at_most in
      let a = ap length e in
      let b = length-take (r.1 - r.0) (drop r.0 P) in
      let d = length-drop r.0 P in
      omega (arith, same, most, a, b, d)

  none_before : (r : ℕ × ℕ) (k : ℕ) → IsNextPart A place n r → from ≤ k → k < r.0 → ¬ (HasLong n P k)
  none_before r k p a lt = ⊎_elim (λ c. so_far k a c)
      (λ up. let most = p.at_most in let on = p.in_order in let same = bounded_length A P h in none_long_below A P n k h (omega (arith, lt, most, on, same)) (p.passed k up lt))
      (order_of k place)

  pub none_long_in_part : (r : ℕ × ℕ) (Q : List (List (ℤ × ℤ))) → IsNextPart A place n r → Q ≡ take (r.1 - r.0) (drop r.0 P) → ((k : ℕ) → k < length Q → ¬ (HasLong n Q k)) → (k : ℕ) → from ≤ k → k < r.1 → ¬ (HasLong n P k)
  none_long_in_part r Q p e none k a b l = ⊎_elim (λ lt. none_before r k p a lt l)
      (λ up. let many = slice_length r Q p e in none (k - r.0) (omega (arith, many, up, b)) (in_slice r Q k e up b l))
      (order_of k r.0)

  pub long_in_part : (r : ℕ × ℕ) (Q : List (List (ℤ × ℤ))) (i : ℕ) → IsNextPart A place n r → Q ≡ take (r.1 - r.0) (drop r.0 P) → IsNextLong n Q 0 i → IsNextLong n P from (r.0 + i)
  long_in_part r Q i p e l =
      let many = slice_length r Q p e in
      let less = l.less in
      let here : i < r.1 - r.0 = omega (arith, many, less) in
      let low = p.from in
      let same = bounded_length A P h in
      let most = p.at_most in
      record {
        from = omega (arith, low, le);
        less = omega (arith, here, same, most);
        long = of_slice r Q i e here l.long;
        passed = λ k a lt m. ⊎_elim (λ b. none_before r k p a b m)
            (λ up. l.passed (k - r.0) (omega arith) (omega (arith, lt, up)) (in_slice r Q k e up (omega (arith, lt, here)) m))
            (order_of k r.0);
      }

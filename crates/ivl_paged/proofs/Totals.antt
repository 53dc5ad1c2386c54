-- How many members pages have together, by groups: what a change of the pages does to the number of a group.
use Rattle.std.proofs.Common.{◌≡◌, ◌⊎◌, ⊎_elim, inl, inr, ℕ, zero, suc, ◌+◌, ◌-◌, ◌*◌, ◌/◌, ◌%◌, ◌^◌, ◌<◌, ◌≤◌, ℤ, List, [], ◌∷◌, ◌++◌, length, length-append, length-take, get_or, take, take_all, drop, set, sum_by, refl, sym, ap, subst, ◌∙◌, append-nil, arith}
use Rattle.std.specs.Prelude.{min}
use Rattle.std.proofs.lemmas.List.{drop-set-lt, drop-take, get_or_past, get_or-set_other, get_or-set_same, length-set, take-append-drop, take-append-le, take-set-le, take-take}
use Rattle.std.proofs.lemmas.List.Sums.{sum_by-append}
use Rattle.ivl_laws.specs.Bounds.{width_of}
use Rattle.ivl_laws.specs.Counts.{IsCountOf}
use Rattle.ivl_laws.specs.Runs.{Covers, IsMaximal, IsRunListIn}
use Rattle.ivl_laws.proofs.Widths.{IsCountOf-total_width}
use Rattle.ivl_paged.specs.Pages.{flattened}
use Rattle.ivl_paged.specs.Sizes.{AreSizes, IsPageChange, member_total}
use Rattle.ivl_paged.proofs.Paging.{IsMaximal-taken, flattened-append, flattened_more, order_of}
use Rattle.ivl_paged.proofs.Reading.{counts_fit}

-- ---- totals

pub total-append : (P Q : List (List (ℤ × ℤ))) → member_total (P ++ Q) ≡ member_total P + member_total Q
total-append P Q = ap (λ (L : List (ℤ × ℤ)). sum_by width_of L) (flattened-append P Q) ∙ sum_by-append width_of (flattened P) (flattened Q)

pub total_of_none : (P : List (List (ℤ × ℤ))) → member_total (take 0 P) ≡ 0
total_of_none [] = refl
total_of_none (L ∷ P) = refl

pub total_next : (P : List (List (ℤ × ℤ))) (L d : List (ℤ × ℤ)) (i : ℕ) → i < length P → L ≡ get_or P i d → member_total (take (i + 1) P) ≡ member_total (take i P) + sum_by width_of L
total_next P L d i h e =
    ap (λ (M : List (ℤ × ℤ)). sum_by width_of M) (flattened_more P i d h)
    ∙ sum_by-append width_of (flattened (take i P)) (get_or P i d)
    ∙ ap (λ (M : List (ℤ × ℤ)). member_total (take i P) + sum_by width_of M) (sym e)

total_cut : (P : List (List (ℤ × ℤ))) (i : ℕ) → member_total P ≡ member_total (take i P) + member_total (drop i P)
total_cut P i = ap member_total (sym (take-append-drop i P)) ∙ total-append (take i P) (drop i P)

-- the pages from place i to before place j
pub total_part : (P : List (List (ℤ × ℤ))) (i j : ℕ) → i ≤ j → member_total (take j P) ≡ member_total (take i P) + member_total (take (j - i) (drop i P))
total_part P i j h =
    let same : i + (j - i) ≡ j = omega (arith, h) in
    let cut = total_cut (take j P) i in
    let low = ap member_total (take-take i j P h) in
    let high = ap (λ (n : ℕ). member_total (drop i (take n P))) (sym same) ∙ ap member_total (drop-take i (j - i) P) in
    omega (arith, cut, low, high)

pub total_rises : (P : List (List (ℤ × ℤ))) (i j : ℕ) → i ≤ j → member_total (take i P) ≤ member_total (take j P)
total_rises P i j h = let e = total_part P i j h in omega (arith, e)

pub total_of_all : (P : List (List (ℤ × ℤ))) (i : ℕ) → length P ≤ i → member_total (take i P) ≡ member_total P
total_of_all P i h = ap member_total (take_all i P h)

-- two places behind which nothing is
pub total_beyond : (P : List (List (ℤ × ℤ))) (i j : ℕ) → length P ≤ i → length P ≤ j → member_total (take i P) ≡ member_total (take j P)
total_beyond P i j h k = total_of_all P i h ∙ sym (total_of_all P j k)

-- ---- sums that wrap

wrap_more : (a f s n : ℕ) → a ≡ f % 2 ^ 128 → (f + s) % 2 ^ 128 ≡ n % 2 ^ 128 → (a + s) % 2 ^ 128 ≡ n % 2 ^ 128
wrap_more a f s n e h = omega (arith, e, h)

wrap_change : (f s n m b a : ℕ) → (f + s) % 2 ^ 128 ≡ n % 2 ^ 128 → m + b ≡ n + a → b < 2 ^ 128 → (f + ((s + a) % 2 ^ 128 + (2 ^ 128 - b)) % 2 ^ 128) % 2 ^ 128 ≡ m % 2 ^ 128
wrap_change f s n m b a h e fits = omega (arith, e, h, fits)

wrap_behind : (f s n k m b a : ℕ) → (f + s) % 2 ^ 128 ≡ n % 2 ^ 128 → k + b ≡ f + a → m + b ≡ n + a → (k + s) % 2 ^ 128 ≡ m % 2 ^ 128
wrap_behind f s n k m b a h e d = omega (arith, h, e, d)

wrap_sum : (f x n a t : ℕ) → a ≡ f % 2 ^ 128 → t ≡ x % 2 ^ 128 → n ≡ f + x → (a + t) % 2 ^ 128 ≡ n % 2 ^ 128
wrap_sum f x n a t e h d = omega (arith, e, h, d)

wrap_put : (f x n v : ℕ) → v ≡ x % 2 ^ 128 → n ≡ f + x → (f + v) % 2 ^ 128 ≡ n % 2 ^ 128
wrap_put f x n v h d = omega (arith, h, d)

-- a sum to a place, less that to a place before it
pub wrap_less : (f n x a b : ℕ) → a ≡ n % 2 ^ 128 → b ≡ f % 2 ^ 128 → n ≡ f + x → (a + (2 ^ 128 - b)) % 2 ^ 128 ≡ x % 2 ^ 128
wrap_less f n x a b e h d = omega (arith, e, h, d)

-- ---- numbers of groups

-- what a list of numbers says of group g
abbrev pub Adds : List ℕ → List (List (ℤ × ℤ)) → ℕ → Type 0
Adds S P g = (member_total (take (64 * g) P) + get_or S g 0) % 2 ^ 128 ≡ member_total (take (64 * g + 64) P) % 2 ^ 128

zero_behind : (S : List ℕ) (g : ℕ) → get_or (S ++ 0 ∷ []) g 0 ≡ get_or S g 0
zero_behind [] zero = refl
zero_behind [] (suc g) = refl
zero_behind (s ∷ S) zero = refl
zero_behind (s ∷ S) (suc g) = zero_behind S g

pub room_made : (S T : List ℕ) (P : List (List (ℤ × ℤ))) → T ≡ S ++ 0 ∷ [] → AreSizes S P → AreSizes T P
room_made S T P e h = subst (λ (R : List ℕ). AreSizes R P) (sym e) (record {
  enough = let n = length-append S (0 ∷ []) in let most = h.enough in omega (arith, n, most);
  adds = λ g. let same = zero_behind S g in let old = h.adds g in omega (arith, same, old);
})

-- page `place` is in group i, and v is the number of that group then
pub changed : (S : List ℕ) (P Q : List (List (ℤ × ℤ))) (place i b a v : ℕ) → i ≡ place / 64 → place < 64 * length S → b < 2 ^ 128 → v ≡ ((get_or S i 0 + a) % 2 ^ 128 + (2 ^ 128 - b)) % 2 ^ 128 →
    AreSizes S P → IsPageChange P place b a Q → AreSizes (set S i v) Q
changed S P Q place i b a v at less fits is h change = record {
  enough = let n = length-set S i v in let most = h.enough in ⊎_elim (λ le. omega (arith, n, most, le)) (λ e. omega (arith, n, e, less)) change.places;
  adds = λ g. ⊎_elim (low g) (λ le. ⊎_elim (high g) (λ ge. here g (omega (arith, le, ge))) (order_of i g)) (order_of g i);
}
  where
    low : (g : ℕ) → g < i → Adds (set S i v) Q g
    low g lt =
        let old = h.adds g in
        let same = get_or-set_other S i g v 0 (omega (arith, lt)) in
        let a = change.before (64 * g) (omega (arith, lt, at)) in
        let b = change.before (64 * g + 64) (omega (arith, lt, at)) in
        omega (arith, old, same, a, b)

    high : (g : ℕ) → i < g → Adds (set S i v) Q g
    high g gt =
        let same = get_or-set_other S i g v 0 (omega (arith, gt)) in
        rw same (wrap_behind _ _ _ _ _ b a (h.adds g) (change.behind (64 * g) (omega (arith, gt, at))) (change.behind (64 * g + 64) (omega (arith, gt, at))))

    here : (g : ℕ) → g ≡ i → Adds (set S i v) Q g
    here g e = subst (λ (k : ℕ). Adds (set S i v) Q k) (sym e) (
        let same = get_or-set_same S i v 0 (omega (arith, at, less)) in
        let low = change.before (64 * i) (omega (arith, at)) in
        let high = change.behind (64 * i + 64) (omega (arith, at)) in
        rw (same, is, low) (wrap_change _ _ _ _ b a (h.adds i) high fits))

-- no page before `place` has changed
pub kept_before : (S : List ℕ) (P Q : List (List (ℤ × ℤ))) (place : ℕ) → AreSizes S P → take place P ≡ take place Q → (g : ℕ) → g < place / 64 → Adds S Q g
kept_before S P Q place h e g lt =
    let old = h.adds g in
    let low = same (64 * g) (omega (arith, lt)) in
    let high = same (64 * g + 64) (omega (arith, lt)) in
    omega (arith, old, low, high)
  where
    same : (n : ℕ) → n ≤ place → member_total (take n Q) ≡ member_total (take n P)
    same n le = ap member_total (sym (take-take n place Q le) ∙ ap (λ (R : List (List (ℤ × ℤ))). take n R) (sym e) ∙ take-take n place P le)

total_up_to : (P : List (List (ℤ × ℤ))) (m n : ℕ) → (m ≡ n) ⊎ ((length P ≤ m) × (length P ≤ n)) → member_total (take m P) ≡ member_total (take n P)
total_up_to P m n (inl e) = ap (λ (k : ℕ). member_total (take k P)) e
total_up_to P m n (inr (h, k)) = total_beyond P m n h k

-- group i was read: from place s to before place e
pub read_more : (S : List ℕ) (P : List (List (ℤ × ℤ))) (i s e v : ℕ) → i < length S → s ≤ e → (s ≡ 64 * i) ⊎ ((length P ≤ s) × (length P ≤ 64 * i)) → (e ≡ 64 * i + 64) ⊎ ((length P ≤ e) × (length P ≤ 64 * i + 64)) →
    v ≡ member_total (take (e - s) (drop s P)) % 2 ^ 128 → ((g : ℕ) → g < i → Adds S P g) → (g : ℕ) → g < i + 1 → Adds (set S i v) P g
read_more S P i s e v there order start end is old g less = ⊎_elim before here (order_of g i)
  where
    before : g < i → Adds (set S i v) P g
    before lt = let same = get_or-set_other S i g v 0 (omega (arith, lt)) in rw same (old g lt)

    here : i ≤ g → Adds (set S i v) P g
    here le = let at : i ≡ g = omega (arith, le, less) in subst (λ (k : ℕ). Adds (set S i v) P k) at (
        let same = get_or-set_same S i v 0 there in
        let low = total_up_to P s (64 * i) start in
        let high = total_up_to P e (64 * i + 64) end in
        let part = total_part P s e order in
        rw same (wrap_put _ _ _ v is (omega (arith, low, high, part))))

pub read_all : (S : List ℕ) (P : List (List (ℤ × ℤ))) (i : ℕ) → length S ≤ i → length P ≤ 64 * length S → ((g : ℕ) → g < i → Adds S P g) → AreSizes S P
read_all S P i all most old = record {
  enough = most;
  adds = λ g. ⊎_elim (old g) (λ le. let none = get_or_past S g 0 (omega (arith, le, all)) in let same = total_beyond P (64 * g) (64 * g + 64) (omega (arith, le, all, most)) (omega (arith, le, all, most)) in omega (arith, none, same)) (order_of g i);
}

-- ---- a sum to a place

pub sum_begins : (P : List (List (ℤ × ℤ))) → 0 ≡ member_total (take (64 * 0) P) % 2 ^ 128
sum_begins P = let none = total_of_none P in omega (arith, none)

pub sum_goes : (S : List ℕ) (P : List (List (ℤ × ℤ))) (g a : ℕ) → AreSizes S P → a ≡ member_total (take (64 * g) P) % 2 ^ 128 → (a + get_or S g 0) % 2 ^ 128 ≡ member_total (take (64 * (g + 1)) P) % 2 ^ 128
sum_goes S P g a h e =
    let next : 64 * (g + 1) ≡ 64 * g + 64 = omega arith in
    wrap_more a _ _ _ e (h.adds g) ∙ ap (λ (n : ℕ). member_total (take n P) % 2 ^ 128) (sym next)

pub sum_ends : (P : List (List (ℤ × ℤ))) (g m place a t : ℕ) → m ≡ 64 * g → m ≤ place → a ≡ member_total (take (64 * g) P) % 2 ^ 128 → t ≡ member_total (take (place - m) (drop m P)) % 2 ^ 128 → (a + t) % 2 ^ 128 ≡ member_total (take place P) % 2 ^ 128
sum_ends P g m place a t at le e h =
    let part = total_part P m place le in
    wrap_sum (member_total (take m P)) _ _ a t (e ∙ ap (λ (n : ℕ). member_total (take n P) % 2 ^ 128) (sym at)) h part

-- one page more
pub page_summed : (P : List (List (ℤ × ℤ))) (L : List (ℤ × ℤ)) (i a n : ℕ) → i < length P → L ≡ get_or P i L → a ≡ member_total (take i P) % 2 ^ 128 → n ≡ sum_by width_of L → (a + n) % 2 ^ 128 ≡ member_total (take (i + 1) P) % 2 ^ 128
page_summed P L i a n h is e counted = let next = total_next P L L i h is in omega (arith, e, counted, next)

-- ---- changes of pages

pub page_set : (P : List (List (ℤ × ℤ))) (L M : List (ℤ × ℤ)) (i b a : ℕ) → i < length P → L ≡ get_or P i L → b ≡ sum_by width_of L → a ≡ sum_by width_of M → IsPageChange P i b a (set P i M)
page_set P L M i b a h is had has = record {
  places = inl (let n = length-set P i M in omega (arith, n));
  before = λ n le. ap member_total (take-set-le n P i M le);
  behind = λ n lt.
      let old = total_part P (i + 1) n (omega (arith, lt)) in
      let new = total_part (set P i M) (i + 1) n (omega (arith, lt)) in
      let one = total_next P L L i h is in
      let there = length-set P i M in
      let two = total_next (set P i M) M M i (omega (arith, there, h)) (sym (get_or-set_same P i M M h)) in
      let low = ap member_total (take-set-le i P i M (omega arith)) in
      let rest = ap (λ (Q : List (List (ℤ × ℤ))). member_total (take (n - (i + 1)) Q)) (drop-set-lt (i + 1) P i M (omega arith)) in
      omega (arith, old, new, one, two, low, rest, had, has);
}

pub page_pushed : (P : List (List (ℤ × ℤ))) (M : List (ℤ × ℤ)) (i a : ℕ) → i ≡ length P → a ≡ sum_by width_of M → IsPageChange P i 0 a (P ++ M ∷ [])
page_pushed P M i a is has = record {
  places = inr (let n = length-append P (M ∷ []) in omega (arith, n, is));
  before = λ n le. ap member_total (take-append-le n P (M ∷ []) (omega (arith, le, is)));
  behind = λ n lt.
      let all = length-append P (M ∷ []) in
      let new = total_of_all (P ++ M ∷ []) n (omega (arith, all, lt, is)) in
      let old = total_of_all P n (omega (arith, lt, is)) in
      let both = total-append P (M ∷ []) in
      let one = ap (λ (L : List (ℤ × ℤ)). sum_by width_of L) (append-nil M) in
      omega (arith, new, old, both, one, has);
}

-- ---- a sum of pages

pub pages_begin : (P : List (List (ℤ × ℤ))) → 0 ≡ member_total (take 0 P) % 2 ^ 128
pages_begin P = let none = total_of_none P in omega (arith, none)

pub pages_end : (P : List (List (ℤ × ℤ))) (i a : ℕ) → length P ≤ i → a ≡ member_total (take i P) % 2 ^ 128 → a ≡ member_total P % 2 ^ 128
pages_end P i a h e = e ∙ ap (λ (n : ℕ). n % 2 ^ 128) (total_of_all P i h)

-- ---- the places of a group, of n in all

pub group_start : (n i s : ℕ) → n < 2 ^ 64 → s ≡ min (min (i * 64) (2 ^ 64 - 1)) n → (s ≡ 64 * i) ⊎ ((n ≤ s) × (n ≤ 64 * i))
group_start n i s fits e = ⊎_elim (λ lt. inl (omega (arith, fits, e, lt))) (λ le. inr (omega (arith, fits, e, le), omega (arith, le))) (order_of (64 * i) n)

pub group_end : (n i s e : ℕ) → n < 2 ^ 64 → (s ≡ 64 * i) ⊎ ((n ≤ s) × (n ≤ 64 * i)) → e ≡ min (min (s + 64) (2 ^ 64 - 1)) n → (e ≡ 64 * i + 64) ⊎ ((n ≤ e) × (n ≤ 64 * i + 64))
group_end n i s e fits (inl at) is = ⊎_elim (λ lt. inl (omega (arith, fits, at, is, lt))) (λ le. inr (omega (arith, fits, at, is, le), omega (arith, le))) (order_of (64 * i + 64) n)
group_end n i s e fits (inr (h, k)) is = inr (omega (arith, fits, h, is), omega (arith, k))

-- ---- groups that are passed

total_at_most : (P : List (List (ℤ × ℤ))) (i : ℕ) → member_total (take i P) ≤ member_total P
total_at_most P i = let e = total_cut P i in omega (arith, e)

pub group_passed : (P : List (List (ℤ × ℤ))) (i from count reached base rest place : ℕ) → from / 64 ≤ i → from ≤ length P → member_total P < 2 ^ 128 + member_total (take from P) → base ≡ member_total (take from P) % 2 ^ 128 →
    reached ≡ member_total (take (64 * (i + 1)) P) % 2 ^ 128 → (reached + (2 ^ 128 - base)) % 2 ^ 128 ≤ count → rest ≡ count - (reached + (2 ^ 128 - base)) % 2 ^ 128 → place ≡ min (64 * (i + 1)) (length P) →
    (from ≤ place) × (place ≤ length P) × (member_total (take place P) + rest ≡ member_total (take from P) + count)
group_passed P i from count reached base rest place low most exact b r enough left at =
    let order : from ≤ 64 * (i + 1) = omega (arith, low) in
    let rises = total_rises P from (64 * (i + 1)) order in
    let all = total_at_most P (64 * (i + 1)) in
    let there = total_up_to P place (64 * (i + 1)) (⊎_elim (λ lt. inl (omega (arith, at, lt))) (λ le. inr (omega (arith, at, le), le)) (order_of (64 * (i + 1)) (length P))) in
    let less : (reached + (2 ^ 128 - base)) % 2 ^ 128 + member_total (take from P) ≡ member_total (take (64 * (i + 1)) P) = exactly (member_total (take from P)) (member_total (take (64 * (i + 1)) P)) reached base rises (omega (arith, all, exact)) b r in
    (omega (arith, at, order, most), omega (arith, at), omega (arith, there, less, enough, left))
  where
    exactly : (f n a b : ℕ) → f ≤ n → n < 2 ^ 128 + f → b ≡ f % 2 ^ 128 → a ≡ n % 2 ^ 128 → (a + (2 ^ 128 - b)) % 2 ^ 128 + f ≡ n
    exactly f n a b le lt e h = omega (arith, le, lt, e, h)

-- ---- numbers of groups of a list of pages, of which the first may be gone

pub sizes_as : (S T : List ℕ) (P Q : List (List (ℤ × ℤ))) → T ≡ S → Q ≡ P → AreSizes S P → AreSizes T Q
sizes_as S T P Q e f h = subst (λ (R : List ℕ). AreSizes R Q) (sym e) (subst (λ (R : List (List (ℤ × ℤ))). AreSizes S R) (sym f) h)

pub kept_cut : {X : Type 0} (xs ys zs : List X) (n : ℕ) → n ≤ length xs → zs ≡ take n xs ++ ys → take n xs ≡ take n zs
kept_cut xs ys zs n h e = let same = length-take n xs in
    sym (ap (λ vs. take n vs) e ∙ take-append-le n (take n xs) ys (omega (arith, same, h)) ∙ take-take n n xs (omega arith))

pub kept_split : {X : Type 0} (xs zs : List X) (m n : ℕ) (x y : X) → m < n → m < length xs → zs ≡ set (take n xs ++ y ∷ drop n xs) m x → take m xs ≡ take m zs
kept_split xs zs m n x y less there e = let same = length-take n xs in
    sym (ap (λ vs. take m vs) e ∙ take-set-le m (take n xs ++ y ∷ drop n xs) m x (omega arith) ∙ take-append-le m (take n xs) (y ∷ drop n xs) (omega (arith, same, less, there)) ∙ take-take m n xs (omega (arith, less)))

pub kept_none : {X : Type 0} (xs zs : List X) → take 0 xs ≡ take 0 zs
kept_none [] [] = refl
kept_none [] (z ∷ zs) = refl
kept_none (x ∷ xs) [] = refl
kept_none (x ∷ xs) (z ∷ zs) = refl

pub total_behind : (P : List (List (ℤ × ℤ))) (g i : ℕ) → member_total (take (g + i) P) ≡ member_total (take g P) + member_total (take i (drop g P))
total_behind P g i = total_part P g (g + i) (omega arith) ∙ ap (λ (n : ℕ). member_total (take g P) + member_total (take n (drop g P))) (omega arith)

pub total_before : (P Q : List (List (ℤ × ℤ))) (g i a b : ℕ) → drop g P ≡ Q → a ≡ member_total (take (g + i) P) % 2 ^ 128 → b ≡ member_total (take g P) % 2 ^ 128 → (a + (2 ^ 128 - b)) % 2 ^ 128 ≡ member_total (take i Q) % 2 ^ 128
total_before P Q g i a b view e h = subst (λ (R : List (List (ℤ × ℤ))). (a + (2 ^ 128 - b)) % 2 ^ 128 ≡ member_total (take i R) % 2 ^ 128) view (wrap_less _ _ _ a b e h (total_behind P g i))

-- the members of the pages that are not gone
pub total_left : (P Q : List (List (ℤ × ℤ))) (g : ℕ) → drop g P ≡ Q → member_total P ≡ member_total (take g P) + member_total Q
total_left P Q g view = total_cut P g ∙ ap (λ (R : List (List (ℤ × ℤ))). member_total (take g P) + member_total R) view

-- place m, from place g on, and what is left behind it
pub left_behind : (P Q : List (List (ℤ × ℤ))) (g m left count : ℕ) → drop g P ≡ Q → g ≤ m → member_total (take m P) + left ≡ member_total (take g P) + count → member_total (take (m - g) Q) + left ≡ count
left_behind P Q g m left count view le e =
    let part = total_part P g m le in
    let same = ap (λ (R : List (List (ℤ × ℤ))). member_total (take (m - g) R)) view in
    omega (arith, part, same, e)

-- ---- what the numbers say of a set

pub total_counts : (P : List (List (ℤ × ℤ))) (i : ℕ) → IsMaximal (flattened P) → IsCountOf (member_total (take i P)) (Covers (flattened (take i P)))
total_counts P i m = IsCountOf-total_width (flattened (take i P)) (IsMaximal-taken P i m)

-- no number of the type is too small for the members
module _ (whole : ℤ × ℤ) (P : List (List (ℤ × ℤ))) (greatest : ℕ) (runs : IsRunListIn whole (flattened P)) (countable : width_of whole ≤ greatest) (bounded : greatest < 2 ^ 128) where
  pub total_fits : (i : ℕ) → member_total (take i P) ≤ greatest
  total_fits i = counts_fit whole P i (member_total (take i P)) greatest runs countable (total_counts P i runs.maximal)

  pub all_fit : member_total P < 2 ^ 128
  all_fit = let e = total_of_all P (length P) (omega arith) in let most = total_fits (length P) in omega (arith, e, most, bounded)

  pub total_exact : (i s : ℕ) → s ≡ member_total (take i P) % 2 ^ 128 → s ≡ member_total (take i P)
  total_exact i s e = let most = total_fits i in omega (arith, e, most, bounded)

  pub size_fits : (i s : ℕ) → s ≡ member_total (take i P) % 2 ^ 128 → s ≤ greatest
  size_fits i s e = let most = total_fits i in let same = total_exact i s e in omega (arith, most, same)

  pub size_counts : (i s n : ℕ) → s ≡ member_total (take i P) % 2 ^ 128 → n ≡ s → IsCountOf n (Covers (flattened (take i P)))
  size_counts i s n e f = subst (λ (k : ℕ). IsCountOf k (Covers (flattened (take i P)))) (sym (f ∙ total_exact i s e)) (total_counts P i runs.maximal)

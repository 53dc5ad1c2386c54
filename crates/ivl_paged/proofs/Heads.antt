-- Pages beside their least members: what an edit of both lists keeps, and what a search among the least members finds.
use Rattle.std.proofs.Common.{◌≡◌, ℕ, zero, suc, ◌<◌, ◌≤◌, ℤ, ◌≤ℤ◌, ◌<ℤ◌, List, [], ◌∷◌, ◌++◌, ◌⊎◌, ◌↔◌, Bool, true, false, cond, IsTrue, ⊎_elim, inl, inr, length, get_or, take, drop, set, refl, sym, ap, subst, ◌∙◌, arith}
use Rattle.std.specs.Int.{int_min}
use Rattle.std.proofs.lemmas.Int.{ints, by_lt_z, clamps}
use Rattle.std.proofs.lemmas.List.{get_or_default}
use Rattle.ivl_laws.specs.Families.{set_at}
use Rattle.ivl_laws.specs.Sets.{IsBetween, SameMembers, Union, Without}
use Rattle.ivl_laws.specs.Runs.{Covers, IsMaximal}
use Rattle.ivl_places.specs.Neighbours.{IsLeast}
use Rattle.ivl_paged.specs.Pages.{AreHeads, IsPageSpan, StartsUpTo, flattened}
use Rattle.ivl_paged.proofs.Reading.{beyond}
use Rattle.ivl_paged.proofs.Paging.{covers_page, order_of, page_of, pages_ascend}

-- ---- both lists after an edit

module _ {X : Type 0} (value : X → ℤ) where
  pub heads_length : (H : List X) (P : List (List (ℤ × ℤ))) → AreHeads value H P → length H ≡ length P
  heads_length [] [] h = refl
  heads_length [] (L ∷ P) h = absurd h
  heads_length (x ∷ H) [] h = absurd h
  heads_length (x ∷ H) (L ∷ P) h = let e = heads_length H P h.1 in omega (arith, e)

  -- Q is the same list of pages, as a caller sees it
  pub heads_there : (H : List X) (P Q : List (List (ℤ × ℤ))) (i : ℕ) → AreHeads value H P → P ≡ Q → i < length Q → i < length H
  heads_there H P Q i h e less = let same = heads_length H P h in let view = ap (λ (R : List (List (ℤ × ℤ))). length R) e in omega (arith, same, view, less)

  pub head_at : (H : List X) (P : List (List (ℤ × ℤ))) (i : ℕ) (d : X) → AreHeads value H P → i < length P → IsLeast (value (get_or H i d)) (set_at P i)
  head_at [] [] i d h less = absurd (omega arith)
  head_at [] (L ∷ P) i d h less = absurd h
  head_at (x ∷ H) [] i d h less = absurd h
  head_at (x ∷ H) (L ∷ P) zero d h less = h.0
  head_at (x ∷ H) (L ∷ P) (suc i) d h less = head_at H P i d h.1 (omega arith)

  pub heads_set : (H : List X) (P : List (List (ℤ × ℤ))) (i : ℕ) (x : X) (L : List (ℤ × ℤ)) → AreHeads value H P → IsLeast (value x) (Covers L) → AreHeads value (set H i x) (set P i L)
  heads_set [] [] i x L h l = h
  heads_set [] (M ∷ P) i x L h l = absurd h
  heads_set (y ∷ H) [] i x L h l = absurd h
  heads_set (y ∷ H) (M ∷ P) zero x L h l = (l, h.1)
  heads_set (y ∷ H) (M ∷ P) (suc i) x L h l = (h.0, heads_set H P i x L h.1 l)

  pub heads_append : (H K : List X) (P Q : List (List (ℤ × ℤ))) → AreHeads value H P → AreHeads value K Q → AreHeads value (H ++ K) (P ++ Q)
  heads_append [] K [] Q h k = k
  heads_append [] K (L ∷ P) Q h k = absurd h
  heads_append (x ∷ H) K [] Q h k = absurd h
  heads_append (x ∷ H) K (L ∷ P) Q h k = (h.0, heads_append H K P Q h.1 k)

  pub heads_take : (H : List X) (P : List (List (ℤ × ℤ))) (i : ℕ) → AreHeads value H P → AreHeads value (take i H) (take i P)
  heads_take H P zero h = tt
  heads_take [] [] (suc i) h = tt
  heads_take [] (L ∷ P) (suc i) h = absurd h
  heads_take (x ∷ H) [] (suc i) h = absurd h
  heads_take (x ∷ H) (L ∷ P) (suc i) h = (h.0, heads_take H P i h.1)

  pub heads_drop : (H : List X) (P : List (List (ℤ × ℤ))) (i : ℕ) → AreHeads value H P → AreHeads value (drop i H) (drop i P)
  heads_drop H P zero h = h
  heads_drop [] [] (suc i) h = tt
  heads_drop [] (L ∷ P) (suc i) h = absurd h
  heads_drop (x ∷ H) [] (suc i) h = absurd h
  heads_drop (x ∷ H) (L ∷ P) (suc i) h = heads_drop H P i h.1

  pub heads_push : (H : List X) (P : List (List (ℤ × ℤ))) (x : X) (L : List (ℤ × ℤ)) → AreHeads value H P → IsLeast (value x) (Covers L) → AreHeads value (H ++ x ∷ []) (P ++ L ∷ [])
  heads_push H P x L h l = heads_append H (x ∷ []) P (L ∷ []) h (l, tt)

  pub heads_insert : (H : List X) (P : List (List (ℤ × ℤ))) (i : ℕ) (x : X) (L : List (ℤ × ℤ)) → AreHeads value H P → IsLeast (value x) (Covers L) →
      AreHeads value (take i H ++ x ∷ drop i H) (take i P ++ L ∷ drop i P)
  heads_insert H P i x L h l = heads_append (take i H) (x ∷ drop i H) (take i P) (L ∷ drop i P) (heads_take H P i h) (l, heads_drop H P i h)

  pub heads_without : (H : List X) (P : List (List (ℤ × ℤ))) (i j : ℕ) → AreHeads value H P → AreHeads value (take i H ++ drop j H) (take i P ++ drop j P)
  heads_without H P i j h = heads_append (take i H) (drop j H) (take i P) (drop j P) (heads_take H P i h) (heads_drop H P j h)

-- page i of P, of which Q is the same list, as it is lent
pub lent_page : (P Q : List (List (ℤ × ℤ))) (L : List (ℤ × ℤ)) (i : ℕ) → P ≡ Q → i < length Q → L ≡ get_or P i L → L ≡ get_or Q i []
lent_page P Q L i same less e = e ∙ get_or_default P i L [] (subst (λ (R : List (List (ℤ × ℤ))). i < length R) (sym same) less) ∙ ap (λ (R : List (List (ℤ × ℤ))). get_or R i []) same

-- ---- the next page tells where a search for a higher number ends

pub starts_up_to_more : (P : List (List (ℤ × ℤ))) (u v : ℤ) (n : ℕ) → u ≤ℤ v → StartsUpTo P u n → ((k : ℕ) (z : ℤ) → n ≤ k → set_at P k z → v <ℤ z) → StartsUpTo P v n
starts_up_to_more P u v n le s above = record {
  at_most = s.at_most;
  starts = λ some. let (z, c, up) = s.starts some in (z, c, omega (arith, ints, up, le));
  above = above;
}

pub starts_up_to_all : (P : List (List (ℤ × ℤ))) (u v : ℤ) (n : ℕ) → u ≤ℤ v → StartsUpTo P u n → length P ≤ n → StartsUpTo P v n
starts_up_to_all P u v n le s all = starts_up_to_more P u v n le s (λ k z h c. absurd (beyond P k z (omega (arith, h, all)) c))

-- h is the least number of the next page
pub starts_up_to_next : (P : List (List (ℤ × ℤ))) (u v h : ℤ) (n : ℕ) → IsMaximal (flattened P) → u ≤ℤ v → StartsUpTo P u n → IsLeast h (set_at P n) → v <ℤ h → StartsUpTo P v n
starts_up_to_next P u v h n m le s here lt = starts_up_to_more P u v n le s (λ k z o c. ⊎_elim
    (λ far. let x = pages_ascend P n k h z m far here.0 c in omega (arith, ints, x, lt))
    (λ near. let same : k ≡ n = omega (arith, o, near) in let x = here.1 z (subst (λ (j : ℕ). set_at P j z) same c) in omega (arith, ints, x, lt))
    (order_of n k))

-- ---- the page that may have the first number of an interval, and what a test of it tells of all

pub first_in_page : (P : List (List (ℤ × ℤ))) (u v : ℤ) (i j : ℕ) → IsPageSpan P u v i j → Covers (flattened P) u → set_at P i u
first_in_page P u v i j s c =
    let (k, h, a) = page_of P u c in
    ⊎_elim
    (λ lt. absurd (let far = s.below k u lt a in omega (arith, ints, far)))
    (λ le. ⊎_elim
    (λ lt. absurd (let far = s.from k u lt a in omega (arith, ints, far)))
    (λ same. subst (λ (l : ℕ). set_at P l u) (omega (arith, le, same)) a)
    (order_of i k))
    (order_of k i)

pub test_in_page : (P : List (List (ℤ × ℤ))) (L : List (ℤ × ℤ)) (i : ℕ) (v w : ℤ) (t : Bool) → L ≡ get_or P i [] → v ≡ w → (IsTrue t ↔ Covers L v) → IsTrue t ↔ set_at P i w
test_in_page P L i v w t e f k = subst (λ (x : ℤ). IsTrue t ↔ set_at P i x) f (subst (λ (M : List (ℤ × ℤ)). IsTrue t ↔ Covers M v) e k)

pub test_of_all : (P : List (List (ℤ × ℤ))) (u v w : ℤ) (i j : ℕ) (t : Bool) → IsPageSpan P u v i j → u ≡ w → (IsTrue t ↔ set_at P i w) → IsTrue t ↔ Covers (flattened P) w
test_of_all P u v w i j t s e k = subst (λ (x : ℤ). IsTrue t ↔ Covers (flattened P) x) e (
  (λ h. covers_page P i u (subst (λ (x : ℤ). set_at P i x) (sym e) (k.0 h))),
  (λ c. k.1 (subst (λ (x : ℤ). set_at P i x) e (first_in_page P u v i j s c))),
)

-- ---- the page that has the least of all

pub least_in_first : (P : List (List (ℤ × ℤ))) (v : ℤ) → IsMaximal (flattened P) → IsLeast v (set_at P 0) → IsLeast v (Covers (flattened P))
least_in_first P v m l = (
  covers_page P 0 v l.0,
  λ z c. let (k, h, a) = page_of P z c in ⊎_elim
      (λ lt. let far = pages_ascend P 0 k v z m lt l.0 a in omega (arith, ints, far))
      (λ none. l.1 z (subst (λ (j : ℕ). set_at P j z) (omega (arith, none)) a))
      (order_of 0 k),
)

pub span_of_least : (P : List (List (ℤ × ℤ))) (v : ℤ) → IsMaximal (flattened P) → 0 < length P → IsLeast v (set_at P 0) → IsPageSpan P v v 0 1
span_of_least P v m some l = record {
  in_order = omega arith;
  at_most = omega (arith, some);
  below = λ k z h c. absurd (omega (arith, h));
  from = λ k z h c. let far = pages_ascend P 0 k v z m h l.0 c in omega (arith, ints, far);
  to = λ k z h c. absurd (omega (arith, h));
  above = λ k z h c. let far = pages_ascend P 0 k v z m (omega (arith, h)) l.0 c in omega (arith, ints, far);
  last = λ several. absurd (omega (arith, several));
}

-- ---- the least number of a page after an edit

pub lower_of : (h l x : ℤ) → x ≡ int_min h l → (x ≤ℤ h) × (x ≤ℤ l) × ((x ≡ h) ⊎ (x ≡ l))
lower_of h l x e = (
  omega (arith, ints, clamps, e),
  omega (arith, ints, clamps, e),
  by_lt_z h l (λ lt. inl (omega (arith, ints, clamps, e, lt))) (λ le. inr (omega (arith, ints, clamps, e, le))),
)

pub least_of_union : (S T : ℤ → Type 0) (p : ℤ × ℤ) (h x : ℤ) → p.0 ≤ℤ p.1 → IsLeast h S → SameMembers T (Union S (IsBetween p)) → (x ≤ℤ h) × (x ≤ℤ p.0) × ((x ≡ h) ⊎ (x ≡ p.0)) → IsLeast x T
least_of_union S T p h x filled l same (a, b, which) = (
  (same x).1 (⊎_elim (λ e. inl (subst S (sym e) l.0)) (λ e. inr (omega (arith, ints, e), omega (arith, ints, e, filled))) which),
  λ z c. ⊎_elim (λ s. let le = l.1 z s in omega (arith, ints, a, le)) (λ t. let low = t.0 in omega (arith, ints, b, low)) ((same z).0 c),
)

pub least_is_kept : (S T : ℤ → Type 0) (p : ℤ × ℤ) (h : ℤ) → IsLeast h S → SameMembers T (Without S (IsBetween p)) → h <ℤ p.0 → IsLeast h T
least_is_kept S T p h l same lt = ((same h).1 (l.0, λ b. let low = b.0 in omega (arith, ints, lt, low)), λ z c. l.1 z ((same z).0 c).0)

-- what a search has taken last stays up to the value
pub chosen_up_to : {X : Type 0} (value : X → ℤ) (v : ℤ) (h l r : X) (t : Bool) → (IsTrue t → value h ≤ℤ v) → value l ≤ℤ v → r ≡ cond t h l → value r ≤ℤ v
chosen_up_to value v h l r true up le e = subst (λ x. value x ≤ℤ v) (sym e) (up refl)
chosen_up_to value v h l r false up le e = subst (λ x. value x ≤ℤ v) (sym e) le

-- The members of pages from a number on.
use Rattle.std.proofs.Common.{◌≡◌, ⊎_elim, ℕ, ◌+◌, ◌-◌, ◌<◌, ◌≤◌, ℤ, List, [], ◌∷◌, ◌++◌, length, get_or, take, drop, sym, ap, subst, ◌∙◌, arith, append_assoc, append-nil}
use Rattle.std.proofs.lemmas.Int.{ints}
use Rattle.ivl_laws.specs.Families.{set_at}
use Rattle.ivl_laws.specs.Sets.{AtLeast}
use Rattle.ivl_laws.specs.Runs.{Covers, IsMaximal, IsRunsOf}
use Rattle.ivl_laws.proofs.Merging.{covers-append, covers-append_left, covers-append_right}
use Rattle.ivl_walks.proofs.MergeState.{IsMaximal-append}
use Rattle.ivl_paged.specs.Pages.{StartsUpTo, flattened}
use Rattle.ivl_paged.proofs.Paging.{IsMaximal-dropped, covers_dropped, covers_page, dropped_covers, ends_below, flattened-append, flattened_more, order_of, page_of, pages_ascend}

-- ---- copies put behind what there is

pub copied_none : (P Q : List (List (ℤ × ℤ))) → flattened Q ≡ flattened Q ++ flattened (take 0 P)
copied_none P Q = sym (append-nil (flattened Q))

pub copied_further : (P Q : List (List (ℤ × ℤ))) (A L d : List (ℤ × ℤ)) (i : ℕ) → i < length P → flattened Q ≡ A ++ flattened (take i P) → L ≡ get_or P i d → flattened (Q ++ L ∷ []) ≡ A ++ flattened (take (i + 1) P)
copied_further P Q A L d i h e f =
    flattened-append Q (L ∷ [])
    ∙ ap (λ (K : List (ℤ × ℤ)). flattened Q ++ K) (append-nil L ∙ f)
    ∙ ap (λ (K : List (ℤ × ℤ)). K ++ get_or P i d) e
    ∙ append_assoc A (flattened (take i P)) (get_or P i d)
    ∙ ap (λ (K : List (ℤ × ℤ)). A ++ K) (sym (flattened_more P i d h))

-- ---- the members from v on

-- of the n pages that start up to v only the last has some, which are those of H
module _ (P : List (List (ℤ × ℤ))) (L H D : List (ℤ × ℤ)) (v : ℤ) (n : ℕ) (m : IsMaximal (flattened P)) (s : StartsUpTo P v n) (rest : D ≡ flattened (drop n P)) where
  in_rest : (z : ℤ) → Covers D z → (k : ℕ) × (n ≤ k) × set_at P k z
  in_rest z c = covers_dropped P n z (subst (λ (K : List (ℤ × ℤ)). Covers K z) rest c)

  pub members_above : 0 < n → L ≡ get_or P (n - 1) [] → IsRunsOf H (AtLeast v (Covers L)) → IsRunsOf (H ++ D) (AtLeast v (Covers (flattened P)))
  members_above some is r = record {
    maximal = IsMaximal-append H D r.maximal (subst IsMaximal (sym rest) (IsMaximal-dropped P n m))
        (λ x y c d. let (k, le, a) = in_rest y d in pages_ascend P (n - 1) k x y m (omega (arith, some, le)) (in_last x ((r.members x).0 c).0) a);
    members = λ z. (
      (λ c. ⊎_elim
          (λ a. let b = (r.members z).0 a in (covers_page P (n - 1) z (in_last z b.0), b.1))
          (λ a. let (k, le, d) = in_rest z a in let far = s.above k z le d in (covers_page P k z d, omega (arith, ints, far)))
          (covers-append H D z c)),
      (λ (c, up). let (k, less, d) = page_of P z c in
          ⊎_elim
          (λ before. absurd (let far = ends_below P v n k z m s before d in omega (arith, ints, far, up)))
          (λ behind. ⊎_elim
          (λ here. covers-append_left H D z ((r.members z).1 (subst (λ (K : List (ℤ × ℤ)). Covers K z) (sym is) (subst (λ (j : ℕ). set_at P j z) (omega (arith, here, behind)) d), up)))
          (λ more. covers-append_right H D z (subst (λ (K : List (ℤ × ℤ)). Covers K z) (sym rest) (dropped_covers P n k z more d)))
          (order_of k n))
          (order_of (k + 1) n)),
    );
  }
    where
      in_last : (z : ℤ) → Covers L z → set_at P (n - 1) z
      in_last z c = subst (λ (K : List (ℤ × ℤ)). Covers K z) is c

-- all pages lie above v
pub all_above : (P : List (List (ℤ × ℤ))) (K : List (ℤ × ℤ)) (v : ℤ) (n : ℕ) → IsMaximal (flattened P) → StartsUpTo P v n → n ≡ 0 → K ≡ flattened P → IsRunsOf K (AtLeast v (Covers (flattened P)))
all_above P K v n m s none e = subst (λ (M : List (ℤ × ℤ)). IsRunsOf M (AtLeast v (Covers (flattened P)))) (sym e) (record {
  maximal = m;
  members = λ z. (
    (λ c. let (k, less, d) = page_of P z c in let far = s.above k z (omega (arith, none)) d in (c, omega (arith, ints, far))),
    (λ (c, up). c),
  );
})

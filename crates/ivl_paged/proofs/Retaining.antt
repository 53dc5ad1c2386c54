-- The runs that a test keeps.
use Rattle.std.proofs.Common.{◌≡◌, ⊎_elim, inl, inr, ℤ, pos, ◌+ℤ◌, ◌≤ℤ◌, Bool, true, false, List, [], ◌∷◌, ◌++◌, length, length-append, refl, sym, ap, subst, ◌∙◌, arith, append_assoc, append-nil}
use Rattle.std.specs.List.{items_where_true}
use Rattle.std.specs.List.Retain.{IsFiltered, ReturnsInTurn}
use Rattle.std.proofs.lemmas.Int.{ints}
use Rattle.ivl_laws.specs.Sets.{IsSubset}
use Rattle.ivl_laws.specs.Runs.{Covers, IsMaximal, IsRunListIn, StartsAfter}
use Rattle.ivl_paged.proofs.Paging.{IsMaximal-first, IsMaximal-second}

-- ---- one more answer

items_more : {X : Type 0} (bs : List Bool) (xs : List X) (x : X) (b : Bool) → length bs ≡ length xs → items_where_true (bs ++ b ∷ []) (xs ++ x ∷ []) ≡ items_where_true bs xs ++ items_where_true (b ∷ []) (x ∷ [])
items_more [] [] x b e = refl
items_more [] (y ∷ xs) x b e = absurd (omega arith)
items_more (a ∷ bs) [] x b e = absurd (omega arith)
items_more (true ∷ bs) (y ∷ xs) x b e = ap (λ l. y ∷ l) (items_more bs xs x b (omega arith))
items_more (false ∷ bs) (y ∷ xs) x b e = items_more bs xs x b (omega arith)

module _ {X P : Type 0} (R : P → X → Bool → P → Type 0) where
  returns_more : (p q u : P) (bs : List Bool) (xs : List X) (x : X) (b : Bool) → length bs ≡ length xs → ReturnsInTurn R p bs xs q → R q x b u → ReturnsInTurn R p (bs ++ b ∷ []) (xs ++ x ∷ []) u
  returns_more p q u [] [] x b e h r = (u, subst (λ s. R s x b u) (sym h) r, refl)
  returns_more p q u [] (y ∷ xs) x b e h r = absurd (omega arith)
  returns_more p q u (a ∷ bs) [] x b e h r = absurd (omega arith)
  returns_more p q u (a ∷ bs) (y ∷ xs) x b e h r = (h.0, h.1, returns_more h.0 q u bs xs x b (omega arith) h.2 r)

  -- a test that started as p, and is now q, was called at the items of all that are not left, and kept has those that it keeps
  pub record IsKeptSoFar (p q : P) (all left kept : List X) : Type 0 where
    pub taken : List X
    pub parts : all ≡ taken ++ left
    pub answers : List Bool
    pub counted : length answers ≡ length taken
    pub calls : ReturnsInTurn R p answers taken q
    pub picked : kept ≡ items_where_true answers taken

  pub none_kept : (p : P) (all left kept : List X) → left ≡ all → kept ≡ [] → IsKeptSoFar p p all left kept
  none_kept p all left kept e f = record { taken = []; parts = sym e; answers = []; counted = refl; calls = refl; picked = f }

  kept_more : (p q u : P) (all left rest kept : List X) (x : X) (b : Bool) → IsKeptSoFar p q all left kept → left ≡ x ∷ rest → R q x b u →
      IsKeptSoFar p u all rest (kept ++ items_where_true (b ∷ []) (x ∷ []))
  kept_more p q u all left rest kept x b s e r = record {
    taken = s.taken ++ x ∷ [];
    parts = s.parts ∙ ap (λ (l : List X). s.taken ++ l) e ∙ sym (append_assoc s.taken (x ∷ []) rest);
    answers = s.answers ++ b ∷ [];
    counted = let c = s.counted in omega (arith, length-append s.answers (b ∷ []), length-append s.taken (x ∷ []));
    calls = returns_more p q u s.answers s.taken x b s.counted s.calls r;
    picked = ap (λ (l : List X). l ++ items_where_true (b ∷ []) (x ∷ [])) s.picked ∙ sym (items_more s.answers s.taken x b s.counted);
  }

  pub one_kept : (p q u : P) (all left rest kept : List X) (x : X) → IsKeptSoFar p q all left kept → left ≡ x ∷ rest → R q x true u → IsKeptSoFar p u all rest (kept ++ x ∷ [])
  one_kept p q u all left rest kept x s e r = kept_more p q u all left rest kept x true s e r

  pub one_passed : (p q u : P) (all left rest kept : List X) (x : X) → IsKeptSoFar p q all left kept → left ≡ x ∷ rest → R q x false u → IsKeptSoFar p u all rest kept
  one_passed p q u all left rest kept x s e r = subst (IsKeptSoFar p u all rest) (append-nil kept) (kept_more p q u all left rest kept x false s e r)

  pub all_kept : (p q : P) (all left kept : List X) → IsKeptSoFar p q all left kept → left ≡ [] → IsFiltered R p all kept
  all_kept p q all left kept s e =
      let taken : all ≡ s.taken = s.parts ∙ ap (λ (l : List X). s.taken ++ l) e ∙ append-nil s.taken in
      subst (λ (l : List X). IsFiltered R p l kept) (sym taken) (s.answers, q, s.counted, s.calls, s.picked)

-- a call at the two values that have the numbers of a pair
pub asked_at : {F X : Type 0} (step : F → X → X → Bool → F → Type 0) (value : X → ℤ) (at : ℤ → X) → ((x : X) → at (value x) ≡ x) → (f g : F) (x y : X) (p : ℤ × ℤ) (r b : Bool) →
    value x ≡ p.0 → value y ≡ p.1 → r ≡ b → step f x y r g → step f (at p.0) (at p.1) b g
asked_at step value at same f g x y p r b low high e h =
    let first : x ≡ at p.0 = sym (same x) ∙ ap at low in
    let second : y ≡ at p.1 = sym (same y) ∙ ap at high in
    subst (λ a. step f a (at p.1) b g) first (subst (λ a. step f x a b g) second (subst (λ a. step f x y a g) e h))

-- ---- the runs that are kept

later_start : (u : ℤ) (p : ℤ × ℤ) (L : List (ℤ × ℤ)) → IsMaximal (p ∷ L) → (u +ℤ pos 2) ≤ℤ p.0 → StartsAfter u L
later_start u p [] m h = tt
later_start u p (q ∷ L) m h = let open_p = m.0 in let next = m.1 in omega (arith, ints, open_p, next, h)

StartsAfter-picked : (u : ℤ) (bs : List Bool) (L : List (ℤ × ℤ)) → IsMaximal L → StartsAfter u L → StartsAfter u (items_where_true bs L)
StartsAfter-picked u [] L m s = tt
StartsAfter-picked u (b ∷ bs) [] m s = tt
StartsAfter-picked u (true ∷ bs) (p ∷ L) m s = s
StartsAfter-picked u (false ∷ bs) (p ∷ L) m s = StartsAfter-picked u bs L m.2 (later_start u p L m s)

IsMaximal-picked : (bs : List Bool) (L : List (ℤ × ℤ)) → IsMaximal L → IsMaximal (items_where_true bs L)
IsMaximal-picked [] L m = tt
IsMaximal-picked (b ∷ bs) [] m = tt
IsMaximal-picked (true ∷ bs) (p ∷ L) m = (m.0, StartsAfter-picked p.1 bs L m.2 m.1, IsMaximal-picked bs L m.2)
IsMaximal-picked (false ∷ bs) (p ∷ L) m = IsMaximal-picked bs L m.2

covers-picked : (bs : List Bool) (L : List (ℤ × ℤ)) → IsSubset (Covers (items_where_true bs L)) (Covers L)
covers-picked [] L z c = absurd c
covers-picked (b ∷ bs) [] z c = absurd c
covers-picked (true ∷ bs) (p ∷ L) z c = ⊎_elim (λ a. inl a) (λ d. inr (covers-picked bs L z d)) c
covers-picked (false ∷ bs) (p ∷ L) z c = inr (covers-picked bs L z c)

module _ {P : Type 0} (R : P → ℤ × ℤ → Bool → P → Type 0) where
  pub IsRunListIn-filtered : (whole : ℤ × ℤ) (p : P) (L N : List (ℤ × ℤ)) → IsRunListIn whole L → IsFiltered R p L N → IsRunListIn whole N
  IsRunListIn-filtered whole p L N w f = subst (IsRunListIn whole) (sym f.4) (record {
    maximal = IsMaximal-picked f.0 L w.maximal;
    within = λ z c. w.within z (covers-picked f.0 L z c);
  })

  pub IsMaximal-kept : (p q : P) (all left kept : List (ℤ × ℤ)) → IsMaximal all → IsKeptSoFar R p q all left kept → IsMaximal kept
  IsMaximal-kept p q all left kept m s = subst IsMaximal (sym s.picked) (IsMaximal-picked s.answers s.taken (IsMaximal-first s.taken left (subst IsMaximal s.parts m)))

  -- of two parts of what is kept, the second with one more run
  pub IsMaximal-one_more : (p q u : P) (all left rest A K : List (ℤ × ℤ)) (x : ℤ × ℤ) → IsMaximal all → IsKeptSoFar R p q all left (A ++ K) → left ≡ x ∷ rest → R q x true u → IsMaximal (K ++ x ∷ [])
  IsMaximal-one_more p q u all left rest A K x m s e r =
      IsMaximal-second A (K ++ x ∷ []) (subst IsMaximal (append_assoc A K (x ∷ [])) (IsMaximal-kept p u all rest ((A ++ K) ++ x ∷ []) m (one_kept R p q u all left rest (A ++ K) x s e r)))

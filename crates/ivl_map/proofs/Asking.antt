-- A test that is asked once for each entry, in turn, and the numbers of the entries that pass.
use Rattle.std.proofs.Common.{◌≡◌, ⊎_elim, inl, inr, ℕ, suc, ◌<◌, ℤ, Bool, true, false, List, [], ◌∷◌, ◌++◌, length, length-append, get_or, take, take-suc, refl, sym, ap, subst, arith}
use Rattle.std.specs.List.{items_where_true}
use Rattle.std.specs.List.Retain.{ReturnsInTurn}
use Rattle.ivl_laws.specs.Sets.{IsBetween, SameMembers, Union}
use Rattle.ivl_laws.specs.Runs.{Covers, IsRunsOf}
use Rattle.ivl_laws.proofs.SetLaws.{IsRunsOf-same}
use Rattle.ivl_map.specs.Entries.{intervals_of}

module _ {V : Type 0} where
  -- the numbers of one entry more that passed
  picked_in : (bs : List Bool) (E : List ((ℤ × ℤ) × V)) (e : (ℤ × ℤ) × V) → length bs ≡ length E → SameMembers (Union (Covers (intervals_of (items_where_true bs E))) (IsBetween e.0)) (Covers (intervals_of (items_where_true (bs ++ true ∷ []) (E ++ e ∷ []))))
  picked_in [] [] e n z = (⊎_elim (λ c. absurd c) (λ b. inl b), ⊎_elim (λ b. inr b) (λ c. absurd c))
  picked_in [] (f ∷ E) e n z = absurd (omega arith)
  picked_in (a ∷ bs) [] e n z = absurd (omega arith)
  picked_in (true ∷ bs) (f ∷ E) e n z =
      let r = picked_in bs E e (omega arith) z in (
        ⊎_elim (⊎_elim (λ b. inl b) (λ c. inr (r.0 (inl c)))) (λ b. inr (r.0 (inr b))),
        ⊎_elim (λ b. inl (inl b)) (λ c. ⊎_elim (λ k. inl (inr k)) (λ k. inr k) (r.1 c)),
      )
  picked_in (false ∷ bs) (f ∷ E) e n z = picked_in bs E e (omega arith) z

  -- and one that did not
  picked_out : (bs : List Bool) (E : List ((ℤ × ℤ) × V)) (e : (ℤ × ℤ) × V) → length bs ≡ length E → items_where_true (bs ++ false ∷ []) (E ++ e ∷ []) ≡ items_where_true bs E
  picked_out [] [] e n = refl
  picked_out [] (f ∷ E) e n = absurd (omega arith)
  picked_out (a ∷ bs) [] e n = absurd (omega arith)
  picked_out (true ∷ bs) (f ∷ E) e n = ap (λ (l : List ((ℤ × ℤ) × V)). f ∷ l) (picked_out bs E e (omega arith))
  picked_out (false ∷ bs) (f ∷ E) e n = picked_out bs E e (omega arith)

module _ {V P : Type 0} (R : P → (ℤ × ℤ) × V → Bool → P → Type 0) where
  returns_more : (p q u : P) (bs : List Bool) (E : List ((ℤ × ℤ) × V)) (e : (ℤ × ℤ) × V) (b : Bool) → length bs ≡ length E → ReturnsInTurn R p bs E q → R q e b u → ReturnsInTurn R p (bs ++ b ∷ []) (E ++ e ∷ []) u
  returns_more p q u [] [] e b n h r = (u, subst (λ s. R s e b u) (sym h) r, refl)
  returns_more p q u [] (f ∷ E) e b n h r = absurd (omega arith)
  returns_more p q u (a ∷ bs) [] e b n h r = absurd (omega arith)
  returns_more p q u (a ∷ bs) (f ∷ E) e b n h r = (h.0, h.1, returns_more h.0 q u bs E e b (omega arith) h.2 r)

  -- a test that started as p, and is now q, was asked for the entries E, and L has the numbers of those that passed
  pub record IsAsked (p q : P) (E : List ((ℤ × ℤ) × V)) (L : List (ℤ × ℤ)) : Type 0 where
    pub answers : List Bool
    pub counted : length answers ≡ length E
    pub calls : ReturnsInTurn R p answers E q
    pub runs : IsRunsOf L (Covers (intervals_of (items_where_true answers E)))

  pub none_asked : (p : P) (L : List (ℤ × ℤ)) → IsRunsOf L (Covers []) → IsAsked p p [] L
  none_asked p L r = record { answers = []; counted = refl; calls = refl; runs = r }

  module _ (p q u : P) (E : List ((ℤ × ℤ) × V)) (e : (ℤ × ℤ) × V) (L : List (ℤ × ℤ)) (a : IsAsked p q E L) where
    one_in : (M : List (ℤ × ℤ)) → R q e true u → IsRunsOf M (Union (Covers L) (IsBetween e.0)) → IsAsked p u (E ++ e ∷ []) M
    one_in M r m = record {
      answers = a.answers ++ true ∷ [];
      counted = let n = a.counted in omega (arith, length-append a.answers (true ∷ []), length-append E (e ∷ []));
      calls = returns_more p q u a.answers E e true a.counted a.calls r;
      runs =
          let there = picked_in a.answers E e a.counted in
          IsRunsOf-same (Union (Covers L) (IsBetween e.0)) (Covers (intervals_of (items_where_true (a.answers ++ true ∷ []) (E ++ e ∷ [])))) M (λ z. (
            ⊎_elim (λ c. (there z).0 (inl ((a.runs.members z).0 c))) (λ b. (there z).0 (inr b)),
            (λ c. ⊎_elim (λ k. inl ((a.runs.members z).1 k)) (λ b. inr b) ((there z).1 c)),
          )) m;
    }

    one_out : R q e false u → IsAsked p u (E ++ e ∷ []) L
    one_out r = record {
      answers = a.answers ++ false ∷ [];
      counted = let n = a.counted in omega (arith, length-append a.answers (false ∷ []), length-append E (e ∷ []));
      calls = returns_more p q u a.answers E e false a.counted a.calls r;
      runs = subst (λ (l : List ((ℤ × ℤ) × V)). IsRunsOf L (Covers (intervals_of l))) (sym (picked_out a.answers E e a.counted)) a.runs;
    }

  module _ (p q u : P) (E : List ((ℤ × ℤ) × V)) (i : ℕ) (d : (ℤ × ℤ) × V) (L : List (ℤ × ℤ)) (h : i < length E) (a : IsAsked p q (take i E) L) where
    pub asked_in : (M : List (ℤ × ℤ)) (r : ℤ × ℤ) → r ≡ (get_or E i d).0 → R q (get_or E i d) true u → IsRunsOf M (Union (Covers L) (IsBetween r)) → IsAsked p u (take (suc i) E) M
    asked_in M r s t m =
        subst (λ (l : List ((ℤ × ℤ) × V)). IsAsked p u l M) (sym (take-suc E i d h))
        (one_in p q u (take i E) (get_or E i d) L a M t (subst (λ (k : ℤ × ℤ). IsRunsOf M (Union (Covers L) (IsBetween k))) s m))

    pub asked_out : R q (get_or E i d) false u → IsAsked p u (take (suc i) E) L
    asked_out t = subst (λ (l : List ((ℤ × ℤ) × V)). IsAsked p u l L) (sym (take-suc E i d h)) (one_out p q u (take i E) (get_or E i d) L a t)

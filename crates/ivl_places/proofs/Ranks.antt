-- How many members of the first runs are below a number.
use Rattle.std.proofs.Common.{◌≡◌, ◌∙◌, ◌≤◌, ◌<◌, ◌+◌, inl, inr, ⊎_elim, ℕ, zero, suc, ℤ, pos, ◌+ℤ◌, ◌-ℤ◌, ◌≤ℤ◌, List, [], ◌∷◌, ◌++◌, length, take, take_all, drop, get_or, arith, ap, sym, subst}
use Rattle.std.specs.Prelude.{◌<ℤ◌}
use Rattle.std.proofs.lemmas.Bool.{cases_lt}
use Rattle.std.proofs.lemmas.Int.{ints}
use Rattle.std.proofs.lemmas.List.{drop_more, take_more}
use Rattle.ivl_laws.specs.Bounds.{width_of}
use Rattle.ivl_laws.specs.Counts.{IsCountOf}
use Rattle.ivl_laws.specs.Sets.{Below, IsBetween, SameMembers, Union}
use Rattle.ivl_laws.specs.Runs.{Covers, IsMaximal, IsRunListIn}
use Rattle.ivl_laws.proofs.Counts.{IsCountOf-apart, IsCountOf-between, IsCountOf-none, IsCountOf-same, count_is_monotone, count_is_unique}
use Rattle.ivl_laws.proofs.Intervals.{IsCountOf-width_of, width_of-filled}
use Rattle.ivl_laws.proofs.Merging.{covers-append, covers-append_left, covers-append_right}
use Rattle.ivl_laws.proofs.Places.{IsMaximal-drop, covers-take, covers_at, runs_ascend}
use Rattle.ivl_laws.proofs.Runs.{covered_after, covered_from}
use Rattle.ivl_places.proofs.Windows.{covers_split}

before : (L : List (ℤ × ℤ)) (i : ℕ) (d : ℤ × ℤ) (z : ℤ) → IsMaximal L → i < length L → Covers (take i L) z → z <ℤ (get_or L i d).0
before [] i d z m h c = absurd (omega arith)
before (p ∷ L) zero d z m h c = absurd c
before (p ∷ L) (suc i) d z m h (inl b) =
    let far = runs_ascend (p ∷ L) 0 (suc i) d m (omega arith) h in
    let high = b.1 in
    omega (arith, ints)
before (p ∷ L) (suc i) d z m h (inr c) = before L i d z m.2 (omega arith) c

pub none_taken : (L : List (ℤ × ℤ)) (z : ℤ) → ¬ (Covers (take 0 L) z)
none_taken [] z c = c
none_taken (p ∷ L) z c = c

pub ranks_none : (L : List (ℤ × ℤ)) (v : ℤ) (n : ℕ) → n ≡ 0 → IsCountOf n (Below v (Covers (take 0 L)))
ranks_none L v n e = subst (λ (k : ℕ). IsCountOf k (Below v (Covers (take 0 L)))) (sym e) (IsCountOf-none _ (λ z c. none_taken L z c.0))

module _ (L : List (ℤ × ℤ)) (i : ℕ) (d : ℤ × ℤ) (m : IsMaximal L) (h : i < length L) (is : d ≡ get_or L i d) where
  pub more_is : take (i + 1) L ≡ take i L ++ d ∷ []
  more_is = take_more L i d h ∙ ap (λ (p : ℤ × ℤ). take i L ++ p ∷ []) (sym is)

  pub ahead : (z : ℤ) → Covers (take i L) z → z <ℤ d.0
  ahead z c = subst (λ (p : ℤ × ℤ). z <ℤ p.0) (sym is) (before L i d z m h c)

  pub ranks_more : (part : ℤ × ℤ) (v : ℤ) (k n : ℕ) → SameMembers (IsBetween part) (Below v (IsBetween d)) → IsCountOf k (Below v (Covers (take i L))) → IsCountOf n (IsBetween part) →
      IsCountOf (k + n) (Below v (Covers (take (i + 1) L)))
  ranks_more part v k n s a b =
      let P : List (ℤ × ℤ) → Type 0 = λ M. IsCountOf (k + n) (Below v (Covers M)) in
      subst P (sym more_is)
      (IsCountOf-same (Union (Below v (Covers (take i L))) (IsBetween part)) (Below v (Covers (take i L ++ d ∷ []))) (k + n)
      (λ z. (
        ⊎_elim (λ t. (covers-append_left (take i L) (d ∷ []) z t.0, t.1)) (λ t. let w = (s z).0 t in (covers-append_right (take i L) (d ∷ []) z (inl w.0), w.1)),
        (λ (c, low). ⊎_elim (λ (t : Covers (take i L) z). inl (t, low)) (⊎_elim (λ (b : IsBetween d z). inr ((s z).1 (b, low))) (λ x. absurd x)) (covers-append (take i L) (d ∷ []) z c)),
      ))
      (IsCountOf-apart (Below v (Covers (take i L))) (IsBetween part) k n
      (λ z t u. let before_d = ahead z t.0 in let w = ((s z).0 u).0 in let low = w.0 in omega (arith, ints))
      a b))

  pub ranks_done : (v : ℤ) (k : ℕ) → v ≤ℤ d.0 → IsCountOf k (Below v (Covers (take i L))) → IsCountOf k (Below v (Covers L))
  ranks_done v k le a = IsCountOf-same (Below v (Covers (take i L))) (Below v (Covers L)) k
      (λ z. (
        (λ (c, low). (covers-take L i z c, low)),
        (λ (c, low). (
          ⊎_elim (λ (t : Covers (take i L) z). t)
              (λ (r : Covers (drop i L) z).
              let e : drop i L ≡ d ∷ drop (i + 1) L = drop_more L i d h ∙ ap (λ (p : ℤ × ℤ). p ∷ drop (i + 1) L) (sym is) in
              let from = covered_from d (drop (i + 1) L) z (subst IsMaximal e (IsMaximal-drop L i m)) (subst (λ (M : List (ℤ × ℤ)). Covers M z) e r) in
              absurd (omega (arith, ints)))
              (covers_split L i z c),
          low,
        )),
      )) a

module _ (L : List (ℤ × ℤ)) (i : ℕ) (d : ℤ × ℤ) (m : IsMaximal L) (h : i < length L) (is : d ≡ get_or L i d) where
  pub counts_more : (k n : ℕ) → IsCountOf k (Covers (take i L)) → IsCountOf n (IsBetween d) → IsCountOf (k + n) (Covers (take (i + 1) L))
  counts_more k n a b =
      let P : List (ℤ × ℤ) → Type 0 = λ M. IsCountOf (k + n) (Covers M) in
      subst P (sym (more_is L i d m h is))
      (IsCountOf-same (Union (Covers (take i L)) (IsBetween d)) (Covers (take i L ++ d ∷ [])) (k + n)
      (λ z. (
        ⊎_elim (λ t. covers-append_left (take i L) (d ∷ []) z t) (λ t. covers-append_right (take i L) (d ∷ []) z (inl t)),
        (λ c. ⊎_elim (λ (t : Covers (take i L) z). inl t) (⊎_elim (λ (b : IsBetween d z). inr b) (λ x. absurd x)) (covers-append (take i L) (d ∷ []) z c)),
      ))
      (IsCountOf-apart (Covers (take i L)) (IsBetween d) k n (λ z t u. let before_d = ahead L i d m h is z t in let low = u.0 in omega (arith, ints)) a b))

  rest_is : drop i L ≡ d ∷ drop (i + 1) L
  rest_is = drop_more L i d h ∙ ap (λ (p : ℤ × ℤ). p ∷ drop (i + 1) L) (sym is)

  open_rest : IsMaximal (d ∷ drop (i + 1) L)
  open_rest = subst IsMaximal rest_is (IsMaximal-drop L i m)

  -- the number n places above the start of the run
  module _ (x : ℤ) (k n : ℕ) (e : x ≡ d.0 +ℤ pos n) (less : n < width_of d) (a : IsCountOf k (Covers (take i L))) where
    inside : x ≤ℤ d.1
    inside = let w = width_of-filled d open_rest.0 in omega (arith, ints)

    pub nth_is_member : Covers L x
    nth_is_member = let le = inside in covers_at L i d x h (subst (λ (p : ℤ × ℤ). IsBetween p x) is (omega (arith, ints), le))

    below_in : SameMembers (IsBetween (d.0, x -ℤ pos 1)) (Below x (IsBetween d))
    below_in z = let le = inside in (
      (λ b. let low = b.0 in let high = b.1 in ((low, omega (arith, ints)), omega (arith, ints))),
      (λ c. let low = c.0.0 in let high = c.1 in (low, omega (arith, ints))),
    )

    before_all : IsCountOf k (Below x (Covers (take i L)))
    before_all = IsCountOf-same (Covers (take i L)) (Below x (Covers (take i L))) k
        (λ z. ((λ t. let f = ahead L i d m h is z t in (t, omega (arith, ints))), (λ t. t.0))) a

    pub nth_has_below : IsCountOf (k + n) (Below x (Covers L))
    nth_has_below =
        let le = inside in
        IsCountOf-same (Below x (Covers (take (i + 1) L))) (Below x (Covers L)) (k + n)
        (λ z. (
          (λ (c, low). (covers-take L (i + 1) z c, low)),
          (λ (c, low). (
            ⊎_elim (λ (t : Covers (take (i + 1) L) z). t)
                (λ (r : Covers (drop (i + 1) L) z). let far = covered_after d.1 (drop (i + 1) L) z open_rest.1 open_rest.2 r in absurd (omega (arith, ints)))
                (covers_split L (i + 1) z c),
            low,
          )),
        ))
        (ranks_more L i d m h is (d.0, x -ℤ pos 1) x k n below_in before_all (IsCountOf-between (d.0, x -ℤ pos 1) n (omega (arith, ints))))

pub counts_none : (L : List (ℤ × ℤ)) → IsCountOf 0 (Covers (take 0 L))
counts_none L = IsCountOf-none (Covers (take 0 L)) (none_taken L)

-- no member has so many below it where the set has no more
pub counts_all : (L : List (ℤ × ℤ)) (i k n : ℕ) → length L ≤ i → IsCountOf k (Covers (take i L)) → IsCountOf n (Covers L) → n ≡ k
counts_all L i k n h a b = count_is_unique (Covers L) n k b (subst (λ (M : List (ℤ × ℤ)). IsCountOf k (Covers M)) (take_all i L h) a)

pub ranks_all : (L : List (ℤ × ℤ)) (i : ℕ) (v : ℤ) (k : ℕ) → length L ≤ i → IsCountOf k (Below v (Covers (take i L))) → IsCountOf k (Below v (Covers L))
ranks_all L i v k h a = subst (λ (M : List (ℤ × ℤ)). IsCountOf k (Below v (Covers M))) (take_all i L h) a

-- so many numbers of the range can be counted
pub ranks_fit : (whole : ℤ × ℤ) (L : List (ℤ × ℤ)) (i : ℕ) (v : ℤ) (k greatest : ℕ) → IsRunListIn whole L → width_of whole ≤ greatest → IsCountOf k (Below v (Covers (take i L))) → k ≤ greatest
ranks_fit whole L i v k greatest r h a =
    let few = count_is_monotone (Below v (Covers (take i L))) (IsBetween whole) k (width_of whole) (λ z c. r.within z (covers-take L i z c.0)) a (IsCountOf-width_of whole) in
    omega arith

-- where a size is not taken off a count
pub no_room : (size left width : ℕ) → size ≡ width → ((size ≤ left) → ⊥) → left < width
no_room size left width e n = ⊎_elim (λ less. omega (arith, e, less)) (λ le. absurd (n le)) (cases_lt left size)

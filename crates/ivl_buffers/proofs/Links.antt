-- A list of runs is one that starts and ends in the range, and in which each pair is linked to the next.
use Rattle.std.proofs.Common.{◌≡◌, ◌∙◌, ◌↔◌, ◌==◌, Bool, false, ℕ, zero, suc, ◌+◌, ◌<◌, ◌≤◌, ℤ, ◌≤ℤ◌, List, [], ◌∷◌, length, get_or, map, drop, take, sym, subst, arith}
use Rattle.std.proofs.lemmas.Bool.Decides.{nat_tests}
use Rattle.std.proofs.lemmas.Int.{ints}
use Rattle.ivl_laws.specs.Runs.{IsRunListIn}
use Rattle.ivl_buffers.specs.Links.{AreLinked, EndsIn, StartsIn}
use Rattle.ivl_walks.specs.Sinks.{IsRunIn}
use Rattle.ivl_walks.proofs.Suffixes.{first_is_run}
use Rattle.ivl_buffers.proofs.RunLists.{more_is_list, one_is_list}

pub some_from : (n : ℕ) (t : Bool) → t ≡ (n == 0) → t ≡ false → 0 < n
some_from zero t e f = absurd (by_test (sym f ∙ e))
  where
    by_test : false ≡ (0 == 0) → ⊥
    by_test h = grind (arith, nat_tests)
some_from (suc n) t e f = omega arith

-- ---- the whole list

pub list_is_linked : (whole : ℤ × ℤ) (L : List (ℤ × ℤ)) → IsRunListIn whole L → StartsIn whole L × EndsIn whole L × AreLinked whole L
list_is_linked whole [] r = (tt, tt, tt)
list_is_linked whole (p ∷ []) r = let o = first_is_run whole p [] r in (o.1.0, o, (tt, tt))
list_is_linked whole (p ∷ q ∷ M) r =
    let o = first_is_run whole p (q ∷ M) r in
    let far = r.maximal.1 in
    let t = (more_is_list whole p q M o far).0 r in
    let n = first_is_run whole q M t in
    let (s, e, l) = list_is_linked whole (q ∷ M) t in (
      o.1.0,
      e,
      ((o.0, (omega (arith, ints, o.0, o.1.0), omega (arith, ints, far, n.0, n.1.1)), far), l),
    )

pub linked_is_list : (whole : ℤ × ℤ) (L : List (ℤ × ℤ)) → StartsIn whole L → EndsIn whole L → AreLinked whole L → IsRunListIn whole L
linked_is_list whole [] s e l = record { maximal = tt; within = λ z c. absurd c }
linked_is_list whole (p ∷ []) s e l = one_is_list whole p e
linked_is_list whole (p ∷ q ∷ M) s e l =
    let (o, above, far) = l.0 in
    let rest = linked_is_list whole (q ∷ M) (omega (arith, ints, s, o, far)) e l.1 in
    (more_is_list whole p q M (o, (s, omega (arith, ints, above.1))) far).1 rest

module _ {X : Type 0} (pair : X → ℤ × ℤ) (whole : ℤ × ℤ) where
  -- ---- the first pair and the last

  pub starts_at : (L : List X) (d : X) → 0 < length L → d ≡ get_or L 0 d → StartsIn whole (map pair L) ↔ (whole.0 ≤ℤ (pair d).0)
  starts_at [] d h is = absurd (omega arith)
  starts_at (x ∷ L) d h is = subst (λ (y : X). (whole.0 ≤ℤ (pair x).0) ↔ (whole.0 ≤ℤ (pair y).0)) (sym is) ((λ s. s), (λ s. s))

  pub ends_at : (L : List X) (k : ℕ) (d : X) → k + 1 ≡ length L → d ≡ get_or L k d → EndsIn whole (map pair L) ↔ IsRunIn whole (pair d)
  ends_at [] k d e is = absurd (omega arith)
  ends_at (x ∷ []) zero d e is = subst (λ (y : X). IsRunIn whole (pair x) ↔ IsRunIn whole (pair y)) (sym is) ((λ o. o), (λ o. o))
  ends_at (x ∷ []) (suc k) d e is = absurd (omega arith)
  ends_at (x ∷ y ∷ L) zero d e is = absurd (omega arith)
  ends_at (x ∷ y ∷ L) (suc k) d e is = ends_at (y ∷ L) k d (omega arith) is

  -- ---- one pair after another

  pub linked_end : (L : List X) (i : ℕ) → length L ≤ i + 1 → AreLinked whole (map pair (drop i L))
  linked_end [] zero h = tt
  linked_end [] (suc i) h = tt
  linked_end (x ∷ []) zero h = (tt, tt)
  linked_end (x ∷ y ∷ L) zero h = absurd (omega arith)
  linked_end (x ∷ L) (suc i) h = linked_end L i (omega arith)

  -- ---- two parts that share a pair

  split_suc : (L : List X) (m : ℕ) → m < length L → (AreLinked whole (map pair (take (suc m) L)) × AreLinked whole (map pair (drop m L))) ↔ AreLinked whole (map pair L)
  split_suc [] m h = absurd (omega arith)
  split_suc (x ∷ []) zero h = ((λ (a, b). b), (λ b. ((tt, tt), b)))
  split_suc (x ∷ y ∷ L) zero h = ((λ (a, b). b), (λ b. ((tt, tt), b)))
  split_suc (x ∷ []) (suc m) h = absurd (omega arith)
  split_suc (x ∷ y ∷ L) (suc m) h = let r = split_suc (y ∷ L) m (omega arith) in (
    (λ ((k, a), b). (k, r.0 (a, b))),
    (λ (k, l). let (a, b) = r.1 l in ((k, a), b)),
  )

  pub linked_split : (L : List X) (m : ℕ) → m < length L → (AreLinked whole (map pair (take (m + 1) L)) × AreLinked whole (map pair (drop m L))) ↔ AreLinked whole (map pair L)
  linked_split L m h =
      let more : suc m ≡ m + 1 = omega arith in
      subst (λ (n : ℕ). (AreLinked whole (map pair (take n L)) × AreLinked whole (map pair (drop m L))) ↔ AreLinked whole (map pair L)) more (split_suc L m h)

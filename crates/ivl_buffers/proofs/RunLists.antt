-- What is left to look at decides whether a list is one of runs.
use Rattle.std.proofs.Common.{◌≡◌, ◌↔◌, ◌⊎◌, inl, inr, ⊎_elim, ℕ, ◌+◌, ◌<◌, ◌≤◌, ℤ, pos, ◌+ℤ◌, ◌≤ℤ◌, ◌<ℤ◌, Bool, true, false, IsTrue, List, [], ◌∷◌, length, get_or, map, drop, refl, sym, subst, arith}
use Rattle.std.proofs.lemmas.Int.{ints, by_lt_z}
use Rattle.std.specs.Int.{from_bool}
use lib.Signed.{≤ℤ_refl}
use Rattle.ivl_laws.specs.Sets.{IsBetween, IsInRange}
use Rattle.ivl_laws.specs.Runs.{Covers, IsRunListIn}
use Rattle.ivl_laws.proofs.Adding.{untrue}
use Rattle.ivl_walks.specs.Sinks.{IsRunIn}
use Rattle.ivl_walks.proofs.Suffixes.{first_is_run, rest_all, rest_at, rest_list, rest_none}

-- ---- tests of one pair, and of two

pub run_by_bounds : (whole p : ℤ × ℤ) (x y : ℤ) (t : Bool) → x ≡ p.0 → y ≡ p.1 → x ≤ℤ y → (IsTrue t ↔ IsInRange whole (x, y)) → IsTrue t ↔ IsRunIn whole p
run_by_bounds whole p x y t e f o h = (
  λ u. let r = h.0 u in (omega (arith, ints, e, f, o), (omega (arith, ints, e, r.0), omega (arith, ints, f, r.1))),
  λ r. h.1 (let a = r.1.0 in omega (arith, ints, e, a), let b = r.1.1 in omega (arith, ints, f, b)),
)

pub no_run_by_bounds : (whole p : ℤ × ℤ) (x y : ℤ) → x ≡ p.0 → y ≡ p.1 → ¬ (x ≤ℤ y) → ¬ (IsRunIn whole p)
no_run_by_bounds whole p x y e f n r = n (let o = r.0 in omega (arith, ints, e, f, o))

-- ---- whether one run leaves a number free below another, by one sum

module _ (p q : ℤ × ℤ) (t : Bool) (x y d : ℤ) (e : x ≡ p.1) (f : y ≡ q.0) (less : IsTrue t ↔ (x <ℤ y)) (h : d ≡ pos (from_bool t)) where
  below_start : (t : Bool) → (IsTrue t ↔ (x <ℤ y)) → d ≡ pos (from_bool t) → ((x <ℤ y) × (d ≡ pos 1)) ⊎ ((y ≤ℤ x) × (d ≡ pos 0))
  below_start true l g = inl (l.0 refl, g)
  below_start false l g = inr (by_lt_z x y (λ lt. absurd (untrue false refl l lt)) (λ le. le), g)

  pub free_is : (s : ℤ) (u : Bool) → s ≡ x +ℤ d → (IsTrue u ↔ (s <ℤ y)) → IsTrue u ↔ ((p.1 +ℤ pos 2) ≤ℤ q.0)
  free_is s u g v = ⊎_elim
      (λ (lt, k). ((λ r. let l = v.0 r in omega (arith, ints)), (λ far. v.1 (omega (arith, ints)))))
      (λ (le, k). ((λ r. let l = v.0 r in absurd (omega (arith, ints))), (λ far. absurd (omega (arith, ints)))))
      (below_start t less h)

-- ---- whether a pair is a run that leaves a number free above another one

module _ (whole p q : ℤ × ℤ) (start end : ℤ) (e : start ≡ q.0) (f : end ≡ q.1) where
  abbrev pub IsNext : Type 0
  IsNext = IsRunIn whole q × ((p.1 +ℤ pos 2) ≤ℤ q.0)

  pub next_is_open : end <ℤ start → ¬ IsNext
  next_is_open h ((o, r), far) = omega (arith, ints)

  pub next_is_within : (high : ℤ) → high ≡ whole.1 → high <ℤ end → ¬ IsNext
  next_is_within high k h ((o, (a, b)), far) = omega (arith, ints)

  pub next_is_above : (below : ℤ) → below ≡ p.1 → start ≤ℤ below → ¬ IsNext
  next_is_above below k h ((o, r), far) = omega (arith, ints)

  module _ (high below one : ℤ) (k : high ≡ whole.1) (l : below ≡ p.1) (n : one ≡ pos 1) (o : IsRunIn whole p) (x : start ≤ℤ end) (y : end ≤ℤ high) (z : below <ℤ start) where
    pub next_fits : IsBetween whole (below +ℤ one)
    next_fits = let (a, (b, d)) = o in (omega (arith, ints), omega (arith, ints))

    pub next_by_sum : (sum : ℤ) (t : Bool) → sum ≡ below +ℤ one → (IsTrue t ↔ (sum <ℤ start)) → IsTrue t ↔ IsNext
    next_by_sum sum t g v = let (a, (b, d)) = o in (
      (λ u. let lt = v.0 u in ((omega (arith, ints), (omega (arith, ints), omega (arith, ints))), omega (arith, ints))),
      (λ (r, far). v.1 (omega (arith, ints))),
    )

-- ---- the first pair

pub one_is_list : (whole p : ℤ × ℤ) → IsRunIn whole p → IsRunListIn whole (p ∷ [])
one_is_list whole p o = record { maximal = (o.0, tt, tt); within = within }
  where
    within : (z : ℤ) → Covers (p ∷ []) z → IsBetween whole z
    within z (inl b) = let r = o.1 in (omega (arith, ints, b.0, r.0), omega (arith, ints, b.1, r.1))
    within z (inr c) = absurd c

-- a run in the range before a list of which it leaves a number free
pub more_is_list : (whole p q : ℤ × ℤ) (M : List (ℤ × ℤ)) → IsRunIn whole p → (p.1 +ℤ pos 2) ≤ℤ q.0 → IsRunListIn whole (p ∷ q ∷ M) ↔ IsRunListIn whole (q ∷ M)
more_is_list whole p q M o far = (
  λ r. record { maximal = r.maximal.2; within = λ z c. r.within z (inr c) },
  λ r. record { maximal = (o.0, far, r.maximal); within = within r },
)
  where
    within : IsRunListIn whole (q ∷ M) → (z : ℤ) → Covers (p ∷ q ∷ M) z → IsBetween whole z
    within r z (inl b) = let i = o.1 in (omega (arith, ints, b.0, i.0), omega (arith, ints, b.1, i.1))
    within r z (inr c) = r.within z c

-- ---- where the walk over a list stands

-- the last pair is a run, and whether it and what is left are a run list decides of the whole list
pub record IsReadTo (whole : ℤ × ℤ) (L : List (ℤ × ℤ)) (p : ℤ × ℤ) (M : List (ℤ × ℤ)) : Type 0 where
  pub last : IsRunIn whole p
  pub decides : IsRunListIn whole (p ∷ M) ↔ IsRunListIn whole L

module _ {X : Type 0} (pair : X → ℤ × ℤ) (whole : ℤ × ℤ) (L : List (ℤ × ℤ)) (rest : List X) where
  pub read_first : (first : X) → L ≡ pair first ∷ map pair rest → IsRunIn whole (pair first) → IsReadTo whole L (pair first) (map pair (drop 0 rest))
  read_first first e o = subst (IsReadTo whole L (pair first)) (sym (rest_all pair rest)) (record {
    last = o;
    decides = subst (λ (N : List (ℤ × ℤ)). IsRunListIn whole (pair first ∷ map pair rest) ↔ IsRunListIn whole N) (sym e) ((λ r. r), (λ r. r));
  })

  module _ (last d : X) (k : ℕ) (h : k < length rest) (is : d ≡ get_or rest k d) (r : IsReadTo whole L (pair last) (map pair (drop k rest))) where
    opened : IsReadTo whole L (pair last) (pair d ∷ map pair (drop (k + 1) rest))
    opened = subst (IsReadTo whole L (pair last)) (rest_at pair rest k d h is) r

    pub read_next : IsRunIn whole (pair d) → ((pair last).1 +ℤ pos 2) ≤ℤ (pair d).0 → IsReadTo whole L (pair d) (map pair (drop (k + 1) rest))
    read_next o far =
        let more = more_is_list whole (pair last) (pair d) (map pair (drop (k + 1) rest)) r.last far in
        record { last = o; decides = ((λ n. opened.decides.0 (more.1 n)), (λ n. more.0 (opened.decides.1 n))) }

    pub no_run : ¬ (IsRunIn whole (pair d)) → ¬ (IsRunListIn whole L)
    no_run n list =
        let all = opened.decides.1 list in
        n (first_is_run whole (pair d) (map pair (drop (k + 1) rest)) (record { maximal = all.maximal.2; within = λ z c. all.within z (inr c) }))

    pub no_gap : ¬ (((pair last).1 +ℤ pos 2) ≤ℤ (pair d).0) → ¬ (IsRunListIn whole L)
    no_gap n list = let all = opened.decides.1 list in n all.maximal.1

  pub read_all : (last : X) (k : ℕ) → length rest ≤ k → IsReadTo whole L (pair last) (map pair (drop k rest)) → IsRunListIn whole L
  read_all last k h r =
      let s = subst (IsReadTo whole L (pair last)) (rest_none pair rest k h) r in
      s.decides.0 (one_is_list whole (pair last) s.last)

pub refused : {P : Type 0} → ¬ P → IsTrue false ↔ P
refused n = ((λ u. absurd (cc)), (λ p. absurd (n p)))

pub granted : {P : Type 0} → P → IsTrue true ↔ P
granted p = ((λ _. p), (λ _. refl))

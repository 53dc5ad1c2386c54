-- Lists of runs within a range, and the shortest lists.
use Rattle.std.proofs.Common.{◌≡◌, ◌↔◌, inl, inr, ⊎_elim, ℕ, suc, zero, ◌+◌, ◌<◌, ℤ, ◌≤ℤ◌, List, [], ◌∷◌, length, get_or, drop, take, refl, arith}
use Rattle.std.proofs.lemmas.Int.{ints}
use Rattle.ivl_laws.specs.Sets.{IsBetween, IsInRange, IsSubset, HasNone, HasSome}
use Rattle.ivl_laws.specs.Runs.{Covers, IsMaximal, IsRunsOf, IsRunListIn}
use Rattle.ivl_laws.specs.Counts.{IsIn}
use Rattle.ivl_laws.proofs.Runs.{lower_end, upper_end, covered_from, covered_after}
use Rattle.ivl_laws.proofs.Intervals.{within_is_in_range, in_range_is_within}
use Rattle.ivl_laws.proofs.Products.{one_covers, open_in}
use Rattle.ivl_laws.proofs.Places.{in_at, IsMaximal-drop, IsMaximal-take, covers-drop, covers-take}

-- ---- the bounds of the runs

pub bounds_in_range : (whole : ℤ × ℤ) (L : List (ℤ × ℤ)) (p : ℤ × ℤ) → IsRunListIn whole L → IsIn L p → IsInRange whole p
bounds_in_range whole L p r i = within_is_in_range whole p (open_in L p r.maximal i) (λ z b. r.within z (one_covers L p z i b))

pub bounds_in_range_at : (whole : ℤ × ℤ) (L : List (ℤ × ℤ)) (i : ℕ) (d : ℤ × ℤ) → IsRunListIn whole L → i < length L → IsInRange whole (get_or L i d)
bounds_in_range_at whole L i d r h = bounds_in_range whole L (get_or L i d) r (in_at L i d h)

-- pairs whose bounds are in the range cover numbers of the range
pub covers_in_range : (whole : ℤ × ℤ) (L : List (ℤ × ℤ)) → ((p : ℤ × ℤ) → IsIn L p → IsInRange whole p) → IsSubset (Covers L) (IsBetween whole)
covers_in_range whole [] f z c = absurd c
covers_in_range whole (p ∷ L) f z (inl b) = in_range_is_within whole p (f p (inl refl)) z b
covers_in_range whole (p ∷ L) f z (inr c) = covers_in_range whole L (λ q i. f q (inr i)) z c

-- ---- lists of runs

pub IsRunListIn-runs : (whole : ℤ × ℤ) (L : List (ℤ × ℤ)) (S : ℤ → Type 0) → IsRunsOf L S → IsSubset S (IsBetween whole) → IsRunListIn whole L
IsRunListIn-runs whole L S r h = record { maximal = r.maximal; within = λ z c. h z ((r.members z).0 c) }

pub IsRunListIn-rest : (whole p : ℤ × ℤ) (L : List (ℤ × ℤ)) → IsRunListIn whole (p ∷ L) → IsRunListIn whole L
IsRunListIn-rest whole p L r = record { maximal = r.maximal.2; within = λ z c. r.within z (inr c) }

pub IsRunListIn-none : (whole : ℤ × ℤ) → IsRunListIn whole []
IsRunListIn-none whole = record { maximal = tt; within = λ z c. absurd c }

pub IsRunListIn-one : (whole p : ℤ × ℤ) → p.0 ≤ℤ p.1 → IsInRange whole p → IsRunListIn whole (p ∷ [])
IsRunListIn-one whole p o h = record { maximal = (o, tt, tt); within = λ z. ⊎_elim (in_range_is_within whole p h z) (λ c. absurd c) }

pub IsRunsOf-covers : (L : List (ℤ × ℤ)) → IsMaximal L → IsRunsOf L (Covers L)
IsRunsOf-covers L m = record { maximal = m; members = λ z. ((λ c. c), (λ c. c)) }

pub IsRunsOf-none : (S : ℤ → Type 0) → HasNone S → IsRunsOf [] S
IsRunsOf-none S n = record { maximal = tt; members = λ z. ((λ c. absurd c), n z) }

pub IsRunsOf-one : (p : ℤ × ℤ) → p.0 ≤ℤ p.1 → IsRunsOf (p ∷ []) (IsBetween p)
IsRunsOf-one p o = record { maximal = (o, tt, tt); members = λ z. (⊎_elim (λ b. b) (λ c. absurd c), λ b. inl b) }

-- ---- the rest of a list from a place on, and the runs before it

pub IsRunListIn-drop : (whole : ℤ × ℤ) (L : List (ℤ × ℤ)) (k : ℕ) → IsRunListIn whole L → IsRunListIn whole (drop k L)
IsRunListIn-drop whole L k r = record { maximal = IsMaximal-drop L k r.maximal; within = λ z c. r.within z (covers-drop L k z c) }

pub IsRunListIn-take : (whole : ℤ × ℤ) (L : List (ℤ × ℤ)) (k : ℕ) → IsRunListIn whole L → IsRunListIn whole (take k L)
IsRunListIn-take whole L k r = record { maximal = IsMaximal-take L k r.maximal; within = λ z c. r.within z (covers-take L k z c) }

-- ---- the least and the greatest number of a list

pub none_is_nil : (L : List (ℤ × ℤ)) → IsMaximal L → HasNone (Covers L) ↔ (L ≡ [])
none_is_nil [] m = ((λ n. refl), (λ e z c. c))
none_is_nil (p ∷ L) m = ((λ n. absurd (n p.0 (inl (lower_end p m.0)))), (λ e. cc))

pub some_is_filled : (L : List (ℤ × ℤ)) → IsMaximal L → ¬ (L ≡ []) → HasSome (Covers L)
some_is_filled [] m n = absurd (n refl)
some_is_filled (p ∷ L) m n = (p.0, inl (lower_end p m.0))

-- the lower bound of the first run is the least
pub first_is_least : (L : List (ℤ × ℤ)) (d : ℤ × ℤ) → IsMaximal L → 0 < length L → Covers L (get_or L 0 d).0 × ((z : ℤ) → Covers L z → (get_or L 0 d).0 ≤ℤ z)
first_is_least [] d m h = absurd (omega arith)
first_is_least (p ∷ L) d m h = (inl (lower_end p m.0), λ z c. covered_from p L z m c)

-- the upper bound of the last run is the greatest
pub last_is_greatest : (L : List (ℤ × ℤ)) (k : ℕ) (d : ℤ × ℤ) → IsMaximal L → k + 1 ≡ length L → Covers L (get_or L k d).1 × ((z : ℤ) → Covers L z → z ≤ℤ (get_or L k d).1)
last_is_greatest [] k d m e = absurd (omega arith)
last_is_greatest (p ∷ []) zero d m e = (inl (upper_end p m.0), λ z. ⊎_elim (λ b. b.1) (λ c. absurd c))
last_is_greatest (p ∷ []) (suc k) d m e = absurd (omega arith)
last_is_greatest (p ∷ q ∷ L) zero d m e = absurd (omega arith)
last_is_greatest (p ∷ q ∷ L) (suc k) d m e =
    let ih = last_is_greatest (q ∷ L) k d m.2 (omega arith) in
    let far = covered_after p.1 (q ∷ L) (get_or (q ∷ L) k d).1 m.1 m.2 ih.0 in
    (inr ih.0, λ z. ⊎_elim (λ b. let high = b.1 in omega (arith, ints)) (ih.1 z))

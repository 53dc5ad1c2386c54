-- The count of the numbers that runs cover, and the sum of the counts of some sets.
use Rattle.std.proofs.Common.{◌≡◌, ℕ, zero, suc, ◌+◌, inl, inr, refl, sym, subst, arith, List, [], ◌∷◌}
use Rattle.std.specs.Prelude.{ℤ, pos, ◌+ℤ◌, ◌≤ℤ◌, ◌<ℤ◌}
use Rattle.std.proofs.lemmas.Int.{ints, by_lt_z}
use Rattle.std.proofs.lemmas.Bool.{cases_Bool, both_ways}
use Rattle.ivl_laws.specs.Bounds.{width_of}
use Rattle.ivl_laws.specs.Counts.{IsCountOf}
use Rattle.ivl_laws.specs.Runs.{Covers}
use Rattle.ivl_laws.specs.Sets.{IsBetween, Intersection, Only, SameMembers, Union}
use Rattle.ivl_laws.proofs.Counts.{IsCountOf-apart, IsCountOf-none, IsCountOf-only, IsCountOf-same}
use Rattle.ivl_laws.proofs.Intervals.{width_of-crossed, width_of-filled}
use Rattle.ivl_store.specs.Measure.{HaveTogether, TotalIsSumOfCounts, count_from, covers, total_from}
use Rattle.ivl_store.proofs.Counting.{covers-is}

-- covered, and one of the n numbers from low on
abbrev Within : List (ℤ × ℤ) → ℤ → ℕ → ℤ → Type 0
Within runs low n z = Covers runs z × (low ≤ℤ z) × (z <ℤ (low +ℤ pos n))

-- where the number after the n numbers is covered, it is one more
one_more : (runs : List (ℤ × ℤ)) (low : ℤ) (n : ℕ) → Covers runs (low +ℤ pos n)
    → SameMembers (Union (Only (low +ℤ pos n)) (Within runs low n)) (Within runs low (suc n))
one_more runs low n c z = (
  (λ u. elim u [
    | inl e ↦ (subst (Covers runs) (sym e) c, omega (arith, ints, e), omega (arith, ints, e))
    | inr w ↦ (w.0, w.1, omega (arith, ints, w.2))
  ]),
  (λ w. by_lt_z z (low +ℤ pos n) (λ b. inr (w.0, w.1, b)) (λ b. inl (omega (arith, ints, w.2, b)))),
)

-- where it is not, there is none more
none_more : (runs : List (ℤ × ℤ)) (low : ℤ) (n : ℕ) → ¬ (Covers runs (low +ℤ pos n))
    → SameMembers (Within runs low n) (Within runs low (suc n))
none_more runs low n c z = (
  (λ w. (w.0, w.1, omega (arith, ints, w.2))),
  (λ w. by_lt_z z (low +ℤ pos n) (λ b. (w.0, w.1, b))
      (λ b. let e : z ≡ low +ℤ pos n = omega (arith, ints, w.2, b) in absurd (c (subst (Covers runs) e w.0)))),
)

IsCountOf-count_from : (runs : List (ℤ × ℤ)) (low : ℤ) (n : ℕ) → IsCountOf (count_from runs low n) (Within runs low n)
unfolding count_from
IsCountOf-count_from runs low zero = IsCountOf-none (Within runs low 0) (λ z w. let a = w.1 in let b = w.2 in omega (arith, ints))
IsCountOf-count_from runs low (suc n) =
    let before = IsCountOf-count_from runs low n in
    elim (cases_Bool (covers runs (low +ℤ pos n))) [
      | inl t ↦ (let c = (covers-is runs (low +ℤ pos n)).0 t in
          rw t (IsCountOf-same (Union (Only (low +ℤ pos n)) (Within runs low n)) (Within runs low (suc n)) (1 + count_from runs low n) (one_more runs low n c)
          (IsCountOf-apart (Only (low +ℤ pos n)) (Within runs low n) 1 (count_from runs low n)
          (λ z e w. let a = w.2 in omega (arith, ints, e)) (IsCountOf-only (low +ℤ pos n)) before)))
      | inr f ↦ (let same : count_from runs low n ≡ 0 + count_from runs low n = omega arith in
          rw f (subst (λ (m : ℕ). IsCountOf m (Within runs low (suc n))) same
          (IsCountOf-same (Within runs low n) (Within runs low (suc n)) (count_from runs low n)
          (none_more runs low n (λ c. both_ways (covers runs (low +ℤ pos n)) f ((covers-is runs (low +ℤ pos n)).1 c))) before)))
    ]

within_whole : (runs : List (ℤ × ℤ)) (whole : ℤ × ℤ) → SameMembers (Within runs whole.0 (width_of whole)) (Intersection (Covers runs) (IsBetween whole))
within_whole runs whole z = by_lt_z whole.1 whole.0
    (λ c. let e = width_of-crossed whole c in
    ((λ w. let a = w.1 in let b = w.2 in absurd (omega (arith, ints, e))), (λ i. let a = i.1.0 in let b = i.1.1 in absurd (omega (arith, ints)))))
    (λ h. let e = width_of-filled whole h in
    ((λ w. let a = w.1 in let b = w.2 in (w.0, (a, omega (arith, ints, e)))), (λ i. let a = i.1.0 in let b = i.1.1 in (i.0, a, omega (arith, ints, e)))))

together : (whole : ℤ × ℤ) (sets : List (List (ℤ × ℤ))) → HaveTogether whole (total_from whole.0 (width_of whole) sets) sets
together whole [] = refl
together whole (s ∷ sets) = (
  count_from s whole.0 (width_of whole),
  total_from whole.0 (width_of whole) sets,
  IsCountOf-same (Within s whole.0 (width_of whole)) (Intersection (Covers s) (IsBetween whole)) _ (within_whole s whole) (IsCountOf-count_from s whole.0 (width_of whole)),
  together whole sets,
  refl,
)

pub total_is_sum : (sets : List (List (ℤ × ℤ))) → TotalIsSumOfCounts sets
total_is_sum sets = λ whole. together whole sets

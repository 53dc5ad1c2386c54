-- A register that is written is a step, once for each way to make a set.
use Rattle.std.proofs.Common.{◌≡◌, ◌↔◌, inl, inr, ℕ, ◌<◌, ℤ, Bool, IsTrue, List, [], ◌∷◌, length, false, slice_index_or, slice_set, refl, Result, Ok, Err}
use Rattle.std.specs.Prelude.{All, IfOk, OnErr}
use Rattle.ivl_laws.specs.Sets.{Differences, ExactProducts, IsBetween, IsSubset, HasSome, Only, Products, Sums, Without}
use Rattle.ivl_laws.specs.Runs.{Covers, IsRunsOf}
use Rattle.ivl_laws.proofs.Adding.{untrue}
use Rattle.ivl_images.specs.Sweeps.{ExactResultsBy, ResultsBy}
use Rattle.ivl_images.specs.declared.op.Op.{Op}
use Rattle.ivl_images.specs.declared.op.Op.TheVariants as ops
use Rattle.ivl_calculator.specs.declared.calc.writes.Merge.{Merge}
use Rattle.ivl_calculator.specs.declared.calc.writes.Merge.TheVariants as merges
use Rattle.ivl_calculator.specs.declared.calc.writes.Part.{Part}
use Rattle.ivl_calculator.specs.declared.calc.writes.Part.TheVariants as parts
use Rattle.ivl_calculator.specs.declared.reply.Refusal.TheVariants.{Register, Fit, Memory}
use Rattle.ivl_calculator.specs.Actions.{Making, union, intersection, difference, symmetric, at_least, at_most, above, below, plus, minus, times, plus_value, minus_value, times_value, make, Answer, done, cut, refused}
use Rattle.ivl_calculator.specs.Operations.{MergedBy, PartBy, of_two, of_part, of_value}
use Rattle.ivl_laws.specs.Families.{set_at}
use Rattle.ivl_within.specs.Within.{Clipped}
use Rattle.ivl_calculator.specs.Step.{MayStep, Made, IsAllowed, IsReportOf}

-- ---- what is refused

module _ (whole : ℤ × ℤ) (old : List (List (ℤ × ℤ))) (r a : ℕ) where
  pub merge_unnamed : (merge : Merge) (b : ℕ) → ¬ (All (λ x. x < length old) (r ∷ a ∷ b ∷ [])) → MayStep whole old (make r (of_two merge a b)) (refused Register) old
  merge_unnamed merges.Union b none = inl (Register, refl, none, refl)
  merge_unnamed merges.Intersection b none = inl (Register, refl, none, refl)
  merge_unnamed merges.Difference b none = inl (Register, refl, none, refl)
  merge_unnamed merges.SymmetricDifference b none = inl (Register, refl, none, refl)

  pub part_unnamed : (part : Part) (v : ℤ) → ¬ (All (λ x. x < length old) (r ∷ a ∷ [])) → MayStep whole old (make r (of_part part a v)) (refused Register) old
  part_unnamed parts.AtLeast v none = inl (Register, refl, none, refl)
  part_unnamed parts.AtMost v none = inl (Register, refl, none, refl)
  part_unnamed parts.Above v none = inl (Register, refl, none, refl)
  part_unnamed parts.Below v none = inl (Register, refl, none, refl)

  pub value_unnamed : (op : Op) (v : ℤ) → ¬ (All (λ x. x < length old) (r ∷ a ∷ [])) → MayStep whole old (make r (of_value op a v)) (refused Register) old
  value_unnamed ops.Sum v none = inl (Register, refl, none, refl)
  value_unnamed ops.Difference v none = inl (Register, refl, none, refl)
  value_unnamed ops.Product v none = inl (Register, refl, none, refl)

  pub value_unfit : (op : Op) (v : ℤ) → All (λ x. x < length old) (r ∷ a ∷ []) → ¬ (IsSubset (ExactResultsBy op (set_at old a) (Only v)) (IsBetween whole))
      → MayStep whole old (make r (of_value op a v)) (refused Fit) old
  value_unfit ops.Sum v all none = inl (Fit, refl, (all, tt, none), refl)
  value_unfit ops.Difference v all none = inl (Fit, refl, (all, tt, none), refl)
  value_unfit ops.Product v all none = inl (Fit, refl, (all, tt, none), refl)

pub times_unfit : (whole : ℤ × ℤ) (old : List (List (ℤ × ℤ))) (r a b : ℕ) (L M : List (ℤ × ℤ)) (fits : Bool) → All (λ x. x < length old) (r ∷ a ∷ b ∷ [])
    → L ≡ slice_index_or old a [] → M ≡ slice_index_or old b [] → fits ≡ false
    → (IsTrue fits ↔ IsSubset (ExactProducts (Covers L) (Covers M)) (IsBetween whole)) → MayStep whole old (make r (times a b)) (refused Fit) old
times_unfit whole old r a b L M fits all a_seen b_seen not h = inl (Fit, refl, (all, tt, rw (← a_seen, ← b_seen) (untrue fits not h)), refl)

-- ---- what is written

module _ {E : Type 0} (whole : ℤ × ℤ) (old new : List (List (ℤ × ℤ))) (r : ℕ) (answer : Answer) where
  pub writes : (making : Making) (made : Result (List (ℤ × ℤ)) E) → IsAllowed whole old (make r making) → (answer ≡ done → IsReportOf whole old making answer)
      → IfOk made (λ L. IsRunsOf L (Made whole old making))
      → IfOk made (λ L. (answer ≡ done) × (new ≡ slice_set old r L)) → OnErr made ((answer ≡ refused Memory) × (new ≡ old))
      → MayStep whole old (make r making) answer new
  writes making (Ok L) allowed report runs put lacked = inr (inl (allowed, (report put.0, (L, runs, put.1))))
  writes making (Err e) allowed report runs put lacked = inr (inr (record { lacking = lacked.0; unchanged = lacked.1; asks = refl; allowed = allowed }))

  pub writes_cut : (making : Making) (S : ℤ → Type 0) (made : Result (List (ℤ × ℤ) × Bool) E) → IsAllowed whole old (make r making)
      → ((b : Bool) → answer ≡ cut b → (IsTrue b ↔ HasSome (Without S (IsBetween whole))) → IsReportOf whole old making answer)
      → IfOk made (λ m. IsRunsOf m.0 (Made whole old making)) → IfOk made (λ m. IsTrue m.1 ↔ HasSome (Without S (IsBetween whole)))
      → IfOk made (λ m. (answer ≡ cut m.1) × (new ≡ slice_set old r m.0)) → OnErr made ((answer ≡ refused Memory) × (new ≡ old))
      → MayStep whole old (make r making) answer new
  writes_cut making S (Ok m) allowed report runs told put lacked = inr (inl (allowed, (report m.1 put.0 told, (m.0, runs, put.1))))
  writes_cut making S (Err e) allowed report runs told put lacked = inr (inr (record { lacking = lacked.0; unchanged = lacked.1; asks = refl; allowed = allowed }))

  module _ (made : Result (List (ℤ × ℤ) × Bool) E) (a b : ℕ) (L M : List (ℤ × ℤ)) (all : All (λ x. x < length old) (r ∷ a ∷ b ∷ []))
      (a_seen : L ≡ slice_index_or old a []) (b_seen : M ≡ slice_index_or old b [])
      (put : IfOk made (λ m. (answer ≡ cut m.1) × (new ≡ slice_set old r m.0))) (lacked : OnErr made ((answer ≡ refused Memory) × (new ≡ old))) where
    pub writes_plus : IfOk made (λ m. IsRunsOf m.0 (Clipped whole (Sums (Covers L) (Covers M)))) → IfOk made (λ m. IsTrue m.1 ↔ HasSome (Without (Sums (Covers L) (Covers M)) (IsBetween whole)))
        → MayStep whole old (make r (plus a b)) answer new
    writes_plus runs told =
        writes_cut (plus a b) (Sums (set_at old a) (set_at old b)) made (all, tt, λ z n. absurd n) (λ f e t. (f, e, t)) (rw (← a_seen, ← b_seen) runs) (rw (← a_seen, ← b_seen) told) put lacked

    pub writes_minus : IfOk made (λ m. IsRunsOf m.0 (Clipped whole (Differences (Covers L) (Covers M))))
        → IfOk made (λ m. IsTrue m.1 ↔ HasSome (Without (Differences (Covers L) (Covers M)) (IsBetween whole))) → MayStep whole old (make r (minus a b)) answer new
    writes_minus runs told =
        writes_cut (minus a b) (Differences (set_at old a) (set_at old b)) made (all, tt, λ z n. absurd n) (λ f e t. (f, e, t)) (rw (← a_seen, ← b_seen) runs) (rw (← a_seen, ← b_seen) told) put lacked

  pub writes_times : (made : Result (List (ℤ × ℤ)) E) (a b : ℕ) (L M : List (ℤ × ℤ)) → All (λ x. x < length old) (r ∷ a ∷ b ∷ []) → L ≡ slice_index_or old a [] → M ≡ slice_index_or old b []
      → IsSubset (ExactProducts (Covers L) (Covers M)) (IsBetween whole) → IfOk made (λ N. IsRunsOf N (Products (Covers L) (Covers M)))
      → IfOk made (λ N. (answer ≡ done) × (new ≡ slice_set old r N)) → OnErr made ((answer ≡ refused Memory) × (new ≡ old)) → MayStep whole old (make r (times a b)) answer new
  writes_times made a b L M all a_seen b_seen inside runs put lacked =
      writes (times a b) made (all, tt, rw (← a_seen, ← b_seen) inside) (λ d. d) (rw (← a_seen, ← b_seen) runs) put lacked

  module _ (made : Result (List (ℤ × ℤ)) E) (put : IfOk made (λ L. (answer ≡ done) × (new ≡ slice_set old r L))) (lacked : OnErr made ((answer ≡ refused Memory) × (new ≡ old))) where
    writes_merge : (merge : Merge) (a b : ℕ) → All (λ x. x < length old) (r ∷ a ∷ b ∷ []) → IfOk made (λ L. IsRunsOf L (MergedBy merge (set_at old a) (set_at old b)))
        → MayStep whole old (make r (of_two merge a b)) answer new
    writes_merge merges.Union a b all runs = writes (union a b) made (all, tt, λ z n. absurd n) (λ d. d) runs put lacked
    writes_merge merges.Intersection a b all runs = writes (intersection a b) made (all, tt, λ z n. absurd n) (λ d. d) runs put lacked
    writes_merge merges.Difference a b all runs = writes (difference a b) made (all, tt, λ z n. absurd n) (λ d. d) runs put lacked
    writes_merge merges.SymmetricDifference a b all runs = writes (symmetric a b) made (all, tt, λ z n. absurd n) (λ d. d) runs put lacked

    pub writes_merged : (merge : Merge) (a b : ℕ) (L M : List (ℤ × ℤ)) → All (λ x. x < length old) (r ∷ a ∷ b ∷ []) → L ≡ slice_index_or old a [] → M ≡ slice_index_or old b []
        → IfOk made (λ N. IsRunsOf N (MergedBy merge (Covers L) (Covers M))) → MayStep whole old (make r (of_two merge a b)) answer new
    writes_merged merge a b L M all a_seen b_seen runs = writes_merge merge a b all (rw (← a_seen, ← b_seen) runs)

    pub writes_part : (part : Part) (a : ℕ) (v : ℤ) → All (λ x. x < length old) (r ∷ a ∷ []) → IfOk made (λ L. IsRunsOf L (PartBy part v (set_at old a)))
        → MayStep whole old (make r (of_part part a v)) answer new
    writes_part parts.AtLeast a v all runs = writes (at_least a v) made (all, tt, λ z n. absurd n) (λ d. d) runs put lacked
    writes_part parts.AtMost a v all runs = writes (at_most a v) made (all, tt, λ z n. absurd n) (λ d. d) runs put lacked
    writes_part parts.Above a v all runs = writes (above a v) made (all, tt, λ z n. absurd n) (λ d. d) runs put lacked
    writes_part parts.Below a v all runs = writes (below a v) made (all, tt, λ z n. absurd n) (λ d. d) runs put lacked

    pub writes_value : (op : Op) (a : ℕ) (v : ℤ) → All (λ x. x < length old) (r ∷ a ∷ []) → IsSubset (ExactResultsBy op (set_at old a) (Only v)) (IsBetween whole)
        → IfOk made (λ L. IsRunsOf L (ResultsBy op (set_at old a) (Only v))) → MayStep whole old (make r (of_value op a v)) answer new
    writes_value ops.Sum a v all fits runs = writes (plus_value a v) made (all, tt, fits) (λ d. d) runs put lacked
    writes_value ops.Difference a v all fits runs = writes (minus_value a v) made (all, tt, fits) (λ d. d) runs put lacked
    writes_value ops.Product a v all fits runs = writes (times_value a v) made (all, tt, fits) (λ d. d) runs put lacked

use Rattle.std.proofs.Common.{◌≡◌, ◌↔◌, ◌==◌, IsTrue, Bool, ℕ, ℤ, List, [], length, ap, subst, arith}
use Rattle.std.proofs.lemmas.List.{nil_from_length}
use Rattle.std.proofs.lemmas.Bool.Decides.{nat_tests}
use Rattle.ivl_laws.specs.Sets.{HasNone, HasSome}
use Rattle.ivl_laws.specs.Runs.{Covers}
use Rattle.ivl_laws.proofs.Ranges.{none_is_nil, some_is_filled}
use Rattle.intervallum.proofs.interval_set.IntervalSetIsEmpty.is_empty.Goals as goal

told : (L : List (ℤ × ℤ)) (n : ℕ) (b : Bool) → b ≡ (n == 0) → n ≡ length L → IsTrue b ↔ (length L ≡ 0)
told L n b e f = grind (arith, nat_tests)

pub returns-clause-members : goal.returns-clause-members
returns-clause-members g c =
    let L : List (ℤ × ℤ) = c.self.inside.intervals.items in
    let tells : IsTrue c.is_empty.result ↔ (length L ≡ 0) = told L _ c.is_empty.result c.is_empty.ensures c.self.inside.intervals.ok.0 in
    let none : HasNone (Covers L) ↔ (L ≡ []) = none_is_nil L c.self.invariant.0.maximal in
    let P : List (ℤ × ℤ) → Type 0 = λ M. IsTrue c.is_empty.result ↔ HasNone (Covers M) in
    subst P c.self.view_is (λ t. none.1 (nil_from_length L (tells.0 t)), λ n. tells.1 (ap length (none.0 n)))

pub returns-clause-filled : goal.returns-clause-filled
returns-clause-filled g c n =
    let L : List (ℤ × ℤ) = c.self.inside.intervals.items in
    let tells : IsTrue c.is_empty.result ↔ (length L ≡ 0) = told L _ c.is_empty.result c.is_empty.ensures c.self.inside.intervals.ok.0 in
    let P : List (ℤ × ℤ) → Type 0 = λ M. HasSome (Covers M) in
    subst P c.self.view_is (some_is_filled L c.self.invariant.0.maximal (λ e. n (tells.1 (ap length e))))

-- Small expressions.
use Rattle.std.proofs.Common.{◌≡◌, ◌≢◌, ◌↔◌, ℕ, ◌+◌, ◌<◌, ◌≤◌, ℤ, pos, ◌+ℤ◌, ◌≤ℤ◌, ◌<ℤ◌, List, [], length, get_or, Option, Some, None, cond, leb, eqb, ap, refl, sym, subst, ◌∙◌, arith, find, nat_le, ◌++◌}
use Rattle.std.proofs.lemmas.Bool.Decides.{nat_tests}
use Rattle.std.proofs.lemmas.Int.{ints}
use Rattle.std.proofs.lemmas.List.{get_or_default}
use Rattle.ivl_laws.specs.Families.{set_at}
use Rattle.ivl_laws.specs.Runs.{Covers}
use Rattle.ivl_expr.specs.declared.expr.Expr.{Expr}
use Rattle.ivl_expr.specs.declared.expr.Expr.TheVariants.{Var}
use Rattle.ivl_expr.specs.Variables.{first_missing, occurrences, variables}

-- the first of some variables is missing
first_is_missing : (count i : ℕ) (rest : Option ℕ) → count ≤ i → cond (leb count i) (Some i) rest ≡ Some i
first_is_missing count i rest h = grind (arith, nat_tests)

pub missing_alone : (B : Type 0) (count i : ℕ) → count ≤ i → first_missing {B = B} count (Var i) ≡ Some i
missing_alone B count i h = first_is_missing count i None h

pub missing_left : {B : Type 0} (count i : ℕ) (a b : Expr B) → a ≡ Var i → count ≤ i → find (λ j. nat_le count j) (variables a ++ variables b) ≡ Some i
missing_left count i a b is h = subst (λ d. find (λ j. nat_le count j) (variables d ++ variables b) ≡ Some i) (sym is) (first_is_missing count i _ h)

-- two variables
once : (i k : ℕ) → i ≡ k → 0 < cond (eqb i k) 1 0
once i k e = grind (arith, nat_tests)

not_both : (i j k : ℕ) → (i ≡ j → ⊥) → cond (eqb i k) 1 0 + cond (eqb j k) 1 0 ≤ 1
not_both i j k n = grind (arith, nat_tests)

pub read_once_of_two : {B : Type 0} (a b : Expr B) (i j : ℕ) → a ≡ Var i → b ≡ Var j → ((k : ℕ) → occurrences k a + occurrences k b ≤ 1) ↔ (i ≢ j)
read_once_of_two a b i j is_a is_b = (
  (λ h e.
      let u = h j in
      let v = ap (occurrences j) is_a in
      let w = ap (occurrences j) is_b in
      let o = once i j e in
      let p = once j j refl in
      omega arith),
  (λ n k.
      let v = ap (occurrences k) is_a in
      let w = ap (occurrences k) is_b in
      let u = not_both i j k n in
      omega arith),
)

-- ---- an index

at_place : (sets : List (List (ℤ × ℤ))) (k : ℕ) (set : List (ℤ × ℤ)) (z : ℤ) → k < length sets → set ≡ get_or sets k set → Covers set z → set_at sets k z
at_place sets k set z below is m = subst (λ s. Covers s z) (is ∙ get_or_default sets k set [] below) m

pub sum_is_below : (sets : List (List (ℤ × ℤ))) (first second : List (ℤ × ℤ)) (i k n : ℕ) → 2 ≤ length sets → first ≡ get_or sets 0 first → second ≡ get_or sets 1 second →
    Covers first (pos i) → Covers second (pos k) → ((x y : ℤ) → set_at sets 0 x → set_at sets 1 y → (pos 0 ≤ℤ (x +ℤ y)) × ((x +ℤ y) <ℤ pos n)) → i + k < n
sum_is_below sets first second i k n two e f h m below =
    let (low, high) = below (pos i) (pos k) (at_place sets 0 first (pos i) (omega arith) e h) (at_place sets 1 second (pos k) (omega arith) f m) in
    omega (arith, ints)

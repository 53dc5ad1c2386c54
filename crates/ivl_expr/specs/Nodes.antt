-- The sets of the nodes of an expression, each made of the sets of the nodes below it.
--     Node number e sets      the set of a variable, a constant alone, or `Sums`, `Differences` or `Products` of the
--         operands' node sets, over all numbers
--     subexpressions e      e and all its parts
--     AllNodesIn whole number e sets      the set of each node lies in the range
--     SomeNodeOutside whole number e sets      the set of some node has a member outside the range
--     JoinsProducts S T U      with two products of factors from one run of S and one run of T, U has all that lies
--         between them
--     HoldsNodes number F sets      each `F e` holds what `e` is made of; `Node` is the least such F of all whose
--         sets are covered by lists of pairs
use Rattle.std.specs.Prelude.{ℕ, ℤ, ◌*ℤ◌, List, [], ◌∷◌, ◌++◌, All}
use Rattle.ivl_laws.specs.Sets.{Differences, HasSome, InOneRun, IsBetween, IsSubset, Only, Products, Sums, Without}
use Rattle.ivl_laws.specs.Counts.{IsIn}
use Rattle.ivl_expr.specs.declared.expr.Expr.{Expr}
use Rattle.ivl_expr.specs.declared.expr.Expr.TheVariants.{Var, Const, Add', Sub', Mul'}

abbrev pub Node : {B : Type 0} → (B → ℤ) → Expr B → (ℕ → ℤ → Type 0) → ℤ → Type 0
Node number (Var i) sets = sets i
Node number (Const c) sets = Only (number c)
Node number (Add' p a q b) sets = Sums (Node number a sets) (Node number b sets)
Node number (Sub' p a q b) sets = Differences (Node number a sets) (Node number b sets)
Node number (Mul' p a q b) sets = Products (Node number a sets) (Node number b sets)

abbrev pub subexpressions : {B : Type 0} → Expr B → List (Expr B)
subexpressions (Var i) = Var i ∷ []
subexpressions (Const c) = Const c ∷ []
subexpressions (Add' p a q b) = Add' p a q b ∷ (subexpressions a ++ subexpressions b)
subexpressions (Sub' p a q b) = Sub' p a q b ∷ (subexpressions a ++ subexpressions b)
subexpressions (Mul' p a q b) = Mul' p a q b ∷ (subexpressions a ++ subexpressions b)

abbrev pub AllNodesIn : {B : Type 0} → ℤ × ℤ → (B → ℤ) → Expr B → (ℕ → ℤ → Type 0) → Type 0
AllNodesIn whole number e sets = All (λ n. IsSubset (Node number n sets) (IsBetween whole)) (subexpressions e)

abbrev pub SomeNodeOutside : {B : Type 0} → ℤ × ℤ → (B → ℤ) → Expr B → (ℕ → ℤ → Type 0) → Type 0
SomeNodeOutside {B} whole number e sets =
    (n : Expr B) × IsIn (subexpressions e) n × HasSome (Without (Node number n sets) (IsBetween whole))

abbrev pub JoinsProducts : (ℤ → Type 0) → (ℤ → Type 0) → (ℤ → Type 0) → Type 0
JoinsProducts S T U = (x x' y y' : ℤ) → InOneRun S x x' → InOneRun T y y' → InOneRun U (x *ℤ y) (x' *ℤ y')

pub record HoldsNodes {B : Type 0} (number : B → ℤ) (F : Expr B → ℤ → Type 0) (sets : ℕ → ℤ → Type 0) : Type 0 where
  pub variable : (i : ℕ) → IsSubset (sets i) (F (Var i))
  pub constant : (c : B) → IsSubset (Only (number c)) (F (Const c))
  pub sum : (p : _) (a : Expr B) (q : _) (b : Expr B) → IsSubset (Sums (F a) (F b)) (F (Add' p a q b))
  pub difference : (p : _) (a : Expr B) (q : _) (b : Expr B) → IsSubset (Differences (F a) (F b)) (F (Sub' p a q b))
  pub product : (p : _) (a : Expr B) (q : _) (b : Expr B) → JoinsProducts (F a) (F b) (F (Mul' p a q b))

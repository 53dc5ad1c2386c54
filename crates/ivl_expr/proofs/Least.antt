-- Node sets are the least that hold what each node is made of.
use Rattle.std.proofs.Common.{⊎_elim, inl, inr, ℕ, ℤ}
use Rattle.ivl_laws.specs.Sets.{InOneRun, IsSubset, Products}
use Rattle.ivl_laws.proofs.SetLaws.{sums_are_monotone, differences_are_monotone}
use Rattle.ivl_expr.specs.declared.expr.Expr.{Expr}
use Rattle.ivl_expr.specs.declared.expr.Expr.TheVariants.{Var, Const, Add', Sub', Mul'}
use Rattle.ivl_expr.specs.Nodes.{HoldsNodes, JoinsProducts, Node}

turned : (S : ℤ → Type 0) (x y : ℤ) → InOneRun S x y → InOneRun S y x
turned S x y r z b = r z (⊎_elim (λ c. inr c) (λ c. inl c) b)

pub products_are_joined : (S T : ℤ → Type 0) → JoinsProducts S T (Products S T)
products_are_joined S T x x' y y' r s z = ⊎_elim
    (λ b. (x, x', y, y', r, s, b.0, b.1))
    (λ b. (x', x, y', y, turned S x x' r, turned T y y' s, b.0, b.1))

pub nodes_are_held : {B : Type 0} (number : B → ℤ) (sets : ℕ → ℤ → Type 0) → HoldsNodes number (λ e. Node number e sets) sets
nodes_are_held number sets = record {
  variable = (λ i z m. m);
  constant = (λ c z m. m);
  sum = (λ p a q b z m. m);
  difference = (λ p a q b z m. m);
  product = (λ p a q b. products_are_joined (Node number a sets) (Node number b sets));
}

pub nodes_are_least : {B : Type 0} (number : B → ℤ) (sets : ℕ → ℤ → Type 0) (F : Expr B → ℤ → Type 0) → HoldsNodes number F sets → (e : Expr B) → IsSubset (Node number e sets) (F e)
nodes_are_least number sets F h (Var i) z m = h.variable i z m
nodes_are_least number sets F h (Const c) z m = h.constant c z m
nodes_are_least number sets F h (Add' p a q b) z m = h.sum p a q b z
    (sums_are_monotone (Node number a sets) (F a) (Node number b sets) (F b) (nodes_are_least number sets F h a) (nodes_are_least number sets F h b) z m)
nodes_are_least number sets F h (Sub' p a q b) z m = h.difference p a q b z
    (differences_are_monotone (Node number a sets) (F a) (Node number b sets) (F b) (nodes_are_least number sets F h a) (nodes_are_least number sets F h b) z m)
nodes_are_least number sets F h (Mul' p a q b) z (x, x', y, y', r, s, low, high) = h.product p a q b x x' y y'
    (λ w c. nodes_are_least number sets F h a w (r w c)) (λ w c. nodes_are_least number sets F h b w (s w c)) z (inl (low, high))

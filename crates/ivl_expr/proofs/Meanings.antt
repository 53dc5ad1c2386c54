-- Values and nodes: each value lies in the node's set, and where no variable repeats values come together at one point.
use Rattle.std.proofs.Common.{◌≡◌, ◌∙◌, ℕ, zero, suc, ◌+◌, ◌<◌, ◌≤◌, ◌⊎◌, ⊎_elim, inl, inr, ℤ, ◌+ℤ◌, ◌-ℤ◌, ◌*ℤ◌, refl, sym, subst, arith, cond, ltb, eqb}
use Rattle.std.proofs.lemmas.Bool.Decides.{nat_tests}
use Rattle.ivl_laws.specs.Sets.{IsSubset, SameMembers}
use Rattle.ivl_laws.proofs.SetLaws.{sums_are_monotone, differences_are_monotone, products_are_monotone, exact_products_are_products}
use Rattle.ivl_expr.specs.declared.expr.Expr.{Expr}
use Rattle.ivl_expr.specs.declared.expr.Expr.TheVariants.{Var, Const, Add', Sub', Mul'}
use Rattle.ivl_expr.specs.Variables.{occurrences, Occurs, ReadOnce, NoProduct}
use Rattle.ivl_expr.specs.Values.{value_at, Values}
use Rattle.ivl_expr.specs.Nodes.{Node}

pub occurs_itself : (i : ℕ) → 0 < cond (eqb i i) 1 0
occurs_itself i = grind (arith, nat_tests)

-- ---- each value lies in the node's set

module _ {B : Type 0} (number : B → ℤ) (sets : ℕ → ℤ → Type 0) (p : ℕ → ℤ) where
  -- at a point whose entries are members
  value_in_node : (e : Expr B) → ((i : ℕ) → Occurs i e → sets i (p i)) → Node number e sets (value_at number e p)
  value_in_node (Var i) h = h i (occurs_itself i)
  value_in_node (Const c) h = refl
  value_in_node (Add' l a r b) h = (value_at number a p, value_at number b p, value_in_node a (λ i o. h i (omega arith)), value_in_node b (λ i o. h i (omega arith)), refl)
  value_in_node (Sub' l a r b) h = (value_at number a p, value_at number b p, value_in_node a (λ i o. h i (omega arith)), value_in_node b (λ i o. h i (omega arith)), refl)
  value_in_node (Mul' l a r b) h = exact_products_are_products (Node number a sets) (Node number b sets) (value_at number a p *ℤ value_at number b p)
      (value_at number a p, value_at number b p, value_in_node a (λ i o. h i (omega arith)), value_in_node b (λ i o. h i (omega arith)), refl)

pub values_in_node : {B : Type 0} (number : B → ℤ) (e : Expr B) (sets : ℕ → ℤ → Type 0) → IsSubset (Values number e sets) (Node number e sets)
values_in_node number e sets z v = subst (Node number e sets) v.value (value_in_node number sets v.point e v.within)

-- ---- larger sets have more values, and larger nodes

module _ {B : Type 0} (number : B → ℤ) (sets wider : ℕ → ℤ → Type 0) where
  pub values_are_monotone : (e : Expr B) → ((i : ℕ) → Occurs i e → IsSubset (sets i) (wider i)) → IsSubset (Values number e sets) (Values number e wider)
  values_are_monotone e h z v = record { point = v.point; within = (λ i o. h i o (v.point i) (v.within i o)); value = v.value }

  pub nodes_are_monotone : (e : Expr B) → ((i : ℕ) → Occurs i e → IsSubset (sets i) (wider i)) → IsSubset (Node number e sets) (Node number e wider)
  nodes_are_monotone (Var i) h = h i (occurs_itself i)
  nodes_are_monotone (Const c) h = λ z m. m
  nodes_are_monotone (Add' l a r b) h = sums_are_monotone (Node number a sets) (Node number a wider) (Node number b sets) (Node number b wider)
      (nodes_are_monotone a (λ i o. h i (omega arith))) (nodes_are_monotone b (λ i o. h i (omega arith)))
  nodes_are_monotone (Sub' l a r b) h = differences_are_monotone (Node number a sets) (Node number a wider) (Node number b sets) (Node number b wider)
      (nodes_are_monotone a (λ i o. h i (omega arith))) (nodes_are_monotone b (λ i o. h i (omega arith)))
  nodes_are_monotone (Mul' l a r b) h = products_are_monotone (Node number a sets) (Node number a wider) (Node number b sets) (Node number b wider)
      (nodes_are_monotone a (λ i o. h i (omega arith))) (nodes_are_monotone b (λ i o. h i (omega arith)))

-- ---- points that agree where it matters

value-same : {B : Type 0} (number : B → ℤ) (e : Expr B) (p q : ℕ → ℤ) → ((i : ℕ) → Occurs i e → p i ≡ q i) → value_at number e p ≡ value_at number e q
value-same number (Var i) p q h = h i (occurs_itself i)
value-same number (Const c) p q h = refl
value-same number (Add' l a r b) p q h =
    let u = value-same number a p q (λ i o. h i (omega arith)) in
    let v = value-same number b p q (λ i o. h i (omega arith)) in
    cc
value-same number (Sub' l a r b) p q h =
    let u = value-same number a p q (λ i o. h i (omega arith)) in
    let v = value-same number b p q (λ i o. h i (omega arith)) in
    cc
value-same number (Mul' l a r b) p q h =
    let u = value-same number a p q (λ i o. h i (omega arith)) in
    let v = value-same number b p q (λ i o. h i (omega arith)) in
    cc

-- two points joined: the first where its expression has the variable, and else the second
joined : {B : Type 0} → Expr B → (ℕ → ℤ) → (ℕ → ℤ) → ℕ → ℤ
joined a p q i = cond (ltb 0 (occurrences i a)) (p i) (q i)

joined-first : {B : Type 0} (a : Expr B) (p q : ℕ → ℤ) (i : ℕ) → Occurs i a → joined a p q i ≡ p i
unfolding joined
joined-first a p q i o = grind (arith, nat_tests)

joined-second : {B : Type 0} (a : Expr B) (p q : ℕ → ℤ) (i : ℕ) → occurrences i a ≡ 0 → joined a p q i ≡ q i
unfolding joined
joined-second a p q i o = grind (arith, nat_tests)

-- ---- values of two expressions that share no variable are taken at one point

record Together {B : Type 0} (number : B → ℤ) (a b : Expr B) (sets : ℕ → ℤ → Type 0) (x y : ℤ) : Type 0 where
  point : ℕ → ℤ
  within : (i : ℕ) → 0 < occurrences i a + occurrences i b → sets i (point i)
  first : value_at number a point ≡ x
  second : value_at number b point ≡ y

module _ {B : Type 0} (number : B → ℤ) (a b : Expr B) (sets : ℕ → ℤ → Type 0) (x y z : ℤ) (once : (i : ℕ) → occurrences i a + occurrences i b ≤ 1)
    (v : Values number a sets x) (w : Values number b sets y) where
  together : Together number a b sets x y
  together = record {
    point = joined a v.point w.point;
    within = (λ i o. ⊎_elim
        (λ h. subst (sets i) (sym (joined-first a v.point w.point i h.0)) (v.within i h.0))
        (λ h. subst (sets i) (sym (joined-second a v.point w.point i h.0)) (w.within i h.1))
        (at_one (occurrences i a) (occurrences i b) o (once i)));
    first = value-same number a _ v.point (λ i o. joined-first a v.point w.point i o) ∙ v.value;
    second = value-same number b _ w.point (λ i o. joined-second a v.point w.point i (let u = once i in omega arith)) ∙ w.value;
  }
    where
      at_one : (m n : ℕ) → 0 < m + n → m + n ≤ 1 → ((0 < m) × (n ≡ 0)) ⊎ ((m ≡ 0) × (0 < n))
      at_one zero n h k = inr (refl, omega arith)
      at_one (suc m) n h k = inl (omega arith, omega arith)

  pub value_of_sum : (l : _) (r : _) → x +ℤ y ≡ z → Values number (Add' l a r b) sets z
  value_of_sum l r e = let t : Together number a b sets x y = together in record { point = t.point; within = t.within; value = (let u = t.first in let s = t.second in cc) }

  pub value_of_difference : (l : _) (r : _) → x -ℤ y ≡ z → Values number (Sub' l a r b) sets z
  value_of_difference l r e = let t : Together number a b sets x y = together in record { point = t.point; within = t.within; value = (let u = t.first in let s = t.second in cc) }

  pub value_of_product : (l : _) (r : _) → x *ℤ y ≡ z → Values number (Mul' l a r b) sets z
  value_of_product l r e = let t : Together number a b sets x y = together in record { point = t.point; within = t.within; value = (let u = t.first in let s = t.second in cc) }

pub value_of_variable : {B : Type 0} (number : B → ℤ) (i : ℕ) (sets : ℕ → ℤ → Type 0) (z : ℤ) → sets i z → Values {B = B} number (Var i) sets z
value_of_variable number i sets z h = record { point = (λ j. z); within = (λ j o. subst (λ k. sets k z) (only_one i j o) h); value = refl }
  where
    only_one : (i j : ℕ) → 0 < cond (eqb i j) 1 0 → i ≡ j
    only_one i j h = grind (arith, nat_tests)

pub value_of_constant : {B : Type 0} (number : B → ℤ) (c : B) (sets : ℕ → ℤ → Type 0) (z : ℤ) → z ≡ number c → Values number (Const c) sets z
value_of_constant number c sets z h = record { point = (λ i. z); within = (λ i o. absurd (omega arith)); value = sym h }

-- ---- read once and without products, each member is a value

pub node_in_values : {B : Type 0} (number : B → ℤ) (e : Expr B) (sets : ℕ → ℤ → Type 0) → ReadOnce e → NoProduct e → IsSubset (Node number e sets) (Values number e sets)
node_in_values number (Var i) sets once none z h = value_of_variable number i sets z h
node_in_values number (Const c) sets once none z h = value_of_constant number c sets z h
node_in_values number (Add' l a r b) sets once none z (x, y, h, k, e) = value_of_sum number a b sets x y z once
    (node_in_values number a sets (λ i. let u = once i in omega arith) (omega arith) x h)
    (node_in_values number b sets (λ i. let u = once i in omega arith) (omega arith) y k) l r e
node_in_values number (Sub' l a r b) sets once none z (x, y, h, k, e) = value_of_difference number a b sets x y z once
    (node_in_values number a sets (λ i. let u = once i in omega arith) (omega arith) x h)
    (node_in_values number b sets (λ i. let u = once i in omega arith) (omega arith) y k) l r e
node_in_values number (Mul' l a r b) sets once none z s = absurd (omega arith)

pub node_is_values : {B : Type 0} (number : B → ℤ) (e : Expr B) (sets : ℕ → ℤ → Type 0) → ReadOnce e → NoProduct e → SameMembers (Node number e sets) (Values number e sets)
node_is_values number e sets once none z = (node_in_values number e sets once none z, values_in_node number e sets z)

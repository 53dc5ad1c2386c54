-- From the sets of the operands to the set of the node.
use Rattle.std.proofs.Common.{◌≡◌, ◌⊎◌, inl, inr, ℤ, ◌+ℤ◌, ◌-ℤ◌, ◌*ℤ◌, ℕ, ◌+◌, ◌<◌, ◌≤◌, List, [], ◌∷◌, ◌++◌, length, get_or, slice_index_or, Box, Global, Result, Err, IsErrAnd, refl, sym, subst, ◌∙◌, arith}
use Rattle.std.specs.Prelude.{All}
use Rattle.std.proofs.lemmas.List.Elements.{All-append, All-cons, All-head, All-nil, All-same, All-tail}
use Rattle.ivl_laws.specs.Sets.{Differences, HasSome, IsBetween, IsSubset, Only, Products, SameMembers, Sums, Without}
use Rattle.ivl_laws.specs.Runs.{Covers, IsMaximal, IsRunListIn, IsRunsOf}
use Rattle.ivl_laws.specs.Families.{set_at}
use Rattle.std.proofs.lemmas.List.{get_or_default}
use Rattle.ivl_laws.proofs.Ranges.{IsRunsOf-covers}
use Rattle.ivl_laws.specs.Counts.{IsIn}
use Rattle.ivl_laws.proofs.Ends.{IsEndIn, IsOfEnds, ends_of_sums, ends_of_differences, ends_of_products}
use Rattle.ivl_laws.proofs.SetLaws.{IsRunsOf-same, sums_are_monotone, differences_are_monotone, products_are_monotone}
use Rattle.ivl_laws.proofs.Products.{one_covers, open_in}
use Rattle.ivl_laws.proofs.Runs.{lower_end, upper_end}
use Rattle.ivl_expr.specs.declared.expr.Expr.{Expr}
use Rattle.ivl_expr.specs.declared.expr.Expr.TheVariants.{Var, Const}
use Rattle.ivl_expr.specs.declared.expr.Expr.TheViews.{Add, Sub, Mul}
use Rattle.ivl_expr.specs.Variables.{occurrences, ReadOnce}
use Rattle.ivl_expr.specs.Values.{Values}
use Rattle.ivl_expr.specs.Nodes.{AllNodesIn, Node, SomeNodeOutside, subexpressions}
use Rattle.ivl_expr.specs.NodeSets.{VariablesBelow, IsNodeSet}
use Rattle.ivl_expr.proofs.Meanings.{value_of_sum, value_of_difference, value_of_product, value_of_variable, value_of_constant}
use Rattle.ivl_expr.proofs.Pairs.{IsPair, IsPair-from}
use Rattle.ivl_laws.proofs.Counts.{in-append_left, in-append_right}

-- ---- lists

all_from_in : {X : Type 0} (P : X → Type 0) (xs : List X) → ((x : X) → IsIn xs x → P x) → All P xs
all_from_in P [] h = All-nil P
all_from_in P (x ∷ xs) h = All-cons P x xs (h x (inl refl)) (all_from_in P xs (λ y i. h y (inr i)))

-- what holds at both ends of each pair holds at each end
at_end : (P : ℤ → Type 0) (L : List (ℤ × ℤ)) (x : ℤ) → All (λ run. P run.0 × P run.1) L → IsEndIn L x → P x
at_end P [] x h i = absurd i
at_end P (p ∷ L) x h (inl e) = subst P (sym e) (All-head (λ run. P run.0 × P run.1) p L h).0
at_end P (p ∷ L) x h (inr (inl e)) = subst P (sym e) (All-head (λ run. P run.0 × P run.1) p L h).1
at_end P (p ∷ L) x h (inr (inr i)) = at_end P L x (All-tail (λ run. P run.0 × P run.1) p L h) i

-- ---- whether nodes lie in the range

module _ {B : Type 0} (whole : ℤ × ℤ) (number : B → ℤ) (sets : ℕ → ℤ → Type 0) where
  module _ (e a b : Expr B) (p : IsPair e a b) where
    outside_left : SomeNodeOutside whole number a sets → SomeNodeOutside whole number e sets
    outside_left (n, i, out) = (n, subst (λ xs. IsIn xs n) (sym p.nodes) (inr (in-append_left (subexpressions a) (subexpressions b) n i)), out)

    outside_right : SomeNodeOutside whole number b sets → SomeNodeOutside whole number e sets
    outside_right (n, i, out) = (n, subst (λ xs. IsIn xs n) (sym p.nodes) (inr (in-append_right (subexpressions a) (subexpressions b) n i)), out)

    outside_here : HasSome (Without (Node number e sets) (IsBetween whole)) → SomeNodeOutside whole number e sets
    outside_here out = (e, subst (λ xs. IsIn xs e) (sym p.nodes) (inl refl), out)

    all_in : AllNodesIn whole number a sets → AllNodesIn whole number b sets → IsSubset (Node number e sets) (IsBetween whole) → AllNodesIn whole number e sets
    all_in h k m = All-same (λ n. IsSubset (Node number n sets) (IsBetween whole)) (subexpressions e) (e ∷ (subexpressions a ++ subexpressions b)) p.nodes
        (All-cons (λ n. IsSubset (Node number n sets) (IsBetween whole)) e (subexpressions a ++ subexpressions b) m
        (All-append (λ n. IsSubset (Node number n sets) (IsBetween whole)) (subexpressions a) (subexpressions b) h k))

  -- ---- a node of two operands, for an operation with results R whose runs end in results of ends

  module _ (e a b : Expr B) (p : IsPair e a b) (op : ℤ → ℤ → ℤ) (R : (ℤ → Type 0) → (ℤ → Type 0) → ℤ → Type 0)
      (node : SameMembers (R (Node number a sets) (Node number b sets)) (Node number e sets))
      (grows : (S S' T T' : ℤ → Type 0) → IsSubset S S' → IsSubset T T' → IsSubset (R S T) (R S' T'))
      (value : (x y z : ℤ) → ((i : ℕ) → occurrences i a + occurrences i b ≤ 1) → Values number a sets x → Values number b sets y → op x y ≡ z → Values number e sets z)
      (ends_of : (Q L M : List (ℤ × ℤ)) (r : ℤ × ℤ) → IsMaximal L → IsMaximal M → IsRunsOf Q (R (Covers L) (Covers M)) → IsIn Q r → IsOfEnds op L M r.0 × IsOfEnds op L M r.1)
      (L M : List (ℤ × ℤ)) (h : IsNodeSet whole number a sets L) (k : IsNodeSet whole number b sets M) where
    results : SameMembers (R (Covers L) (Covers M)) (Node number e sets)
    results z = (
      (λ r. (node z).0 (grows (Covers L) (Node number a sets) (Covers M) (Node number b sets) (λ x. (h.members.members x).0) (λ x. (k.members.members x).0) z r)),
      (λ n. grows (Node number a sets) (Covers L) (Node number b sets) (Covers M) (λ x. (h.members.members x).1) (λ x. (k.members.members x).1) z ((node z).1 n)),
    )

    made_outside : HasSome (Without (R (Covers L) (Covers M)) (IsBetween whole)) → SomeNodeOutside whole number e sets
    made_outside (z, (r, out)) = outside_here e a b p (z, ((results z).0 r, out))

    made_node : (Q : List (ℤ × ℤ)) → IsSubset (R (Covers L) (Covers M)) (IsBetween whole) → IsRunsOf Q (R (Covers L) (Covers M)) → IsNodeSet whole number e sets Q
    made_node Q within is = record {
      nodes = all_in e a b p h.nodes k.nodes (λ z n. within z ((results z).1 n));
      members = IsRunsOf-same (R (Covers L) (Covers M)) (Node number e sets) Q results is;
      ends = (λ once. all_from_in (λ run. Values number e sets run.0 × Values number e sets run.1) Q (λ run i.
          let both = ends_of Q L M run h.members.maximal k.members.maximal is i in (taken once run.0 both.0, taken once run.1 both.1)));
    }
      where
        taken : ReadOnce e → (t : ℤ) → IsOfEnds op L M t → Values number e sets t
        taken once t (x, y, i, j, same) = value x y t (λ v. let n = p.counted v in let u = once v in omega arith)
            (at_end (Values number a sets) L x (h.ends (λ v. let n = p.counted v in let u = once v in omega arith)) i)
            (at_end (Values number b sets) M y (k.ends (λ v. let n = p.counted v in let u = once v in omega arith)) j) same

  -- ---- each operation

  module _ (e a' b' : Expr B) (a b : Box (Expr B) Global) (L L' M M' : List (ℤ × ℤ)) (same_left : a' ≡ a.value) (same_right : b' ≡ b.value) (left : L ≡ L') (right : M ≡ M')
      (h : IsNodeSet whole number a' sets L') (k : IsNodeSet whole number b' sets M') where
    first : IsNodeSet whole number a.value sets L
    first = subst (λ d. IsNodeSet whole number d sets L) same_left (subst (λ l. IsNodeSet whole number a' sets l) (sym left) h)

    second : IsNodeSet whole number b.value sets M
    second = subst (λ d. IsNodeSet whole number d sets M) same_right (subst (λ l. IsNodeSet whole number b' sets l) (sym right) k)

    pub sum_outside : e ≡ Add a b → HasSome (Without (Sums (Covers L) (Covers M)) (IsBetween whole)) → SomeNodeOutside whole number e sets
    sum_outside is out = subst (λ d. SomeNodeOutside whole number d sets) (sym is)
        (made_outside (Add a b) a.value b.value (IsPair-from (Add a b) a b (inl refl)) (λ x y. x +ℤ y) Sums (λ z. ((λ s. s), (λ s. s))) sums_are_monotone
        (λ x y z once v w. value_of_sum number a.value b.value sets x y z once v w _ _) ends_of_sums L M first second out)

    pub sum_node : (Q : List (ℤ × ℤ)) → e ≡ Add a b → IsSubset (Sums (Covers L) (Covers M)) (IsBetween whole) → IsRunsOf Q (Sums (Covers L) (Covers M)) → IsNodeSet whole number e sets Q
    sum_node Q is within runs = subst (λ d. IsNodeSet whole number d sets Q) (sym is)
        (made_node (Add a b) a.value b.value (IsPair-from (Add a b) a b (inl refl)) (λ x y. x +ℤ y) Sums (λ z. ((λ s. s), (λ s. s))) sums_are_monotone
        (λ x y z once v w. value_of_sum number a.value b.value sets x y z once v w _ _) ends_of_sums L M first second Q within runs)

    pub difference_outside : e ≡ Sub a b → HasSome (Without (Differences (Covers L) (Covers M)) (IsBetween whole)) → SomeNodeOutside whole number e sets
    difference_outside is out = subst (λ d. SomeNodeOutside whole number d sets) (sym is)
        (made_outside (Sub a b) a.value b.value (IsPair-from (Sub a b) a b (inr (inl refl))) (λ x y. x -ℤ y) Differences (λ z. ((λ s. s), (λ s. s))) differences_are_monotone
        (λ x y z once v w. value_of_difference number a.value b.value sets x y z once v w _ _) ends_of_differences L M first second out)

    pub difference_node : (Q : List (ℤ × ℤ)) → e ≡ Sub a b → IsSubset (Differences (Covers L) (Covers M)) (IsBetween whole) → IsRunsOf Q (Differences (Covers L) (Covers M)) → IsNodeSet whole number e sets Q
    difference_node Q is within runs = subst (λ d. IsNodeSet whole number d sets Q) (sym is)
        (made_node (Sub a b) a.value b.value (IsPair-from (Sub a b) a b (inr (inl refl))) (λ x y. x -ℤ y) Differences (λ z. ((λ s. s), (λ s. s))) differences_are_monotone
        (λ x y z once v w. value_of_difference number a.value b.value sets x y z once v w _ _) ends_of_differences L M first second Q within runs)

    pub product_outside : e ≡ Mul a b → HasSome (Without (Products (Covers L) (Covers M)) (IsBetween whole)) → SomeNodeOutside whole number e sets
    product_outside is out = subst (λ d. SomeNodeOutside whole number d sets) (sym is)
        (made_outside (Mul a b) a.value b.value (IsPair-from (Mul a b) a b (inr (inr refl))) (λ x y. x *ℤ y) Products (λ z. ((λ s. s), (λ s. s))) products_are_monotone
        (λ x y z once v w. value_of_product number a.value b.value sets x y z once v w _ _) ends_of_products L M first second out)

    pub product_node : (Q : List (ℤ × ℤ)) → e ≡ Mul a b → IsSubset (Products (Covers L) (Covers M)) (IsBetween whole) → IsRunsOf Q (Products (Covers L) (Covers M)) → IsNodeSet whole number e sets Q
    product_node Q is within runs = subst (λ d. IsNodeSet whole number d sets Q) (sym is)
        (made_node (Mul a b) a.value b.value (IsPair-from (Mul a b) a b (inr (inr refl))) (λ x y. x *ℤ y) Products (λ z. ((λ s. s), (λ s. s))) products_are_monotone
        (λ x y z once v w. value_of_product number a.value b.value sets x y z once v w _ _) ends_of_products L M first second Q within runs)

  module _ (e d : Expr B) (a b : Box (Expr B) Global) (is : (e ≡ Add a b) ⊎ ((e ≡ Sub a b) ⊎ (e ≡ Mul a b))) where
    pub left_outside : d ≡ a.value → SomeNodeOutside whole number d sets → SomeNodeOutside whole number e sets
    left_outside same out = outside_left e a.value b.value (IsPair-from e a b is) (subst (λ n. SomeNodeOutside whole number n sets) same out)

    pub right_outside : d ≡ b.value → SomeNodeOutside whole number d sets → SomeNodeOutside whole number e sets
    right_outside same out = outside_right e a.value b.value (IsPair-from e a b is) (subst (λ n. SomeNodeOutside whole number n sets) same out)

  -- ---- a variable and a constant

  pub variable_node : (e : Expr B) (i : ℕ) (L : List (ℤ × ℤ)) → e ≡ Var i → IsRunsOf L (sets i) → IsSubset (Covers L) (IsBetween whole) → IsNodeSet whole number e sets L
  variable_node e i L is runs within = subst (λ d. IsNodeSet whole number d sets L) (sym is) (record {
    nodes = All-cons (λ n. IsSubset (Node number n sets) (IsBetween whole)) (Var i) [] (λ z s. within z ((runs.members z).1 s)) (All-nil (λ n. IsSubset (Node number n sets) (IsBetween whole)));
    members = runs;
    ends = (λ _. all_from_in (λ run. Values {B = B} number (Var i) sets run.0 × Values {B = B} number (Var i) sets run.1) L (λ run j.
        let o = open_in L run runs.maximal j in (
          value_of_variable number i sets run.0 ((runs.members run.0).0 (one_covers L run run.0 j (lower_end run o))),
          value_of_variable number i sets run.1 ((runs.members run.1).0 (one_covers L run run.1 j (upper_end run o))),
        )));
  })

  pub constant_node : (e : Expr B) (c : B) (L : List (ℤ × ℤ)) → e ≡ Const c → IsRunsOf L (Only (number c)) → IsSubset (Only (number c)) (IsBetween whole) → IsNodeSet whole number e sets L
  constant_node e c L is runs within = subst (λ d. IsNodeSet whole number d sets L) (sym is) (record {
    nodes = All-cons (λ n. IsSubset (Node number n sets) (IsBetween whole)) (Const c) [] within (All-nil (λ n. IsSubset (Node number n sets) (IsBetween whole)));
    members = runs;
    ends = (λ _. all_from_in (λ run. Values number (Const c) sets run.0 × Values number (Const c) sets run.1) L (λ run j.
        let o = open_in L run runs.maximal j in (
          value_of_constant number c sets run.0 ((runs.members run.0).0 (one_covers L run run.0 j (lower_end run o))),
          value_of_constant number c sets run.1 ((runs.members run.1).0 (one_covers L run run.1 j (upper_end run o))),
        )));
  })

  pub constant_outside : (e : Expr B) (c : B) → e ≡ Const c → HasSome (Without (Only (number c)) (IsBetween whole)) → SomeNodeOutside whole number e sets
  constant_outside e c is out = subst (λ d. SomeNodeOutside whole number d sets) (sym is) (Const c, inl refl, out)

-- the set of a variable that is lent
pub lent_node : {B : Type 0} (whole : ℤ × ℤ) (number : B → ℤ) (sets : List (List (ℤ × ℤ))) (e : Expr B) (i : ℕ) (L set : List (ℤ × ℤ)) →
    e ≡ Var i → VariablesBelow (length sets) e → set ≡ get_or sets i set → L ≡ set → IsRunListIn whole set → IsNodeSet whole number e (set_at sets) L
lent_node whole number sets e i L set is present seen lent runs =
    let below : i < length sets = subst (VariablesBelow (length sets)) is present in
    let same : set ≡ slice_index_or sets i [] = seen ∙ get_or_default sets i set [] below in
    variable_node whole number (set_at sets) e i L is
    (subst (λ l. IsRunsOf L (Covers l)) same (subst (λ l. IsRunsOf L (Covers l)) lent (IsRunsOf-covers L (subst IsMaximal (sym lent) runs.maximal))))
    (subst (λ l. IsSubset (Covers l) (IsBetween whole)) (sym lent) runs.within)

-- the fault that a `?` passes on
pub passed_on : {A E : Type 0} (r : Result A E) (y : E) (P : E → Type 0) → IsErrAnd r P → r ≡ Err y → P y
passed_on r y P h is = subst (λ q. IsErrAnd q P) is h

-- The numbers of intervals, taken from either end, and the members of a list of runs.
use Rattle.std.proofs.Common.{◌≡◌, ⊎_elim, inl, inr, ℕ, suc, zero, ℤ, pos, negsuc, ◌+ℤ◌, ◌-ℤ◌, ◌≤ℤ◌, List, [], ◌∷◌, ◌++◌, append-nil, append_assoc, length-append, refl, sym, ap, ◌∙◌, subst, arith}
use Rattle.std.specs.Prelude.{◌<ℤ◌, Option, Some, None, length, ⊤}
use Rattle.std.specs.Iterator.{MakesProgress, YieldsFirstBy, YieldsLastBy, item_count}
use Rattle.std.specs.List.{AllByRecursion}
use Rattle.std.proofs.lemmas.Int.{ints, clamps, by_lt_z}
use Rattle.ivl_laws.specs.Sets.{Above, Below, HasSome, IsBetween, IsCrossed, SameMembers}
use Rattle.ivl_laws.specs.Runs.{Covers, IsMaximal}
use Rattle.ivl_laws.specs.Bounds.{width_of}
use Rattle.ivl_laws.specs.Counts.{IsIn}
use Rattle.ivl_laws.proofs.Runs.{covered_after}
use Rattle.ivl_laws.proofs.Intervals.{crossed_if_same, none_is_crossed, pos-non_negative_part, same_between, some_is_not_crossed, width_of-crossed, width_of-filled}
use Rattle.ivl_laws.proofs.Counts.{in-append, in-append_left, in-append_right}
use Rattle.ivl_places.specs.Members.{IsAscending, members_of, numbers_from, numbers_of}

-- ---- the numbers of an interval

pub numbers_of-crossed : (p : ℤ × ℤ) → IsCrossed p → numbers_of p ≡ []
numbers_of-crossed p c = ap (numbers_from p.0) (width_of-crossed p c)

same_numbers : (p q : ℤ × ℤ) → SameMembers (IsBetween p) (IsBetween q) → numbers_of p ≡ numbers_of q
same_numbers p q h = by_lt_z p.1 p.0
    (λ c. numbers_of-crossed p c ∙ sym (numbers_of-crossed q (crossed_if_same p q c h)))
    (λ o. ap numbers_of (same_between p q o h))

pub without_lower : (p : ℤ × ℤ) → p.0 ≤ℤ p.1 → width_of p ≡ suc (width_of (p.0 +ℤ pos 1, p.1))
without_lower p o = omega (arith, ints, clamps, width_of-filled p o, pos-non_negative_part ((p.1 -ℤ (p.0 +ℤ pos 1)) +ℤ pos 1))

without_upper : (p : ℤ × ℤ) → p.0 ≤ℤ p.1 → width_of p ≡ suc (width_of (p.0, p.1 -ℤ pos 1))
without_upper p o = omega (arith, ints, clamps, width_of-filled p o, pos-non_negative_part (((p.1 -ℤ pos 1) -ℤ p.0) +ℤ pos 1))

-- the numbers of p without the least one
pub least_apart : (p q : ℤ × ℤ) (v : ℤ) → HasSome (IsBetween p) → v ≡ p.0 → SameMembers (IsBetween q) (Above v (IsBetween p)) → numbers_of p ≡ v ∷ numbers_of q
least_apart p q v s e h =
    let o = (some_is_not_crossed p).0 s in
    let rest : numbers_of (p.0 +ℤ pos 1, p.1) ≡ numbers_of q = same_numbers (p.0 +ℤ pos 1, p.1) q (λ z. (
      (λ b. let low = b.0 in let high = b.1 in (h z).1 ((omega (arith, ints), high), omega (arith, ints))),
      (λ b. let a = (h z).0 b in let above = a.1 in (omega (arith, ints), a.0.1)),
    )) in
    ap (numbers_from p.0) (without_lower p o) ∙ ap (λ (M : List ℤ). p.0 ∷ M) rest ∙ ap (λ (x : ℤ). x ∷ numbers_of q) (sym e)

numbers_from-last : (v : ℤ) (n : ℕ) → numbers_from v (suc n) ≡ numbers_from v n ++ (v +ℤ pos n) ∷ []
numbers_from-last v zero = ap (λ (x : ℤ). x ∷ []) (omega (arith, ints))
numbers_from-last v (suc n) =
    let e : (v +ℤ pos 1) +ℤ pos n ≡ v +ℤ pos (suc n) = omega (arith, ints) in
    ap (λ (M : List ℤ). v ∷ M) (numbers_from-last (v +ℤ pos 1) n ∙ ap (λ (x : ℤ). numbers_from (v +ℤ pos 1) n ++ x ∷ []) e)

-- the numbers of p without the greatest one
pub greatest_apart : (p q : ℤ × ℤ) (v : ℤ) → HasSome (IsBetween p) → v ≡ p.1 → SameMembers (IsBetween q) (Below v (IsBetween p)) → numbers_of p ≡ numbers_of q ++ v ∷ []
greatest_apart p q v s e h =
    let o = (some_is_not_crossed p).0 s in
    let n = width_of (p.0, p.1 -ℤ pos 1) in
    let w : width_of p ≡ suc n = without_upper p o in
    let last : p.0 +ℤ pos n ≡ v = omega (arith, ints, width_of-filled p o) in
    let rest : numbers_of (p.0, p.1 -ℤ pos 1) ≡ numbers_of q = same_numbers (p.0, p.1 -ℤ pos 1) q (λ z. (
      (λ b. let low = b.0 in let high = b.1 in (h z).1 ((low, omega (arith, ints)), omega (arith, ints))),
      (λ b. let a = (h z).0 b in let below = a.1 in (a.0.0, omega (arith, ints))),
    )) in
    ap (numbers_from p.0) w ∙ numbers_from-last p.0 n ∙ ap (λ (x : ℤ). numbers_of (p.0, p.1 -ℤ pos 1) ++ x ∷ []) last ∙ ap (λ (M : List ℤ). M ++ v ∷ []) rest

in_numbers_from : (v : ℤ) (n : ℕ) (z : ℤ) → IsIn (numbers_from v n) z → (v ≤ℤ z) × (z <ℤ (v +ℤ pos n))
in_numbers_from v zero z i = absurd i
in_numbers_from v (suc n) z (inl e) = (omega (arith, ints), omega (arith, ints))
in_numbers_from v (suc n) z (inr i) = let k = in_numbers_from (v +ℤ pos 1) n z i in let low = k.0 in let high = k.1 in (omega (arith, ints), omega (arith, ints))

numbers_from_has : (v : ℤ) (n : ℕ) (z : ℤ) → v ≤ℤ z → z <ℤ (v +ℤ pos n) → IsIn (numbers_from v n) z
numbers_from_has v zero z low high = absurd (omega (arith, ints))
numbers_from_has v (suc n) z low high = by_lt_z v z
    (λ above. inr (numbers_from_has (v +ℤ pos 1) n z (omega (arith, ints)) (omega (arith, ints))))
    (λ le. inl (omega (arith, ints)))

in_numbers : (p : ℤ × ℤ) → SameMembers (IsBetween p) (IsIn (numbers_of p))
in_numbers p z = by_lt_z p.1 p.0
    (λ c. let e = numbers_of-crossed p c in (
      (λ b. absurd ((none_is_crossed p).1 c z b)),
      (λ i. absurd (subst (λ (M : List ℤ). IsIn M z) e i)),
    ))
    (λ o. let w = width_of-filled p o in (
      (λ b. let low = b.0 in let high = b.1 in numbers_from_has p.0 (width_of p) z low (omega (arith, ints))),
      (λ i. let k = in_numbers_from p.0 (width_of p) z i in let low = k.0 in let high = k.1 in (low, omega (arith, ints))),
    ))

-- ---- the members of a list of runs

pub in_members : (L : List (ℤ × ℤ)) → SameMembers (Covers L) (IsIn (members_of L))
in_members [] z = ((λ c. c), (λ i. i))
in_members (p ∷ L) z = (
  ⊎_elim (λ b. in-append_left (numbers_of p) (members_of L) z ((in_numbers p z).0 b)) (λ c. in-append_right (numbers_of p) (members_of L) z ((in_members L z).0 c)),
  (λ i. ⊎_elim (λ a. inl ((in_numbers p z).1 a)) (λ b. inr ((in_members L z).1 b)) (in-append (numbers_of p) (members_of L) z i)),
)

ascending_numbers : (v : ℤ) (n : ℕ) → IsAscending (numbers_from v n)
ascending_numbers v zero = tt
ascending_numbers v (suc n) = ((λ z i. let k = (in_numbers_from (v +ℤ pos 1) n z i).0 in omega (arith, ints)), ascending_numbers (v +ℤ pos 1) n)

IsAscending-append : (M N : List ℤ) → IsAscending M → IsAscending N → ((x y : ℤ) → IsIn M x → IsIn N y → x <ℤ y) → IsAscending (M ++ N)
IsAscending-append [] N a b f = b
IsAscending-append (x ∷ M) N a b f = ((λ y i. ⊎_elim (a.0 y) (f x y (inl refl)) (in-append M N y i)), IsAscending-append M N a.1 b (λ u y i j. f u y (inr i) j))

pub ascending_members : (L : List (ℤ × ℤ)) → IsMaximal L → IsAscending (members_of L)
ascending_members [] m = tt
ascending_members (p ∷ L) m = IsAscending-append (numbers_of p) (members_of L) (ascending_numbers p.0 (width_of p)) (ascending_members L m.2) (λ x y i j.
    let high = ((in_numbers p x).1 i).1 in
    let far = covered_after p.1 L y m.1 m.2 ((in_members L y).1 j) in
    omega (arith, ints))

pub members_of-push : (L : List (ℤ × ℤ)) (p : ℤ × ℤ) → members_of (L ++ p ∷ []) ≡ members_of L ++ numbers_of p
members_of-push [] p = append-nil (numbers_of p)
members_of-push (q ∷ L) p = ap (λ (M : List ℤ). numbers_of q ++ M) (members_of-push L p) ∙ sym (append_assoc (numbers_of q) (members_of L) (numbers_of p))

-- two runs, and a crossed pair between them, which has no number
two_runs : members_of ((pos 1, pos 2) ∷ (pos 4, pos 3) ∷ (pos 5, pos 6) ∷ []) ≡ pos 1 ∷ pos 2 ∷ pos 5 ∷ pos 6 ∷ []
two_runs = refl

around_zero : members_of ((negsuc 1, pos 1) ∷ []) ≡ negsuc 1 ∷ negsuc 0 ∷ pos 0 ∷ pos 1 ∷ []
around_zero = refl

-- ---- one step of the iterator

-- what is left is a part and the rest, and the part is empty only where nothing is left
pub record IsReady (all part rest : List ℤ) : Type 0 where
  pub parts : all ≡ part ++ rest
  pub none : part ≡ [] → rest ≡ []

-- the part that is there already
pub ready_as_is : (all : List ℤ) (F L : ℤ × ℤ) (B : List (ℤ × ℤ)) → numbers_of F ++ members_of B ++ numbers_of L ≡ all → HasSome (IsBetween F) →
    IsReady all (numbers_of F) (members_of B ++ numbers_of L)
ready_as_is all F L B e s = record {
  parts = sym e ∙ append_assoc (numbers_of F) (members_of B) (numbers_of L);
  none = λ n. absurd (subst (λ (M : List ℤ). IsIn M s.0) n ((in_numbers F s.0).0 s.1));
}

-- the first of the runs between
pub ready_by_run : (all : List ℤ) (F L run : ℤ × ℤ) (B rest : List (ℤ × ℤ)) → numbers_of F ++ members_of B ++ numbers_of L ≡ all → AllByRecursion (λ r. r.0 ≤ℤ r.1) B → IsCrossed F → B ≡ run ∷ rest →
    IsReady all (numbers_of run) (members_of rest ++ numbers_of L)
ready_by_run all F L run B rest e o c f = ready_as_is all run L rest
    (sym (ap (λ (M : List ℤ). M ++ members_of B ++ numbers_of L) (numbers_of-crossed F c) ∙ ap (λ (N : List (ℤ × ℤ)). members_of N ++ numbers_of L) f) ∙ e)
    ((some_is_not_crossed run).1 (subst (AllByRecursion (λ (r : ℤ × ℤ). r.0 ≤ℤ r.1)) f o).0)

-- the part at the other end, where no run is between
pub ready_by_last : (all : List ℤ) (F L E : ℤ × ℤ) (B : List (ℤ × ℤ)) → numbers_of F ++ members_of B ++ numbers_of L ≡ all → IsCrossed F → IsCrossed E → length B ≡ 0 →
    IsReady all (numbers_of L) (members_of B ++ numbers_of E)
ready_by_last all F L E [] e c d h = record {
  parts = sym e ∙ ap (λ (M : List ℤ). M ++ [] ++ numbers_of L) (numbers_of-crossed F c) ∙ sym (append-nil (numbers_of L)) ∙ ap (λ (M : List ℤ). numbers_of L ++ M) (sym (numbers_of-crossed E d));
  none = λ n. numbers_of-crossed E d;
}
ready_by_last all F L E (p ∷ B) e c d h = absurd (omega arith)

pub first_of_part : {A : Type 0} (value : A → ℤ) (all part left M N : List ℤ) (r : Option A) → IsReady all part (M ++ N) →
    YieldsFirstBy value (λ (l : List ℤ). l) part r left → YieldsFirstBy value (λ (l : List ℤ). l) all r (left ++ M ++ N)
first_of_part value all part left M N None h y =
    let e = h.none y.0 in (
      h.parts ∙ ap (λ (K : List ℤ). K ++ (M ++ N)) y.0 ∙ e,
      ap (λ (K : List ℤ). K ++ M ++ N) y.1 ∙ e,
    )
first_of_part value all part left M N (Some x) h y = h.parts ∙ ap (λ (K : List ℤ). K ++ (M ++ N)) y ∙ sym (append_assoc (value x ∷ left) M N)

pub goes_by_first : {A : Type 0} (value : A → ℤ) (all left : List ℤ) (r : Option A) → YieldsFirstBy value (λ (l : List ℤ). l) all r left → MakesProgress (λ _. ⊤) (item_count (λ (l : List ℤ). l)) all r left
goes_by_first value all left None y = record { on = λ f. tt; keeps = tt; rests = λ f. tt }
goes_by_first value all left (Some x) y = let e = ap length y in record { on = λ f. (tt, tt, omega arith); keeps = tt; rests = λ f. tt }

-- ---- one step from the back

pub record IsReadyBack (all rest part : List ℤ) : Type 0 where
  pub parts : all ≡ rest ++ part
  pub none : part ≡ [] → rest ≡ []

pub back_as_is : (all : List ℤ) (F L : ℤ × ℤ) (B : List (ℤ × ℤ)) → numbers_of F ++ members_of B ++ numbers_of L ≡ all → HasSome (IsBetween L) →
    IsReadyBack all (numbers_of F ++ members_of B) (numbers_of L)
back_as_is all F L B e s = record {
  parts = sym e;
  none = λ n. absurd (subst (λ (M : List ℤ). IsIn M s.0) n ((in_numbers L s.0).0 s.1));
}

each_of_pushed : (P : ℤ × ℤ → Type 0) (B : List (ℤ × ℤ)) (run : ℤ × ℤ) → AllByRecursion P (B ++ run ∷ []) → AllByRecursion P B × P run
each_of_pushed P [] run a = (tt, a.0)
each_of_pushed P (p ∷ B) run a = let k = each_of_pushed P B run a.1 in ((a.0, k.0), k.1)

-- the runs after the first one have numbers as well
pub filled_after : (run : ℤ × ℤ) (B rest : List (ℤ × ℤ)) → AllByRecursion (λ r. r.0 ≤ℤ r.1) B → B ≡ run ∷ rest → AllByRecursion (λ r. r.0 ≤ℤ r.1) rest
filled_after run B rest o f = (subst (AllByRecursion (λ (r : ℤ × ℤ). r.0 ≤ℤ r.1)) f o).1

-- the runs before the last one have numbers as well
pub filled_before : (run : ℤ × ℤ) (B rest : List (ℤ × ℤ)) → AllByRecursion (λ r. r.0 ≤ℤ r.1) B → B ≡ rest ++ run ∷ [] → AllByRecursion (λ r. r.0 ≤ℤ r.1) rest
filled_before run B rest o f = (each_of_pushed (λ r. r.0 ≤ℤ r.1) rest run (subst (AllByRecursion (λ (r : ℤ × ℤ). r.0 ≤ℤ r.1)) f o)).0

-- the last of the runs between
pub back_by_run : (all : List ℤ) (F L run : ℤ × ℤ) (B rest : List (ℤ × ℤ)) → numbers_of F ++ members_of B ++ numbers_of L ≡ all → AllByRecursion (λ r. r.0 ≤ℤ r.1) B → IsCrossed L → B ≡ rest ++ run ∷ [] →
    IsReadyBack all (numbers_of F ++ members_of rest) (numbers_of run)
back_by_run all F L run B rest e o c f = back_as_is all F run rest
    (append_assoc (numbers_of F) (members_of rest) (numbers_of run)
    ∙ ap (λ (M : List ℤ). numbers_of F ++ M) (sym (ap members_of f ∙ members_of-push rest run))
    ∙ sym (append-nil (numbers_of F ++ members_of B))
    ∙ ap (λ (M : List ℤ). numbers_of F ++ members_of B ++ M) (sym (numbers_of-crossed L c)) ∙ e)
    ((some_is_not_crossed run).1 (each_of_pushed (λ r. r.0 ≤ℤ r.1) rest run (subst (AllByRecursion (λ (r : ℤ × ℤ). r.0 ≤ℤ r.1)) f o)).1)

-- the part at the front, where no run is between
pub back_by_first : (all : List ℤ) (F L E : ℤ × ℤ) (B : List (ℤ × ℤ)) → numbers_of F ++ members_of B ++ numbers_of L ≡ all → IsCrossed L → IsCrossed E → length B ≡ 0 →
    IsReadyBack all (numbers_of E ++ members_of B) (numbers_of F)
back_by_first all F L E [] e c d h = record {
  parts = sym e
      ∙ ap (λ (M : List ℤ). numbers_of F ++ [] ++ M) (numbers_of-crossed L c)
      ∙ append-nil (numbers_of F ++ []) ∙ append-nil (numbers_of F)
      ∙ ap (λ (M : List ℤ). M ++ [] ++ numbers_of F) (sym (numbers_of-crossed E d));
  none = λ n. ap (λ (M : List ℤ). M ++ []) (numbers_of-crossed E d);
}
back_by_first all F L E (p ∷ B) e c d h = absurd (omega arith)

pub last_of_part : {A : Type 0} (value : A → ℤ) (all rest part left : List ℤ) (r : Option A) → IsReadyBack all rest part →
    YieldsLastBy value (λ (l : List ℤ). l) part r left → YieldsLastBy value (λ (l : List ℤ). l) all r (rest ++ left)
last_of_part value all rest part left None h y =
    let e = h.none y.0 in (
      h.parts ∙ ap (λ (K : List ℤ). rest ++ K) y.0 ∙ ap (λ (K : List ℤ). K ++ []) e,
      ap (λ (K : List ℤ). rest ++ K) y.1 ∙ ap (λ (K : List ℤ). K ++ []) e,
    )
last_of_part value all rest part left (Some x) h y = h.parts ∙ ap (λ (K : List ℤ). rest ++ K) y ∙ sym (append_assoc rest left (value x ∷ []))

pub goes_by_last : {A : Type 0} (value : A → ℤ) (all left : List ℤ) (r : Option A) → YieldsLastBy value (λ (l : List ℤ). l) all r left → MakesProgress (λ _. ⊤) (item_count (λ (l : List ℤ). l)) all r left
goes_by_last value all left None y = record { on = λ f. tt; keeps = tt; rests = λ f. tt }
goes_by_last value all left (Some x) y = let e = ap length y in let n = length-append left (value x ∷ []) in record { on = λ f. (tt, tt, omega arith); keeps = tt; rests = λ f. tt }

-- ---- all members

pub all_left : (L : List (ℤ × ℤ)) (E E' : ℤ × ℤ) (B : List (ℤ × ℤ)) → IsCrossed E → IsCrossed E' → B ≡ L → numbers_of E ++ members_of B ++ numbers_of E' ≡ members_of L
all_left L E E' B c d e = ap (λ (M : List ℤ). M ++ members_of B ++ numbers_of E') (numbers_of-crossed E c) ∙ ap (λ (M : List ℤ). members_of B ++ M) (numbers_of-crossed E' d) ∙ append-nil (members_of B) ∙ ap members_of e

pub each_is_open : (L B : List (ℤ × ℤ)) → B ≡ L → IsMaximal L → AllByRecursion (λ r. r.0 ≤ℤ r.1) B
each_is_open L B e m = subst (AllByRecursion (λ (r : ℤ × ℤ). r.0 ≤ℤ r.1)) (sym e) (go L m)
  where
    go : (M : List (ℤ × ℤ)) → IsMaximal M → AllByRecursion (λ (r : ℤ × ℤ). r.0 ≤ℤ r.1) M
    go [] n = tt
    go (p ∷ M) n = (n.0, go M n.2)

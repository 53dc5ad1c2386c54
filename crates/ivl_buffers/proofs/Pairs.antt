-- What is known of a list of pairs that has been read in part.
use Rattle.std.proofs.Common.{◌≡◌, ◌↔◌, inl, inr, ℕ, zero, suc, ◌+◌, ◌<◌, ◌≤◌, ℤ, pos, ◌≤ℤ◌, ◌<ℤ◌, Bool, true, false, IsTrue, List, [], ◌∷◌, length, get_or, map, take, take_all, refl, sym, subst, arith, ⊎_elim}
use Rattle.std.proofs.lemmas.Int.{ints, by_lt_z}
use Rattle.std.specs.Prelude.{int_lt}
use Rattle.ivl_laws.specs.Sets.{IsBetween, IsCrossed, IsInRange, IsSubset, SameMembers}
use Rattle.ivl_laws.specs.Runs.{Covers}
use Rattle.ivl_interval.specs.SameInterval.{normal_pair}
use Rattle.ivl_laws.proofs.Orders.{int_lt_true}

-- a pair that is not crossed lies in the range where its bounds do
pub inside_open : (whole p : ℤ × ℤ) (x y : ℤ) (t : Bool) → x ≡ p.0 → y ≡ p.1 → p.0 ≤ℤ p.1 → (IsTrue t ↔ IsInRange whole (x, y)) → IsTrue t ↔ IsSubset (IsBetween p) (IsBetween whole)
inside_open whole p x y t e f o h = (
  λ u z b. let r = h.0 u in (omega (arith, ints, r.0, b.0, e), omega (arith, ints, r.1, b.1, f)),
  λ s. h.1 (
    let a = s p.0 (omega (arith, ints), o) in omega (arith, ints, a.0, e),
    let a = s p.1 (o, omega (arith, ints)) in omega (arith, ints, a.1, f),
  ),
)

pub inside_crossed : (whole p : ℤ × ℤ) → IsCrossed p → IsSubset (IsBetween p) (IsBetween whole)
inside_crossed whole p c z b = absurd (omega (arith, ints, c, b.0, b.1))

pub range_open : (whole p : ℤ × ℤ) (x y : ℤ) → x ≡ p.0 → y ≡ p.1 → p.0 ≤ℤ p.1 → IsSubset (IsBetween p) (IsBetween whole) → IsInRange whole (x, y)
range_open whole p x y e f o s = (
  let a = s p.0 (omega (arith, ints), o) in omega (arith, ints, a.0, e),
  let a = s p.1 (o, omega (arith, ints)) in omega (arith, ints, a.1, f),
)

pub normal_crossed : (p : ℤ × ℤ) → IsCrossed p → normal_pair p ≡ (pos 1, pos 0)
normal_crossed p c = let e : int_lt p.1 p.0 ≡ true = int_lt_true p.1 p.0 c in rw e refl

pub normal_open : (p : ℤ × ℤ) → p.0 ≤ℤ p.1 → normal_pair p ≡ p
normal_open p o = let e : int_lt p.1 p.0 ≡ false = no p.1 p.0 o in rw e refl
  where
    no : (a b : ℤ) → b ≤ℤ a → int_lt a b ≡ false
    no a b h = grind (arith, ints)

pub normal_members : (p : ℤ × ℤ) → SameMembers (IsBetween (normal_pair p)) (IsBetween p)
normal_members p =
    let P : ℤ × ℤ → Type 0 = λ q. SameMembers (IsBetween q) (IsBetween p) in
    by_lt_z p.1 p.0 (λ lt. subst P (sym (normal_crossed p lt)) (none_in lt)) (λ le. subst P (sym (normal_open p le)) (λ z. ((λ b. b), (λ b. b))))
  where
    none_in : p.1 <ℤ p.0 → SameMembers (IsBetween (pos 1, pos 0)) (IsBetween p)
    none_in lt z = ((λ b. absurd (omega (arith, ints, b.0, b.1))), (λ b. absurd (omega (arith, ints, lt, b.0, b.1))))

-- the intervals of the pairs cover what the pairs cover
pub normal_covers : {X : Type 0} (pair : X → ℤ × ℤ) (L : List X) → SameMembers (Covers (map (λ r. normal_pair (pair r)) L)) (Covers (map pair L))
normal_covers pair [] z = ((λ c. c), (λ c. c))
normal_covers pair (r ∷ L) z = (
  λ c. ⊎_elim (λ b. inl ((normal_members (pair r) z).0 b)) (λ d. inr ((normal_covers pair L z).0 d)) c,
  λ c. ⊎_elim (λ b. inl ((normal_members (pair r) z).1 b)) (λ d. inr ((normal_covers pair L z).1 d)) c,
)

-- where the pairs so far lie in a set, and the next one does
pub inside_more : {X : Type 0} (pair : X → ℤ × ℤ) (L : List X) (k : ℕ) (d : X) (S : ℤ → Type 0) → k < length L → d ≡ get_or L k d → IsSubset (Covers (map pair (take k L))) S →
    IsSubset (IsBetween (pair d)) S → IsSubset (Covers (map pair (take (suc k) L))) S
inside_more pair [] k d S h is f r z c = absurd (omega arith)
inside_more pair (p ∷ L) zero d S h is f r z (inl b) = let P : _ → Type 0 = λ q. IsBetween (pair q) z in r z (subst P (sym is) b)
inside_more pair (p ∷ L) zero d S h is f r z (inr c) = absurd c
inside_more pair (p ∷ L) (suc k) d S h is f r z (inl b) = f z (inl b)
inside_more pair (p ∷ L) (suc k) d S h is f r z (inr c) = inside_more pair L k d S (omega arith) is (λ w u. f w (inr u)) r z c

-- a pair of the list lies in a set where the whole list does
pub inside_at : {X : Type 0} (pair : X → ℤ × ℤ) (L : List X) (k : ℕ) (d : X) (S : ℤ → Type 0) → k < length L → d ≡ get_or L k d → IsSubset (Covers (map pair L)) S → IsSubset (IsBetween (pair d)) S
inside_at pair [] k d S h is f z b = absurd (omega arith)
inside_at pair (p ∷ L) zero d S h is f z b = let P : _ → Type 0 = λ q. IsBetween (pair q) z in f z (inl (subst P is b))
inside_at pair (p ∷ L) (suc k) d S h is f z b = inside_at pair L k d S (omega arith) is (λ w u. f w (inr u)) z b

-- the intervals of all the pairs have their members
pub read_all : {X : Type 0} (pair : X → ℤ × ℤ) (L : List X) (items : List (ℤ × ℤ)) (k : ℕ) → length L ≤ k → items ≡ map (λ r. normal_pair (pair r)) (take k L) →
    SameMembers (Covers items) (Covers (map pair L))
read_all pair L items k h e =
    let P : _ → Type 0 = λ M. items ≡ map (λ r. normal_pair (pair r)) M in
    let Q : List (ℤ × ℤ) → Type 0 = λ M. SameMembers (Covers M) (Covers (map pair L)) in
    subst Q (sym (subst P (take_all k L h) e)) (normal_covers pair L)

-- whether each so far lies in a set is whether all do, where all were read
pub inside_all : {X : Type 0} (pair : X → ℤ × ℤ) (L : List X) (k : ℕ) (S : ℤ → Type 0) → length L ≤ k → IsSubset (Covers (map pair (take k L))) S → IsSubset (Covers (map pair L)) S
inside_all pair L k S h s =
    let P : _ → Type 0 = λ M. IsSubset (Covers (map pair M)) S in
    subst P (take_all k L h) s

-- what the walk over a list answers, and where it stands
pub some_outside : {X : Type 0} (pair : X → ℤ × ℤ) (L : List X) (k : ℕ) (d : X) (S : ℤ → Type 0) → k < length L → d ≡ get_or L k d → ¬ (IsSubset (IsBetween (pair d)) S) → IsTrue false ↔ IsSubset (Covers (map pair L)) S
some_outside pair L k d S h is n = ((λ u. absurd (cc)), (λ s. absurd (n (inside_at pair L k d S h is s))))

pub inside_next : {X : Type 0} (pair : X → ℤ × ℤ) (L : List X) (k : ℕ) (d : X) (S : ℤ → Type 0) → k < length L → d ≡ get_or L k d → IsSubset (Covers (map pair (take k L))) S →
    IsSubset (IsBetween (pair d)) S → IsSubset (Covers (map pair (take (k + 1) L))) S
inside_next pair L k d S h is f r =
    let more : suc k ≡ k + 1 = omega arith in
    let P : ℕ → Type 0 = λ n. IsSubset (Covers (map pair (take n L))) S in
    subst P more (inside_more pair L k d S h is f r)

-- ---- whether some pair has a number

pub none_more : {X : Type 0} (pair : X → ℤ × ℤ) (L : List X) (k : ℕ) (d : X) (v : ℤ) → k < length L → d ≡ get_or L k d → ¬ (Covers (map pair (take k L)) v) →
    ¬ (IsBetween (pair d) v) → ¬ (Covers (map pair (take (k + 1) L)) v)
none_more pair L k d v h is n m c = inside_next pair L k d (λ z. ¬ (z ≡ v)) h is (λ z i e. let P : ℤ → Type 0 = λ w. Covers (map pair (take k L)) w in n (subst P e i))
    (λ z i e. let P : ℤ → Type 0 = λ w. IsBetween (pair d) w in m (subst P e i)) v c refl

pub some_has : {X : Type 0} (pair : X → ℤ × ℤ) (L : List X) (k : ℕ) (d : X) (v : ℤ) → k < length L → d ≡ get_or L k d → IsBetween (pair d) v → IsTrue true ↔ Covers (map pair L) v
some_has pair L k d v h is b = ((λ _. inside_at pair L k d (Covers (map pair L)) h is (λ z c. c) v b), (λ _. refl))

pub none_has : {X : Type 0} (pair : X → ℤ × ℤ) (L : List X) (k : ℕ) (v : ℤ) → length L ≤ k → ¬ (Covers (map pair (take k L)) v) → IsTrue false ↔ Covers (map pair L) v
none_has pair L k v h n =
    let P : _ → Type 0 = λ M. ¬ (Covers (map pair M) v) in
    ((λ u. absurd (cc)), (λ c. absurd (subst P (take_all k L h) n c)))

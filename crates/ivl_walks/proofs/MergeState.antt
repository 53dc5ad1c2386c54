-- What a walk keeps that writes a set from left to right: what is written lies below what is still to write.
use Rattle.std.proofs.Common.{◌≡◌, ◌∙◌, ◌↔◌, ◌⊎◌, inl, inr, ⊎_elim, Bool, true, false, IsTrue, ℕ, ◌-◌, ℤ, pos, ◌+ℤ◌, ◌≤ℤ◌, List, [], ◌∷◌, ◌++◌, length, take, ap, arith, refl, sym, subst}
use Rattle.std.proofs.Math.Seq.{take-append_seam, take-length}
use Rattle.std.proofs.lemmas.Int.{ints}
use Rattle.std.proofs.lemmas.List.{length_push}
use Rattle.std.specs.Int.{from_bool}
use lib.Signed.{≤ℤ_refl}
use Rattle.ivl_laws.specs.Sets.{IsBetween, IsCrossed, IsSubset, HasNone, SameMembers, Union}
use Rattle.ivl_laws.specs.Runs.{Covers, StartsAfter, StartsBy, IsMaximal, IsRunsOf, AddsRun}
use Rattle.ivl_laws.proofs.Adding.{untrue}
use Rattle.ivl_laws.proofs.Intervals.{none_is_crossed, not_crossed}
use Rattle.ivl_laws.proofs.Runs.{lower_end, upper_end}
use Rattle.ivl_laws.proofs.Merging.{covers-append, covers-append_left, covers-append_right}
use Rattle.ivl_walks.specs.Order.{IsBelow}

-- `rest` is still to write to make up S
pub record IsBuilding (gap : ℤ) (written : List (ℤ × ℤ)) (rest S : ℤ → Type 0) : Type 0 where
  pub maximal : IsMaximal written
  pub below : IsBelow gap (Covers written) rest
  pub members : (z : ℤ) → S z ↔ (Covers written z ⊎ rest z)

pub building_starts : (gap : ℤ) (written : List (ℤ × ℤ)) (S : ℤ → Type 0) → written ≡ [] → IsBuilding gap written S S
building_starts gap written S e = subst (λ (L : List (ℤ × ℤ)). IsBuilding gap L S S) (sym e)
    (record { maximal = tt; below = λ x y c s. absurd c; members = λ z. ((λ s. inr s), ⊎_elim (λ c. absurd c) (λ s. s)) })

pub building_ends : (gap : ℤ) (written : List (ℤ × ℤ)) (rest S : ℤ → Type 0) → IsBuilding gap written rest S → HasNone rest → IsRunsOf written S
building_ends gap written rest S u n = record {
  maximal = u.maximal;
  members = λ z. ((λ c. (u.members z).1 (inl c)), (λ s. ⊎_elim (λ c. c) (λ r. absurd (n z r)) ((u.members z).0 s)));
}

-- all of the rest is written
pub building_done : (gap : ℤ) (written added : List (ℤ × ℤ)) (rest S : ℤ → Type 0) → IsBuilding gap written rest S → IsRunsOf added (Union (Covers written) rest) → IsRunsOf added S
building_done gap written added rest S u r = record {
  maximal = r.maximal;
  members = λ z. ((λ c. (u.members z).1 ((r.members z).0 c)), (λ s. (r.members z).1 ((u.members z).0 s)));
}

-- the same rest, told in another way
pub building_same : (gap : ℤ) (written : List (ℤ × ℤ)) (rest rest' S : ℤ → Type 0) → SameMembers rest rest' → IsBuilding gap written rest S → IsBuilding gap written rest' S
building_same gap written rest rest' S e u = record {
  maximal = u.maximal;
  below = λ x y c r. u.below x y c ((e y).1 r);
  members = λ z. (
    (λ s. ⊎_elim (λ c. inl c) (λ r. inr ((e z).0 r)) ((u.members z).0 s)),
    ⊎_elim (λ c. (u.members z).1 (inl c)) (λ r. (u.members z).1 (inr ((e z).1 r))),
  );
}

-- what a part of the rest finds written
pub building_below : (gap : ℤ) (written : List (ℤ × ℤ)) (rest part S : ℤ → Type 0) → IsBuilding gap written rest S → IsSubset part rest → IsBelow gap (Covers written) part
building_below gap written rest part S u h x y c r = u.below x y c (h y r)

-- the first part of the rest is written
pub building_takes : (gap : ℤ) (written added : List (ℤ × ℤ)) (rest part rest' S : ℤ → Type 0) → IsBuilding gap written rest S →
    SameMembers rest (Union part rest') → IsBelow gap part rest' → IsRunsOf added (Union (Covers written) part) → IsBuilding gap added rest' S
building_takes gap written added rest part rest' S u e b r = record {
  maximal = r.maximal;
  below = λ x y c t. ⊎_elim (λ w. u.below x y w ((e y).1 (inr t))) (λ p. b x y p t) ((r.members x).0 c);
  members = λ z. (
    (λ s. ⊎_elim (λ c. inl ((r.members z).1 (inl c))) (λ t. ⊎_elim (λ p. inl ((r.members z).1 (inr p))) (λ q. inr q) ((e z).0 t)) ((u.members z).0 s)),
    (λ h. (u.members z).1 (⊎_elim (λ c. ⊎_elim (λ w. inl w) (λ p. inr ((e z).1 (inl p))) ((r.members z).0 c)) (λ q. inr ((e z).1 (inr q))) h)),
  );
}

-- ---- one run more, above those that are written

ends_apart : (L : List (ℤ × ℤ)) (q : ℤ × ℤ) → IsMaximal L → q.0 ≤ℤ q.1 → IsBelow (pos 2) (Covers L) (IsBetween q) → IsMaximal (L ++ q ∷ [])
ends_apart [] q m o b = (o, tt, tt)
ends_apart (p ∷ []) q m o b = (m.0, b p.1 q.0 (inl (upper_end p m.0)) (lower_end q o), (o, tt, tt))
ends_apart (p ∷ r ∷ L) q m o b = (m.0, m.1, ends_apart (r ∷ L) q m.2 o (λ x y c i. b x y (inr c) i))

starts_below : (gap : ℤ) (L : List (ℤ × ℤ)) (n : ℤ) → pos 0 ≤ℤ gap → IsMaximal L → ((x : ℤ) → Covers L x → (x +ℤ gap) ≤ℤ n) → StartsBy n L
starts_below gap [] n g m b = tt
starts_below gap (p ∷ L) n g m b = (let low = b p.0 (inl (lower_end p m.0)) in omega (arith, ints), starts_below gap L n g m.2 (λ x c. b x (inr c)))

starts_more : (L : List (ℤ × ℤ)) (q : ℤ × ℤ) → StartsBy q.0 L → StartsBy q.0 (L ++ q ∷ [])
starts_more [] q s = (≤ℤ_refl q.0, tt)
starts_more (p ∷ L) q s = (s.0, starts_more L q s.1)

pub adds_above : (L : List (ℤ × ℤ)) (q : ℤ × ℤ) → IsMaximal L → q.0 ≤ℤ q.1 → IsBelow (pos 2) (Covers L) (IsBetween q) → AddsRun L q (L ++ q ∷ [])
adds_above L q m o b = record {
  runs = record {
    maximal = ends_apart L q m o b;
    members = λ z. (
      (λ c. ⊎_elim (λ a. inl a) (⊎_elim (λ i. inr i) (λ n. absurd n)) (covers-append L (q ∷ []) z c)),
      ⊎_elim (λ c. covers-append_left L (q ∷ []) z c) (λ i. covers-append_right L (q ∷ []) z (inl i)),
    );
  };
  starts = starts_more L q (starts_below (pos 2) L q.0 (omega (arith, ints)) m (λ x c. b x q.0 c (lower_end q o)));
}

-- a run above a list starts no lower than its runs
pub starts_by : (L : List (ℤ × ℤ)) (q : ℤ × ℤ) → IsMaximal L → q.0 ≤ℤ q.1 → IsBelow (pos 1) (Covers L) (IsBetween q) → StartsBy q.0 L
starts_by L q m o b = starts_below (pos 1) L q.0 (omega (arith, ints)) m (λ x c. b x q.0 c (lower_end q o))

-- an interval that has no member adds none
pub adds_none : (L : List (ℤ × ℤ)) (S : ℤ → Type 0) → IsMaximal L → HasNone S → IsRunsOf L (Union (Covers L) S)
adds_none L S m n = record { maximal = m; members = λ z. ((λ c. inl c), ⊎_elim (λ c. c) (λ s. absurd (n z s))) }

-- a gap of two is one of one
pub nearer : (S T : ℤ → Type 0) → IsBelow (pos 2) S T → IsBelow (pos 1) S T
nearer S T b x y s t = let far = b x y s t in omega (arith, ints)

-- an interval is written at the end, and dropped again by the test whether it has no member
pub written_if_filled : (test : Bool) (L : List (ℤ × ℤ)) (q : ℤ × ℤ) (n : ℕ) → (IsTrue test ↔ IsCrossed q) → IsMaximal L → IsBelow (pos 2) (Covers L) (IsBetween q) →
    n ≡ length (L ++ q ∷ []) - from_bool test → IsRunsOf (take n (L ++ q ∷ [])) (Union (Covers L) (IsBetween q))
written_if_filled true L q n t m b e =
    let more = length_push L q in
    let same : n ≡ length L = omega (arith, e, more) in
    let left : take n (L ++ q ∷ []) ≡ L = ap (λ (k : ℕ). take k (L ++ q ∷ [])) same ∙ take-append_seam L (q ∷ []) in
    subst (λ (M : List (ℤ × ℤ)). IsRunsOf M (Union (Covers L) (IsBetween q))) (sym left) (adds_none L (IsBetween q) m ((none_is_crossed q).1 (t.0 refl)))
written_if_filled false L q n t m b e =
    let same : n ≡ length (L ++ q ∷ []) = omega (arith, e) in
    let all : take n (L ++ q ∷ []) ≡ L ++ q ∷ [] = ap (λ (k : ℕ). take k (L ++ q ∷ [])) same ∙ take-length (L ++ q ∷ []) in
    subst (λ (M : List (ℤ × ℤ)). IsRunsOf M (Union (Covers L) (IsBetween q))) (sym all) (adds_above L q m (not_crossed q (untrue false refl t)) b).runs

-- ---- lists one above the other

StartsAfter-append : (p : ℤ × ℤ) (A B : List (ℤ × ℤ)) → IsMaximal (p ∷ A) → IsMaximal B → IsBelow (pos 2) (Covers (p ∷ A)) (Covers B) → StartsAfter p.1 (A ++ B)
StartsAfter-append p [] [] m n h = tt
StartsAfter-append p [] (q ∷ B) m n h = h p.1 q.0 (inl (upper_end p m.0)) (inl (lower_end q n.0))
StartsAfter-append p (r ∷ A) B m n h = m.1

pub IsMaximal-append : (A B : List (ℤ × ℤ)) → IsMaximal A → IsMaximal B → IsBelow (pos 2) (Covers A) (Covers B) → IsMaximal (A ++ B)
IsMaximal-append [] B m n h = n
IsMaximal-append (p ∷ A) B m n h = (m.0, StartsAfter-append p A B m n h, IsMaximal-append A B m.2 n (λ x y c. h x y (inr c)))

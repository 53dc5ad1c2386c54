-- The two parts of a set that is cut: how many members one has, and that each has one.
use Rattle.std.proofs.Common.{◌≡◌, ◌<◌, ◌≤◌, ◌+◌, ℕ, zero, suc, ◌⊎◌, inl, inr, sym, subst, arith, refl, List, [], ◌∷◌, length}
use Rattle.std.specs.Prelude.{ℤ, ◌≤ℤ◌, ◌<ℤ◌, ◌-◌, ◌/◌, All, Option, Some, None, IfSome, MatchOption}
use Rattle.std.proofs.lemmas.Int.{ints, by_lt_z}
use Rattle.std.proofs.lemmas.List.Elements.{All-head, All-tail}
use Rattle.ivl_laws.specs.Counts.{IsCountOf, IsIn}
use Rattle.ivl_laws.specs.Families.{set_at}
use Rattle.ivl_laws.specs.Runs.{Covers, IsRunListIn}
use Rattle.ivl_laws.specs.Sets.{Below, HasNone, HasSome, Intersection, Only, Union}
use Rattle.ivl_laws.proofs.Counts.{IsCountOf-apart, IsCountOf-only, IsCountOf-same, count_is_monotone, count_is_unique, none_of_count}
use Rattle.ivl_laws.proofs.Runs.{≤ℤ_antisymm}
use Rattle.ivl_search.specs.declared.search.choice.Wanted.{Wanted}
use Rattle.ivl_search.specs.declared.search.choice.Wanted.TheVariants.{Least, Greatest}
use Rattle.ivl_search.specs.Best.{IsAsGood, IsBetter}
use Rattle.ivl_network.specs.Settled.{HasTwo}
use Rattle.ivl_search.specs.Halves.{IsHalf, IsMiddle}
use Rattle.ivl_search.specs.Nodes.{AreFilled, IsNodeOf}
use Rattle.ivl_search.specs.declared.search.choice.Node.{Node}
use Rattle.ivl_search.specs.declared.search.choice.Node.TheVariants.{Unsettled, Dead, Leaf, Open}

-- the better half of a set has half of its members, and one more at most
pub middle_good : (wanted : Wanted) (S : ℤ → Type 0) (x : ℤ) (good : ℕ) (m : IsMiddle wanted S x) → IsCountOf good (Intersection S (IsAsGood wanted x)) → good + good ≤ m.all + 1
middle_good Least S x good m c =
    let both = IsCountOf-apart (Below x S) (Only x) m.below 1 (λ z b o. let lt = b.1 in omega (arith, ints, o)) m.counted_below (IsCountOf-only x) in
    let e = count_is_unique (Intersection S (IsAsGood Least x)) good (m.below + 1) c
    (IsCountOf-same (Union (Below x S) (Only x)) (Intersection S (IsAsGood Least x)) (m.below + 1)
    (λ z. (
      (λ u. elim u [ inl b ↦ (let lt = b.1 in (b.0, omega (arith, ints))) | inr o ↦ (subst S (sym o) m.member, omega (arith, ints, o)) ]),
      (λ i. by_lt_z z x (λ lt. inl (i.0, lt)) (λ le. inr (≤ℤ_antisymm z x i.1 le))),
    )) both) in
    let h = m.half in
    omega (arith, e, h)
middle_good Greatest S x good m c =
    let both = IsCountOf-apart (Below x S) (Intersection S (IsAsGood Greatest x)) m.below good (λ z b i. let lt = b.1 in let le = i.1 in omega (arith, ints)) m.counted_below c in
    let e = count_is_unique S m.all (m.below + good) m.counted
    (IsCountOf-same (Union (Below x S) (Intersection S (IsAsGood Greatest x))) S (m.below + good)
    (λ z. (
      (λ u. elim u [ inl b ↦ b.0 | inr i ↦ i.0 ]),
      (λ s. by_lt_z z x (λ lt. inl (s, lt)) (λ le. inr (s, le))),
    )) both) in
    let h = m.half in
    omega (arith, e, h)

some_above : (x : ℤ) (xs : List ℤ) → ((y : ℤ) × IsIn xs y × (x <ℤ y)) ⊎ ((y : ℤ) → IsIn xs y → y ≤ℤ x)
some_above x [] = inr (λ y h. absurd h)
some_above x (z ∷ xs) = by_lt_z x z (λ lt. inl (z, inl refl, lt)) (λ le. elim (some_above x xs) [
  | inl p ↦ inl (p.0, inr p.1, p.2)
  | inr none ↦ inr (λ y h. elim h [ inl e ↦ subst (λ w. w ≤ℤ x) (sym e) le | inr k ↦ none y k ])
])

some_counted : (S : ℤ → Type 0) (n : ℕ) → IsCountOf n S → 1 ≤ n → HasSome S
some_counted S n ([], d, i, e) one = absurd (omega (arith, e))
some_counted S n (x ∷ xs, d, i, e) one = (x, (i x).1 (inl refl))

-- where there are many, some are worse than a middle one
pub middle_worse : (wanted : Wanted) (S : ℤ → Type 0) (x : ℤ) (m : IsMiddle wanted S x) → 2 ≤ m.all → HasSome (λ v. S v × IsBetter wanted v x)
middle_worse Least S x m many =
    let xs = m.counted in
    elim (some_above x xs.0) [
      | inl p ↦ (p.0, ((xs.2 p.0).1 p.1, p.2))
      | inr none ↦ (let both = IsCountOf-apart (Below x S) (Only x) m.below 1 (λ z b o. let lt = b.1 in omega (arith, ints, o)) m.counted_below (IsCountOf-only x) in
          let le = count_is_monotone S (Union (Below x S) (Only x)) m.all (m.below + 1)
          (λ z s. by_lt_z z x (λ lt. inl (s, lt)) (λ ge. inr (≤ℤ_antisymm z x (none z ((xs.2 z).0 s)) ge))) m.counted both in
          let h = m.half in
          absurd (omega (arith, le, h, many)))
    ]
middle_worse Greatest S x m many =
    let h = m.half in
    let some = some_counted (Below x S) m.below m.counted_below (omega (arith, h, many)) in
    (some.0, (some.1.0, some.1.1))

-- and than the best where there are two
pub least_worse : (S : ℤ → Type 0) (x : ℤ) → ((z : ℤ) → S z → x ≤ℤ z) → HasTwo S → HasSome (λ v. S v × IsBetter Least v x)
least_worse S x least two = let le = least two.0 two.2 in let lt = two.4 in (two.1, (two.3, omega (arith, ints)))

pub greatest_worse : (S : ℤ → Type 0) (x : ℤ) → ((z : ℤ) → S z → z ≤ℤ x) → HasTwo S → HasSome (λ v. S v × IsBetter Greatest v x)
greatest_worse S x greatest two = let le = greatest two.1 two.3 in let lt = two.4 in (two.0, (two.2, omega (arith, ints)))

-- runs that are not empty have a member
pub filled : (whole : ℤ × ℤ) (s : List (ℤ × ℤ)) → IsRunListIn whole s → ¬ (HasNone (Covers s)) → HasSome (Covers s)
filled whole [] runs some = absurd (some (λ z h. h))
filled whole (p ∷ s) runs some = let le = runs.maximal.0 in (p.0, inl (omega (arith, ints), omega (arith, ints)))

pub all_filled : (whole : ℤ × ℤ) (sets : List (List (ℤ × ℤ))) → All (IsRunListIn whole) sets → ((i : ℕ) → i < length sets → ¬ (HasNone (set_at sets i)))
    → (i : ℕ) → i < length sets → HasSome (set_at sets i)
all_filled whole [] runs some i lt = absurd (omega (arith, lt))
all_filled whole (s ∷ sets) runs some zero lt = filled whole s (All-head (IsRunListIn whole) s sets runs) (some 0 (omega arith))
all_filled whole (s ∷ sets) runs some (suc i) lt =
    all_filled whole sets (All-tail (IsRunListIn whole) s sets runs) (λ j k. some (suc j) (omega (arith, k))) i (omega (arith, lt))

-- the middle by its number from below
pub half_least : (n i : ℕ) → i ≡ (n - 1) / 2 → 1 ≤ n → IsHalf Least i n
half_least n i e one = omega (arith, e, one)

pub half_greatest : (n i : ℕ) → i ≡ n / 2 → IsHalf Greatest i n
half_greatest n i e = omega (arith, e)

pub middle_found : {A : Type 0} (value : A → ℤ) (wanted : Wanted) (S : ℤ → Type 0) (o : Option A) (n i : ℕ) → IsCountOf n S → (1 ≤ n → IsHalf wanted i n) → (1 ≤ n → i < n)
    → MatchOption o ((m : ℕ) → IsCountOf m S → m ≤ i) (λ x. S (value x) × IsCountOf i (Below (value x) S)) → MatchOption o (HasNone S) (λ x. IsMiddle wanted S (value x))
middle_found value wanted S None zero i counted half small found = none_of_count S counted
middle_found value wanted S None (suc n) i counted half small found = let le = found (suc n) counted in let lt = small (omega arith) in absurd (omega (arith, le, lt))
middle_found value wanted S (Some x) zero i counted half small found = absurd (none_of_count S counted (value x) found.0)
middle_found value wanted S (Some x) (suc n) i counted half small found = record {
  member = found.0;
  below = i;
  all = suc n;
  counted_below = found.1;
  counted = counted;
  half = half (omega arith);
}

pub worse_than_middle : {A : Type 0} (value : A → ℤ) (wanted : Wanted) (S : ℤ → Type 0) (o : Option A) (n : ℕ) → IsCountOf n S → 2 ≤ n
    → MatchOption o (HasNone S) (λ x. IsMiddle wanted S (value x)) → IfSome o (λ x. HasSome (λ v. S v × IsBetter wanted v (value x)))
worse_than_middle value wanted S None n counted many found = tt
worse_than_middle value wanted S (Some x) n counted many found =
    let e = count_is_unique S found.all n found.counted counted in
    middle_worse wanted S (value x) found (omega (arith, e, many))

pub middle_in_range : {A : Type 0} (value : A → ℤ) (wanted : Wanted) (S R : ℤ → Type 0) (o : Option A) → ((z : ℤ) → S z → R z)
    → MatchOption o (HasNone S) (λ x. IsMiddle wanted S (value x)) → IfSome o (λ x. R (value x))
middle_in_range value wanted S R None within found = tt
middle_in_range value wanted S R (Some x) within found = within (value x) found.member

-- domains with an empty one are dead, and no others
pub filled_node : {B : Type 0} (value : B → ℤ) (wanted : Wanted) (whole : ℤ × ℤ) (sets : List (List (ℤ × ℤ))) (node : Node B) → IsNodeOf value wanted whole sets node → ¬ (node ≡ Dead) → AreFilled sets
filled_node value wanted whole sets Unsettled is other = is
filled_node value wanted whole sets Dead is other = absurd (other refl)
filled_node value wanted whole sets Leaf is other = λ i lt. let one = is i lt in (one.0, (one.1 one.0).1 refl)
filled_node value wanted whole sets (Open variable cut) is other = is.filled

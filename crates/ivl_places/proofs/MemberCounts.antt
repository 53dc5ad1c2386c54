-- How many members are left in an iterator over them.
use Rattle.std.proofs.Common.{◌≡◌, inl, inr, ℕ, ◌+◌, ◌<◌, ◌≤◌, suc, zero, ℤ, pos, ◌+ℤ◌, ◌≤ℤ◌, List, [], ◌∷◌, ◌++◌, length, length-append, get_or, take, refl, sym, subst, ap, ◌∙◌, arith}
use Rattle.std.specs.Prelude.{Option, Some, None}
use Rattle.std.specs.Iterator.{YieldsFirstBy, YieldsLastBy}
use Rattle.std.proofs.lemmas.Int.{ints}
use Rattle.std.proofs.Math.Seq.{take-suc}
use Rattle.ivl_laws.specs.Bounds.{width_of}
use Rattle.ivl_laws.specs.Sets.{IsBetween}
use Rattle.ivl_laws.specs.Runs.{IsRunListIn}
use Rattle.ivl_laws.specs.Counts.{IsIn}
use Rattle.ivl_laws.proofs.Intervals.{width_of-filled}
use Rattle.ivl_places.specs.Members.{IsAscending, members_of, numbers_from, numbers_of}
use Rattle.ivl_places.proofs.Members.{ascending_members, in_members, members_of-push, without_lower}

numbers_counted : (v : ℤ) (n : ℕ) → length (numbers_from v n) ≡ n
numbers_counted v zero = refl
numbers_counted v (suc n) = ap suc (numbers_counted (v +ℤ pos 1) n)

numbers_of_counted : (p : ℤ × ℤ) → length (numbers_of p) ≡ width_of p
numbers_of_counted p = numbers_counted p.0 (width_of p)

pub left_counted : (first last : ℤ × ℤ) (L : List (ℤ × ℤ)) → length (numbers_of first ++ members_of L ++ numbers_of last) ≡ (width_of first + width_of last) + length (members_of L)
left_counted first last L =
    let all : length (numbers_of first ++ members_of L ++ numbers_of last) ≡ length (numbers_of first ++ members_of L) + length (numbers_of last) = length-append (numbers_of first ++ members_of L) (numbers_of last) in
    let rest : length (numbers_of first ++ members_of L) ≡ length (numbers_of first) + length (members_of L) = length-append (numbers_of first) (members_of L) in
    let f : length (numbers_of first) ≡ width_of first = numbers_of_counted first in
    let l : length (numbers_of last) ≡ width_of last = numbers_of_counted last in
    omega (arith, all, rest, f, l)

pub more_counted : (L : List (ℤ × ℤ)) (i : ℕ) (d : ℤ × ℤ) → i < length L → length (members_of (take (i + 1) L)) ≡ length (members_of (take i L)) + width_of (get_or L i d)
more_counted L i d h =
    let p = get_or L i d in
    let next : i + 1 ≡ suc i = omega arith in
    let e : take (i + 1) L ≡ take i L ++ p ∷ [] = ap (λ (n : ℕ). take n L) next ∙ take-suc L i d h in
    ap (λ (K : List (ℤ × ℤ)). length (members_of K)) e ∙ ap length (members_of-push (take i L) p) ∙ length-append (members_of (take i L)) (numbers_of p)
    ∙ ap (λ (n : ℕ). length (members_of (take i L)) + n) (numbers_of_counted p)

-- ---- all of them lie in a range

counted_from : (M : List ℤ) (v u : ℤ) → IsAscending M → ((z : ℤ) → IsIn M z → (v ≤ℤ z) × (z ≤ℤ u)) → length M ≤ width_of (v, u)
counted_from [] v u a h = omega arith
counted_from (x ∷ M) v u a h =
    let here = h x (inl refl) in
    let low = here.0 in
    let high = here.1 in
    let rest = counted_from M (x +ℤ pos 1) u a.1 (λ z i. let above = a.0 z i in (omega (arith, ints), (h z (inr i)).1)) in
    let less = without_lower (x, u) high in
    let some = width_of-filled (x, u) high in
    let all = width_of-filled (v, u) (omega (arith, ints)) in
    omega (arith, ints)

pub ascending_counted : (M : List ℤ) (W : ℤ × ℤ) → IsAscending M → ((z : ℤ) → IsIn M z → IsBetween W z) → length M ≤ width_of W
ascending_counted M W a h = counted_from M W.0 W.1 a h

-- ---- one step

pub fewer_by_first : {A : Type 0} (value : A → ℤ) (all left : List ℤ) (r : Option A) (n : ℕ) → YieldsFirstBy value (λ (l : List ℤ). l) all r left → length all ≤ n → length left ≤ n
fewer_by_first value all left None n y h = subst (λ (M : List ℤ). length M ≤ n) (y.0 ∙ sym y.1) h
fewer_by_first value all left (Some x) n y h = let e = ap length y in omega arith

pub fewer_by_last : {A : Type 0} (value : A → ℤ) (all left : List ℤ) (r : Option A) (n : ℕ) → YieldsLastBy value (λ (l : List ℤ). l) all r left → length all ≤ n → length left ≤ n
fewer_by_last value all left None n y h = subst (λ (M : List ℤ). length M ≤ n) (y.0 ∙ sym y.1) h
fewer_by_last value all left (Some x) n y h = let e = ap length y in let m = length-append left (value x ∷ []) in omega arith

-- the members of a list of runs in the range, and those of a list with what a set in the range has in a window
pub members_counted : (L : List (ℤ × ℤ)) (W : ℤ × ℤ) → IsRunListIn W L → length (members_of L) ≤ width_of W
members_counted L W r = ascending_counted (members_of L) W (ascending_members L r.maximal) (λ z i. r.within z ((in_members L z).1 i))

-- Lemmas on how many runs a set has: each run starts where the set does.
use Rattle.std.proofs.Common.{◌≡◌, suc, ◌+◌, ◌*◌, ◌≤◌, ◌⊎◌, inl, inr, ⊎_elim, ℤ, pos, ◌+ℤ◌, ◌-ℤ◌, List, [], ◌∷◌, ◌++◌, map, length, length-append, refl, ap, arith}
use Rattle.std.proofs.lemmas.Int.{ints, by_lt_z}
use Rattle.ivl_laws.specs.Sets.{IsBetween, Union, Intersection, Complement}
use Rattle.ivl_laws.specs.Runs.{Covers, IsMaximal, IsRunsOf}
use Rattle.ivl_laws.specs.Counts.{IsIn, IsDistinct}
use Rattle.ivl_laws.specs.Arithmetic.{pairwise}
use Rattle.ivl_laws.proofs.Runs.{covered_after, covered_from}
use Rattle.ivl_laws.proofs.Counts.{length-le, in-append_left, in-append_right}

pub decide_between : (p : ℤ × ℤ) (z : ℤ) → IsBetween p z ⊎ (¬ (IsBetween p z))
decide_between p z = by_lt_z z p.0
    (λ lt. inr (λ b. let l = b.0 in omega (arith, ints)))
    (λ le. by_lt_z p.1 z (λ lt. inr (λ b. let u = b.1 in omega (arith, ints))) (λ high. inl (le, high)))

pub decide_covers : (L : List (ℤ × ℤ)) (z : ℤ) → Covers L z ⊎ (¬ (Covers L z))
decide_covers [] z = inr (λ c. c)
decide_covers (p ∷ L) z = ⊎_elim (λ b. inl (inl b)) (λ n. ⊎_elim (λ c. inl (inr c)) (λ m. inr (⊎_elim n m)) (decide_covers L z)) (decide_between p z)

abbrev pub starts : List (ℤ × ℤ) → List ℤ
starts [] = []
starts (p ∷ L) = p.0 ∷ starts L

-- the numbers that follow an upper end
abbrev pub after_ends : List (ℤ × ℤ) → List ℤ
after_ends [] = []
after_ends (p ∷ L) = (p.1 +ℤ pos 1) ∷ after_ends L

pub length-starts : (L : List (ℤ × ℤ)) → length (starts L) ≡ length L
length-starts [] = refl
length-starts (p ∷ L) = ap suc (length-starts L)

pub length-after_ends : (L : List (ℤ × ℤ)) → length (after_ends L) ≡ length L
length-after_ends [] = refl
length-after_ends (p ∷ L) = ap suc (length-after_ends L)

pub start_is_covered : (L : List (ℤ × ℤ)) (z : ℤ) → IsMaximal L → IsIn (starts L) z → Covers L z
start_is_covered [] z m i = absurd i
start_is_covered (p ∷ L) z m (inl e) = let open_pair = m.0 in inl (omega (arith, ints), omega (arith, ints))
start_is_covered (p ∷ L) z m (inr i) = inr (start_is_covered L z m.2 i)

-- the number below a start is not covered
pub free_below : (L : List (ℤ × ℤ)) (z : ℤ) → IsMaximal L → IsIn (starts L) z → ¬ (Covers L (z -ℤ pos 1))
free_below [] z m i c = absurd i
free_below (p ∷ L) z m (inl e) c = let low = covered_from p L (z -ℤ pos 1) m c in omega (arith, ints)
free_below (p ∷ L) z m (inr i) (inl b) =
    let far = covered_after p.1 L z m.1 m.2 (start_is_covered L z m.2 i) in
    let high = b.1 in
    omega (arith, ints)
free_below (p ∷ L) z m (inr i) (inr c) = free_below L z m.2 i c

pub starts_are_distinct : (L : List (ℤ × ℤ)) → IsMaximal L → IsDistinct (starts L)
starts_are_distinct [] m = tt
starts_are_distinct (p ∷ L) m =
    ((λ i. let far = covered_after p.1 L p.0 m.1 m.2 (start_is_covered L p.0 m.2 i) in let open_pair = m.0 in omega (arith, ints)), starts_are_distinct L m.2)

-- a member whose predecessor is none is a start
pub start_of : (L : List (ℤ × ℤ)) (z : ℤ) → Covers L z → ¬ (Covers L (z -ℤ pos 1)) → IsIn (starts L) z
start_of [] z c n = c
start_of (p ∷ L) z (inl b) n = by_lt_z p.0 z
    (λ lt. let low = b.0 in let high = b.1 in absurd (n (inl (omega (arith, ints), omega (arith, ints)))))
    (λ le. let low = b.0 in inl (omega (arith, ints)))
start_of (p ∷ L) z (inr c) n = inr (start_of L z c (λ d. n (inr d)))

-- one that is free while its predecessor is covered follows an upper end
pub end_of : (L : List (ℤ × ℤ)) (z : ℤ) → Covers L (z -ℤ pos 1) → ¬ (Covers L z) → IsIn (after_ends L) z
end_of [] z c n = c
end_of (p ∷ L) z (inl b) n = by_lt_z p.1 z
    (λ lt. let high = b.1 in inl (omega (arith, ints)))
    (λ le. let low = b.0 in absurd (n (inl (omega (arith, ints), le))))
end_of (p ∷ L) z (inr c) n = inr (end_of L z c (λ d. n (inr d)))

-- a set of runs is no longer than a list that holds the numbers where it starts
pub length_by_starts : (R : List (ℤ × ℤ)) (S : ℤ → Type 0) (ys : List ℤ) → IsRunsOf R S → ((z : ℤ) → S z → ¬ (S (z -ℤ pos 1)) → IsIn ys z) → length R ≤ length ys
length_by_starts R S ys r f =
    let short : length (starts R) ≤ length ys = length-le (starts R) ys (starts_are_distinct R r.maximal)
    (λ z i. f z ((r.members z).0 (start_is_covered R z r.maximal i)) (λ s. free_below R z r.maximal i ((r.members (z -ℤ pos 1)).1 s))) in
    let same = length-starts R in
    omega arith

pub length_of_union : (L M R : List (ℤ × ℤ)) → IsRunsOf R (Union (Covers L) (Covers M)) → length R ≤ length L + length M
length_of_union L M R r =
    let short = length_by_starts R (Union (Covers L) (Covers M)) (starts L ++ starts M) r
    (λ z s n. ⊎_elim
    (λ c. in-append_left (starts L) (starts M) z (start_of L z c (λ d. n (inl d))))
    (λ c. in-append_right (starts L) (starts M) z (start_of M z c (λ d. n (inr d)))) s) in
    let a = length-append (starts L) (starts M) in
    let b = length-starts L in
    let c = length-starts M in
    omega arith

pub length_of_intersection : (L M R : List (ℤ × ℤ)) → IsRunsOf R (Intersection (Covers L) (Covers M)) → length R ≤ length L + length M
length_of_intersection L M R r =
    let short = length_by_starts R (Intersection (Covers L) (Covers M)) (starts L ++ starts M) r
    (λ z s n. ⊎_elim
    (λ d. in-append_right (starts L) (starts M) z (start_of M z s.1 (λ e. n (d, e))))
    (λ d. in-append_left (starts L) (starts M) z (start_of L z s.0 d))
    (decide_covers L (z -ℤ pos 1))) in
    let a = length-append (starts L) (starts M) in
    let b = length-starts L in
    let c = length-starts M in
    omega arith

pub length_of_complement : (p : ℤ × ℤ) (L R : List (ℤ × ℤ)) → IsRunsOf R (Complement p (Covers L)) → length R ≤ length L + 1
length_of_complement p L R r =
    let short = length_by_starts R (Complement p (Covers L)) (p.0 ∷ after_ends L) r
    (λ z (b, free) n. by_lt_z p.0 z
    (λ lt. ⊎_elim
    (λ c. inr (end_of L z c free))
    (λ d. let low = b.0 in let high = b.1 in absurd (n ((omega (arith, ints), omega (arith, ints)), d)))
    (decide_covers L (z -ℤ pos 1)))
    (λ le. let low = b.0 in inl (omega (arith, ints)))) in
    let b = length-after_ends L in
    omega arith

-- ---- the places of results over each pair of runs

pub length-map : {X Y : Type 0} (f : X → Y) (xs : List X) → length (map f xs) ≡ length xs
length-map f [] = refl
length-map f (x ∷ xs) = ap suc (length-map f xs)

pub length-pairwise : (f : ℤ × ℤ → ℤ × ℤ → ℤ × ℤ) (L M : List (ℤ × ℤ)) → length (pairwise f L M) ≡ length L * length M
length-pairwise f [] M = omega arith
length-pairwise f (p ∷ L) M =
    let a = length-append (map (f p) M) (pairwise f L M) in
    let b = length-map (f p) M in
    let c = length-pairwise f L M in
    omega arith

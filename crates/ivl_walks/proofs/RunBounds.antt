-- How many runs a difference has: each of its ends is an end of one of the two sets.
use Rattle.std.proofs.Common.{◌≡◌, ◌↔◌, ◌⊎◌, inl, inr, ⊎_elim, ◌+◌, ◌≤◌, ℤ, pos, ◌+ℤ◌, ◌-ℤ◌, List, [], ◌∷◌, ◌++◌, length, length-append, arith}
use Rattle.std.proofs.lemmas.Int.{ints}
use Rattle.ivl_laws.specs.Sets.{Without, SymmetricDifference}
use Rattle.ivl_laws.specs.Runs.{Covers, IsMaximal, IsRunsOf}
use Rattle.ivl_laws.specs.Counts.{IsIn, IsDistinct}
use Rattle.ivl_laws.proofs.Runs.{covered_after}
use Rattle.ivl_laws.proofs.Counts.{length-le, in-append, in-append_left, in-append_right, IsDistinct-append}
use Rattle.ivl_laws.proofs.Lengths.{decide_covers, starts, after_ends, length-starts, length-after_ends, length_by_starts, start_of, end_of, start_is_covered, free_below, starts_are_distinct}

pub length_of_without : (L M R : List (ℤ × ℤ)) → IsRunsOf R (Without (Covers L) (Covers M)) → length R ≤ length L + length M
length_of_without L M R r =
    let short = length_by_starts R (Without (Covers L) (Covers M)) (starts L ++ after_ends M) r
    (λ z s n. ⊎_elim
    (λ d. in-append_right (starts L) (after_ends M) z (end_of M z (⊎_elim (λ e. e) (λ m. absurd (n (d, m))) (decide_covers M (z -ℤ pos 1))) s.1))
    (λ d. in-append_left (starts L) (after_ends M) z (start_of L z s.0 d))
    (decide_covers L (z -ℤ pos 1))) in
    let a = length-append (starts L) (after_ends M) in
    let b = length-starts L in
    let c = length-after_ends M in
    omega arith

-- ---- the numbers where a list begins or ceases to cover

length-ends_of : (L : List (ℤ × ℤ)) → length (starts L ++ after_ends L) ≡ length L + length L
length-ends_of L = let a = length-append (starts L) (after_ends L) in let b = length-starts L in let c = length-after_ends L in omega arith

follows_end : (L : List (ℤ × ℤ)) (z : ℤ) → IsMaximal L → IsIn (after_ends L) z → Covers L (z -ℤ pos 1)
follows_end [] z m i = i
follows_end (p ∷ L) z m (inl e) = let o = m.0 in inl (omega (arith, ints), omega (arith, ints))
follows_end (p ∷ L) z m (inr i) = inr (follows_end L z m.2 i)

free_at_end : (L : List (ℤ × ℤ)) (z : ℤ) → IsMaximal L → IsIn (after_ends L) z → ¬ (Covers L z)
free_at_end [] z m i c = i
free_at_end (p ∷ L) z m (inl e) (inl b) = let h = b.1 in omega (arith, ints)
free_at_end (p ∷ L) z m (inl e) (inr c) = let far = covered_after p.1 L z m.1 m.2 c in omega (arith, ints)
free_at_end (p ∷ L) z m (inr i) (inl b) =
    let far = covered_after p.1 L (z -ℤ pos 1) m.1 m.2 (follows_end L z m.2 i) in
    let h = b.1 in
    omega (arith, ints)
free_at_end (p ∷ L) z m (inr i) (inr c) = free_at_end L z m.2 i c

ends_are_distinct : (L : List (ℤ × ℤ)) → IsMaximal L → IsDistinct (after_ends L)
ends_are_distinct [] m = tt
ends_are_distinct (p ∷ L) m =
    ((λ i. let far = covered_after p.1 L ((p.1 +ℤ pos 1) -ℤ pos 1) m.1 m.2 (follows_end L (p.1 +ℤ pos 1) m.2 i) in omega (arith, ints)), ends_are_distinct L m.2)

all_distinct : (L : List (ℤ × ℤ)) → IsMaximal L → IsDistinct (starts L ++ after_ends L)
all_distinct L m = IsDistinct-append (starts L) (after_ends L) (starts_are_distinct L m) (ends_are_distinct L m)
    (λ z i j. free_at_end L z m j (start_is_covered L z m i))

-- a number is where a list begins or ceases to cover, or the list covers it just as the number below
changes : (L : List (ℤ × ℤ)) (z : ℤ) → IsIn (starts L ++ after_ends L) z ⊎ (Covers L z ↔ Covers L (z -ℤ pos 1))
changes L z = ⊎_elim
    (λ c. ⊎_elim (λ d. inr ((λ h. d), (λ h. c))) (λ n. inl (in-append_left (starts L) (after_ends L) z (start_of L z c n))) (decide_covers L (z -ℤ pos 1)))
    (λ m. ⊎_elim (λ d. inl (in-append_right (starts L) (after_ends L) z (end_of L z d m))) (λ n. inr ((λ c. absurd (m c)), (λ d. absurd (n d)))) (decide_covers L (z -ℤ pos 1)))
    (decide_covers L z)

same_alone : {P P' Q Q' : Type 0} → (P ↔ P') → (Q ↔ Q') → (P × (¬ Q)) ⊎ (Q × (¬ P)) → (P' × (¬ Q')) ⊎ (Q' × (¬ P'))
same_alone e f (inl (p, n)) = inl (e.0 p, λ q. n (f.1 q))
same_alone e f (inr (q, n)) = inr (f.0 q, λ p. n (e.1 p))

back_of : {P Q : Type 0} → P ↔ Q → Q ↔ P
back_of e = (e.1, e.0)

pub length_of_one_alone : (L M R : List (ℤ × ℤ)) → IsRunsOf R (SymmetricDifference (Covers L) (Covers M)) → length R ≤ length L + length M
length_of_one_alone L M R r =
    let most : length (starts R ++ after_ends R) ≤ length ((starts L ++ after_ends L) ++ (starts M ++ after_ends M)) =
    length-le (starts R ++ after_ends R) ((starts L ++ after_ends L) ++ (starts M ++ after_ends M)) (all_distinct R r.maximal) inside in
    let a = length-ends_of R in
    let b = length-ends_of L in
    let c = length-ends_of M in
    let d = length-append (starts L ++ after_ends L) (starts M ++ after_ends M) in
    omega arith
  where
    S : ℤ → Type 0
    S = SymmetricDifference (Covers L) (Covers M)

    one_changes : (z : ℤ) → ((S z ↔ S (z -ℤ pos 1)) → ⊥) → IsIn ((starts L ++ after_ends L) ++ (starts M ++ after_ends M)) z
    one_changes z differs = ⊎_elim
        (λ i. in-append_left (starts L ++ after_ends L) (starts M ++ after_ends M) z i)
        (λ e. ⊎_elim
        (λ j. in-append_right (starts L ++ after_ends L) (starts M ++ after_ends M) z j)
        (λ f. absurd (differs (same_alone e f, same_alone (back_of e) (back_of f))))
        (changes M z))
        (changes L z)

    inside : (z : ℤ) → IsIn (starts R ++ after_ends R) z → IsIn ((starts L ++ after_ends L) ++ (starts M ++ after_ends M)) z
    inside z i = one_changes z (λ e. ⊎_elim
        (λ s. free_below R z r.maximal s ((r.members (z -ℤ pos 1)).1 (e.0 ((r.members z).0 (start_is_covered R z r.maximal s)))))
        (λ t. free_at_end R z r.maximal t ((r.members z).1 (e.1 ((r.members (z -ℤ pos 1)).0 (follows_end R z r.maximal t)))))
        (in-append (starts R) (after_ends R) z i))

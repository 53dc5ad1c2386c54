-- A list of runs in pages, each a part of the list.
--     flattened P      the runs of each page in turn
--     StartsUpTo P v n      the first n pages have a number up to v, and the others none
--     IsPageSpan P u v i j      the pages before i lie below u, those from j on above v, and those between i and the last within; of several the last one starts by v
--     IsInsertSpan whole P p i j      the pages before i lie below p and do not touch it, and those from j on above; p touches the last of several
--     IsReaching p S q      q is p, up to the end of the run of S that has the last number of p or the one after
--     IsPageCut P p i Q      Q is P with the numbers of an interval removed from page i
--     AreHeads value H P      each element of H is the least number of the page at its place
--     IsLongest n S      n members of S stand in a row somewhere, and nowhere more
--     IsLongestPart p S      p lies in S, and nowhere in S stand more numbers in a row than p has
use Rattle.std.specs.Prelude.{◌≡◌, ◌⊎◌, ℕ, ◌+◌, ◌-◌, ◌<◌, ◌≤◌, ℤ, pos, ◌+ℤ◌, ◌≤ℤ◌, ◌<ℤ◌, List, [], ◌∷◌, ◌++◌, drop, length, take}
use Rattle.ivl_laws.specs.Families.{set_at}
use Rattle.ivl_laws.specs.Bounds.{width_of}
use Rattle.ivl_laws.specs.Sets.{IsBetween, IsSubset, Union, Without}
use Rattle.ivl_laws.specs.Runs.{Covers, IsRunsOf}
use Rattle.ivl_places.specs.FirstFit.{FitsAt}
use Rattle.ivl_places.specs.Neighbours.{IsLeast}

abbrev pub flattened : List (List (ℤ × ℤ)) → List (ℤ × ℤ)
flattened [] = []
flattened (L ∷ P) = L ++ flattened P

-- the page before place n starts at v or below, and those from there on lie above v
pub record StartsUpTo (P : List (List (ℤ × ℤ))) (v : ℤ) (n : ℕ) : Type 0 where
  pub at_most : n ≤ length P
  pub starts : 0 < n → (z : ℤ) × set_at P (n - 1) z × (z ≤ℤ v)
  pub above : (k : ℕ) (z : ℤ) → n ≤ k → set_at P k z → v <ℤ z

-- from place i to before place j are the pages that a change of the numbers from u to v may touch
pub record IsPageSpan (P : List (List (ℤ × ℤ))) (u v : ℤ) (i j : ℕ) : Type 0 where
  pub in_order : i < j
  pub at_most : j ≤ length P
  pub below : (k : ℕ) (z : ℤ) → k < i → set_at P k z → (z +ℤ pos 2) ≤ℤ u
  pub from : (k : ℕ) (z : ℤ) → i < k → set_at P k z → u <ℤ z
  pub to : (k : ℕ) (z : ℤ) → k + 1 < j → set_at P k z → (z +ℤ pos 2) ≤ℤ v
  pub above : (k : ℕ) (z : ℤ) → j ≤ k → set_at P k z → v <ℤ z
  pub last : i + 1 < j → (z : ℤ) × set_at P (j - 1) z × (z ≤ℤ v)

-- from place i to before place j are the pages that the numbers of p, added, may touch
pub record IsInsertSpan (whole : ℤ × ℤ) (P : List (List (ℤ × ℤ))) (p : ℤ × ℤ) (i j : ℕ) : Type 0 where
  pub next : ℤ
  pub is_next : (next ≡ p.1 +ℤ pos 1) ⊎ ((next ≡ p.1) × (p.1 ≡ whole.1))
  pub span : IsPageSpan P p.0 next i j

-- there may be no such run
pub record IsReaching (p : ℤ × ℤ) (S : ℤ → Type 0) (q : ℤ × ℤ) : Type 0 where
  pub starts : q.0 ≡ p.0
  pub ends : p.1 ≤ℤ q.1
  pub inside : IsSubset (IsBetween q) (Union S (IsBetween p))
  pub free_above : ¬ (S (q.1 +ℤ pos 1))

-- Q is P with the numbers of p removed from page i, in whose place the pages `left` stand: itself, or none
pub record IsPageCut (P : List (List (ℤ × ℤ))) (p : ℤ × ℤ) (i : ℕ) (Q : List (List (ℤ × ℤ))) : Type 0 where
  pub left : List (List (ℤ × ℤ))
  pub pages : Q ≡ take i P ++ (left ++ drop (i + 1) P)
  pub members : IsRunsOf (flattened left) (Without (set_at P i) (IsBetween p))

-- there are as many as pages; each has a number, by `value`
abbrev pub AreHeads : {X : Type 0} → (X → ℤ) → List X → List (List (ℤ × ℤ)) → Type 0
AreHeads value [] [] = Unit {0}
AreHeads value [] (L ∷ P) = ⊥
AreHeads value (h ∷ H) [] = ⊥
AreHeads value (h ∷ H) (L ∷ P) = IsLeast (value h) (Covers L) × AreHeads value H P

-- what the longest run of a page has
pub record IsLongest (n : ℕ) (S : ℤ → Type 0) : Type 0 where
  pub fits : (v : ℤ) × FitsAt n S v
  pub most : (m : ℕ) (v : ℤ) → FitsAt m S v → m ≤ n

-- the longest run, or one of them
pub record IsLongestPart (p : ℤ × ℤ) (S : ℤ → Type 0) : Type 0 where
  pub inside : IsSubset (IsBetween p) S
  pub longest : IsLongest (width_of p) S

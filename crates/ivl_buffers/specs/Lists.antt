-- The members of a list of pairs as C has it, and the ranges.
--     pair_i64, pair_u64      a pair as two numbers
--     pairs_i64, pairs_u64      the pairs of a list
--     members_i64, members_u64      the numbers in some pair of the list; a crossed pair has none
--     whole_i64, whole_u64      from the least number of a set to the greatest
--     FollowsBy p L      neither bound of the first pair, if there is one, is below that of p
--     IsInOrder L      no pair is crossed, and neither the lower nor the upper bounds descend
use Rattle.std.specs.Prelude.{◌-◌, ◌^◌, ℤ, pos, negsuc, ◌≤ℤ◌, List, [], ◌∷◌, map}
use Rattle.ivl_laws.specs.Runs.{Covers}
use Rattle.ivl_buffers.specs.declared.pair.PairI64.{PairI64}
use Rattle.ivl_buffers.specs.declared.pair.PairU64.{PairU64}

abbrev pub pair_i64 : PairI64 → ℤ × ℤ
pair_i64 r = (r.lower, r.upper)

abbrev pub pair_u64 : PairU64 → ℤ × ℤ
pair_u64 r = (pos r.lower, pos r.upper)

abbrev pub pairs_i64 : List PairI64 → List (ℤ × ℤ)
pairs_i64 L = map (λ r. (r.lower, r.upper)) L

abbrev pub pairs_u64 : List PairU64 → List (ℤ × ℤ)
pairs_u64 L = map (λ r. (pos r.lower, pos r.upper)) L

abbrev pub members_i64 : List PairI64 → ℤ → Type 0
members_i64 L = Covers (pairs_i64 L)

abbrev pub members_u64 : List PairU64 → ℤ → Type 0
members_u64 L = Covers (pairs_u64 L)

abbrev pub whole_i64 : ℤ × ℤ
whole_i64 = (negsuc (2 ^ 63 - 2), pos (2 ^ 63 - 1))

abbrev pub whole_u64 : ℤ × ℤ
whole_u64 = (pos 0, pos (2 ^ 64 - 2))

abbrev pub FollowsBy : ℤ × ℤ → List (ℤ × ℤ) → Type 0
FollowsBy p [] = Unit {0}
FollowsBy p (q ∷ L) = (p.0 ≤ℤ q.0) × (p.1 ≤ℤ q.1)

-- pairs may overlap, touch and be equal
abbrev pub IsInOrder : List (ℤ × ℤ) → Type 0
IsInOrder [] = Unit {0}
IsInOrder (p ∷ L) = (p.0 ≤ℤ p.1) × FollowsBy p L × IsInOrder L

-- What the search of a half has used of the nodes, for the best solution.
use Rattle.std.proofs.Common.{◌≡◌, ◌<◌, ◌≤◌, ◌+◌, ◌*◌, ℕ, arith, subst, List, length, max}
use Rattle.std.specs.Prelude.{ℤ, All}
use Rattle.ivl_laws.specs.Families.{set_at}
use Rattle.ivl_laws.specs.Runs.{IsRunListIn}
use Rattle.ivl_laws.specs.Sets.{HasSome}
use Rattle.ivl_rules.specs.declared.rules.Rule.{Rule}
use Rattle.ivl_network.specs.Network.{IsCutAt}
use Rattle.ivl_search.specs.declared.search.choice.Wanted.{Wanted}
use Rattle.ivl_search.specs.Best.{IsAsGood, IsBetter}
use Rattle.ivl_search.specs.Budget.{nodes_each, nodes_enough, points_of}
use Rattle.ivl_search.specs.Halves.{IsMiddle}
use Rattle.ivl_search.proofs.Better.{good_or_worse}
use Rattle.ivl_search.proofs.Budget.{points_le, points_parts, points_some}
use Rattle.ivl_search.proofs.Opening.{better_points, filled_low}
use Rattle.ivl_search.proofs.Paths.{not_both}
use Rattle.ivl_search.proofs.Rooms.{half_spent, half_stopped}

-- the better half of narrowed domains
pub record IsGoodHalf (whole : ℤ × ℤ) (wanted : Wanted) (sets good : List (List (ℤ × ℤ))) (variable : ℕ) (half : ℤ) : Type 0 where
  pub runs : All (IsRunListIn whole) sets
  pub filled : (i : ℕ) → i < length sets → HasSome (set_at sets i)
  pub known : variable < length sets
  pub middle : IsMiddle wanted (set_at sets variable) half
  pub same_count : length good ≡ length sets
  pub runs_good : All (IsRunListIn whole) good
  pub cut : IsCutAt variable (IsAsGood wanted half) (set_at sets) (set_at good)

some_good : (whole : ℤ × ℤ) (wanted : Wanted) (sets good : List (List (ℤ × ℤ))) (variable : ℕ) (half : ℤ) → IsGoodHalf whole wanted sets good variable half → 1 ≤ points_of whole good
some_good whole wanted sets good variable half h =
    points_some whole good h.runs_good (filled_low wanted sets good variable half h.filled h.same_count h.middle.member h.cut)

one_each : (cs : List Rule) → 1 ≤ nodes_each cs
one_each cs = omega arith

-- it has no more points than the domains
fewer_good : (whole : ℤ × ℤ) (wanted : Wanted) (sets good : List (List (ℤ × ℤ))) (variable : ℕ) (half : ℤ) → IsGoodHalf whole wanted sets good variable half → points_of whole good ≤ points_of whole sets
fewer_good whole wanted sets good variable half h = points_le whole good sets h.same_count (λ i v m. ((h.cut i v).0 m).0)

-- where a point is found in it, and what is better is left
pub spent_better : (whole : ℤ × ℤ) (wanted : Wanted) (ks cs : List Rule) (sets good new : List (List (ℤ × ℤ))) (variable : ℕ) (half found : ℤ) (all points nodes before left after : ℕ)
    → IsGoodHalf whole wanted sets good variable half → ks ≡ cs → left ≤ after + nodes_enough whole ks good
    → nodes + 2 * points * nodes_each cs ≤ before + 2 * max 1 all * nodes_each cs → left + 1 ≡ before → points_of whole sets ≤ points
    → length new ≡ length sets → IsCutAt variable (IsBetter wanted found) (set_at sets) (set_at new) → set_at sets variable found → IsAsGood wanted half found
    → nodes + 2 * points_of whole new * nodes_each cs ≤ after + 2 * max 1 all * nodes_each cs
spent_better whole wanted ks cs sets good new variable half found all points nodes before left after h same_cs spent budget e le same cut member as_good =
    half_spent (nodes_each cs) all points (points_of whole sets) (points_of whole good) (points_of whole new) nodes before left after (one_each cs) budget e (subst (λ k. left ≤ after + nodes_enough whole k good) same_cs spent)
    (some_good whole wanted sets good variable half h)
    (better_points whole wanted sets good new variable half found h.runs h.known h.same_count same h.middle h.cut cut member as_good) le

-- where there is none, and the other half is left
pub spent_worse : (whole : ℤ × ℤ) (wanted : Wanted) (ks cs : List Rule) (sets good new : List (List (ℤ × ℤ))) (variable : ℕ) (half : ℤ) (all points nodes before left after : ℕ)
    → IsGoodHalf whole wanted sets good variable half → ks ≡ cs → left ≤ after + nodes_enough whole ks good
    → nodes + 2 * points * nodes_each cs ≤ before + 2 * max 1 all * nodes_each cs → left + 1 ≡ before → points_of whole sets ≤ points
    → length new ≡ length sets → IsCutAt variable (λ v. IsBetter wanted v half) (set_at sets) (set_at new)
    → nodes + 2 * points_of whole new * nodes_each cs ≤ after + 2 * max 1 all * nodes_each cs
spent_worse whole wanted ks cs sets good new variable half all points nodes before left after h same_cs spent budget e le same cut =
    let sum = points_parts whole good new sets variable (IsAsGood wanted half) (λ v. IsBetter wanted v half) (good_or_worse wanted half) (not_both wanted half) h.known h.same_count same h.cut cut in
    half_spent (nodes_each cs) all points (points_of whole sets) (points_of whole good) (points_of whole new) nodes before left after (one_each cs) budget e (subst (λ k. left ≤ after + nodes_enough whole k good) same_cs spent)
    (some_good whole wanted sets good variable half h) (at_most (points_of whole good) (points_of whole new) (points_of whole sets) sum) le
  where
    at_most : (a b c : ℕ) → a + b ≡ c → b + a ≤ c
    at_most a b c e = omega (arith, e)

-- and where the search of it has used all
pub spent_all : (whole : ℤ × ℤ) (wanted : Wanted) (ks cs : List Rule) (sets good : List (List (ℤ × ℤ))) (variable : ℕ) (half : ℤ) (all points nodes before left : ℕ)
    → IsGoodHalf whole wanted sets good variable half → ks ≡ cs → left < nodes_enough whole ks good
    → nodes + 2 * points * nodes_each cs ≤ before + 2 * max 1 all * nodes_each cs → left + 1 ≡ before → points_of whole sets ≤ points
    → nodes < 2 * max 1 all * nodes_each cs + 1
spent_all whole wanted ks cs sets good variable half all points nodes before left h same_cs stop budget e le =
    let less = half_stopped (nodes_each cs) all points (points_of whole sets) (points_of whole good) nodes before left (one_each cs) budget e (subst (λ k. left < nodes_enough whole k good) same_cs stop)
    (some_good whole wanted sets good variable half h) (fewer_good whole wanted sets good variable half h) le in
    more (2 * max 1 all * nodes_each cs) nodes less
  where
    more : (a n : ℕ) → n < a → n < a + 1
    more a n h = omega (arith, h)

-- or all are used before a half
pub spent_before : (k all points nodes : ℕ) → nodes + 2 * points * k ≤ 2 * max 1 all * k → nodes < 2 * max 1 all * k + 1
spent_before k all points nodes h = last (2 * points * k) (2 * max 1 all * k) nodes h
  where
    last : (a b n : ℕ) → n + a ≤ b → n < b + 1
    last a b n h = omega (arith, h)

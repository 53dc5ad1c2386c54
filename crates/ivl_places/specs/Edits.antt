-- Runs put in the place of others.
--     IsSpan L u v i j      the runs from place i to before place j are those that end at u or above and start at v or below
--     replaced L i j o p      the list with at most two runs in the place of those from i to before j
--     widened p      the pair with one number more on either side
use Rattle.std.specs.Prelude.{ℕ, ◌≤◌, ℤ, pos, ◌+ℤ◌, ◌-ℤ◌, List, ◌++◌, Option, length, take, drop}
use Rattle.ivl_laws.specs.Runs.{StartsBy}
use Rattle.ivl_walks.specs.HeldRun.{led_by}
use Rattle.ivl_places.specs.Places.{EndBelow, EndsFrom, StartAbove}

pub record IsSpan (L : List (ℤ × ℤ)) (u v : ℤ) (i j : ℕ) : Type 0 where
  pub in_order : i ≤ j
  pub at_most : j ≤ length L
  pub below : EndBelow u (take i L)
  pub ends : EndsFrom u (drop i L)
  pub starts : StartsBy v (take j L)
  pub above : StartAbove v (drop j L)

abbrev pub replaced : List (ℤ × ℤ) → ℕ → ℕ → Option (ℤ × ℤ) → Option (ℤ × ℤ) → List (ℤ × ℤ)
replaced L i j o p = take i L ++ led_by o (led_by p (drop j L))

abbrev pub widened : ℤ × ℤ → ℤ × ℤ
widened p = (p.0 -ℤ pos 1, p.1 +ℤ pos 1)

-- Examples of lists of runs. `negsuc 4` is -5.
use Rattle.std.proofs.Common.{◌≡◌, inl, inr, ⊎_elim, ℤ, pos, negsuc, [], ◌∷◌, refl, arith}
use Rattle.std.proofs.lemmas.Int.{ints, by_lt_z}
use Rattle.ivl_laws.specs.Sets.{IsBetween, Union}
use Rattle.ivl_laws.specs.Runs.{AddsRun, Covers, IsMaximal, IsRunListIn, IsRunsOf, StartsAfter, StartsBy, runs_below}

-- ---- Covers

second_run_covers_four : Covers ((pos 1, pos 2) ∷ (pos 4, pos 5) ∷ []) (pos 4)
second_run_covers_four = inr (inl (omega (arith, ints), omega (arith, ints)))

no_run_covers_three : ¬ (Covers ((pos 1, pos 2) ∷ (pos 4, pos 5) ∷ []) (pos 3))
no_run_covers_three (inl (low, high)) = omega (arith, ints)
no_run_covers_three (inr (inl (low, high))) = omega (arith, ints)
no_run_covers_three (inr (inr n)) = n

crossed_run_covers_nothing : ¬ (Covers ((pos 5, pos 1) ∷ []) (pos 3))
crossed_run_covers_nothing (inl (low, high)) = omega (arith, ints)
crossed_run_covers_nothing (inr n) = n

-- ---- StartsAfter, IsMaximal

four_starts_after_two : StartsAfter (pos 2) ((pos 4, pos 5) ∷ [])
four_starts_after_two = omega (arith, ints)

-- no number is free between 2 and 3
three_does_not_start_after_two : ¬ (StartsAfter (pos 2) ((pos 3, pos 5) ∷ []))
three_does_not_start_after_two s = omega (arith, ints)

no_run_starts_after_all : StartsAfter (pos 9) []
no_run_starts_after_all = tt

apart_is_maximal : IsMaximal ((negsuc 4, pos 2) ∷ (pos 4, pos 5) ∷ [])
apart_is_maximal = (omega (arith, ints), omega (arith, ints), (omega (arith, ints), tt, tt))

-- [1..2] and [3..5] touch
touching_is_not_maximal : ¬ (IsMaximal ((pos 1, pos 2) ∷ (pos 3, pos 5) ∷ []))
touching_is_not_maximal (o, far, m) = omega (arith, ints)

crossed_is_not_maximal : ¬ (IsMaximal ((pos 2, pos 1) ∷ []))
crossed_is_not_maximal (o, far, m) = omega (arith, ints)

descending_is_not_maximal : ¬ (IsMaximal ((pos 4, pos 5) ∷ (pos 1, pos 2) ∷ []))
descending_is_not_maximal (o, far, m) = omega (arith, ints)

-- ---- IsRunsOf

one_run_of_touching : IsRunsOf ((pos 1, pos 5) ∷ []) (Union (IsBetween (pos 1, pos 2)) (IsBetween (pos 3, pos 5)))
one_run_of_touching = record {
  maximal = (omega (arith, ints), tt, tt);
  members = λ z. (
    ⊎_elim (λ (low, high). by_lt_z (pos 2) z (λ above. inr (omega (arith, ints), omega (arith, ints))) (λ below. inl (low, below))) (λ n. absurd n),
    ⊎_elim (λ (low, high). inl (omega (arith, ints), omega (arith, ints))) (λ (low, high). inl (omega (arith, ints), omega (arith, ints))),
  );
}

two_runs_of_touching_are_none : ¬ (IsRunsOf ((pos 1, pos 2) ∷ (pos 3, pos 5) ∷ []) (Union (IsBetween (pos 1, pos 2)) (IsBetween (pos 3, pos 5))))
two_runs_of_touching_are_none r = touching_is_not_maximal r.maximal

no_run_of_nothing : IsRunsOf [] (IsBetween (pos 2, pos 1))
no_run_of_nothing = record { maximal = tt; members = λ z. ((λ c. absurd c), (λ (low, high). absurd (omega (arith, ints)))) }

-- ---- IsRunListIn

whole_is_in_its_range : IsRunListIn (pos 0, pos 254) ((pos 0, pos 254) ∷ [])
whole_is_in_its_range = record { maximal = (omega (arith, ints), tt, tt); within = λ z. ⊎_elim (λ b. b) (λ n. absurd n) }

beyond_is_not_in_range : ¬ (IsRunListIn (pos 0, pos 254) ((pos 250, pos 255) ∷ []))
beyond_is_not_in_range r = let high = (r.within (pos 255) (inl (omega (arith, ints), omega (arith, ints)))).1 in omega (arith, ints)

nothing_is_in_every_range : (whole : ℤ × ℤ) → IsRunListIn whole []
nothing_is_in_every_range whole = record { maximal = tt; within = λ z n. absurd n }

-- ---- StartsBy, AddsRun

all_start_by_four : StartsBy (pos 4) ((pos 1, pos 2) ∷ (pos 4, pos 5) ∷ [])
all_start_by_four = (omega (arith, ints), (omega (arith, ints), tt))

not_all_start_by_three : ¬ (StartsBy (pos 3) ((pos 1, pos 2) ∷ (pos 4, pos 5) ∷ []))
not_all_start_by_three (first, (second, rest)) = omega (arith, ints)

none_starts_by_zero : StartsBy (pos 0) []
none_starts_by_zero = tt

-- a run that touches the last one makes it longer
touching_run_is_joined : AddsRun ((pos 1, pos 2) ∷ []) (pos 3, pos 5) ((pos 1, pos 5) ∷ [])
touching_run_is_joined = record {
  runs = record {
    maximal = (omega (arith, ints), tt, tt);
    members = λ z. (
      ⊎_elim (λ (low, high). by_lt_z (pos 2) z (λ above. inr (omega (arith, ints), omega (arith, ints))) (λ below. inl (inl (low, below)))) (λ n. absurd n),
      ⊎_elim (⊎_elim (λ (low, high). inl (omega (arith, ints), omega (arith, ints))) (λ n. absurd n)) (λ (low, high). inl (omega (arith, ints), omega (arith, ints))),
    );
  };
  starts = (omega (arith, ints), tt);
}

-- one that is apart is a run more
run_apart_is_added : AddsRun ((pos 1, pos 2) ∷ []) (pos 4, pos 5) ((pos 1, pos 2) ∷ (pos 4, pos 5) ∷ [])
run_apart_is_added = record {
  runs = record {
    maximal = (omega (arith, ints), omega (arith, ints), (omega (arith, ints), tt, tt));
    members = λ z. (⊎_elim (λ b. inl (inl b)) (⊎_elim (λ b. inr b) (λ n. absurd n)), ⊎_elim (⊎_elim (λ b. inl b) (λ n. absurd n)) (λ b. inr (inl b)));
  };
  starts = (omega (arith, ints), (omega (arith, ints), tt));
}

-- 3 is in neither
run_apart_is_not_joined : ¬ (AddsRun ((pos 1, pos 2) ∷ []) (pos 4, pos 5) ((pos 1, pos 5) ∷ []))
run_apart_is_not_joined a = outside ((a.runs.members (pos 3)).0 (inl (omega (arith, ints), omega (arith, ints))))
  where
    outside : ¬ (Union (Covers ((pos 1, pos 2) ∷ [])) (IsBetween (pos 4, pos 5)) (pos 3))
    outside (inl (inl (low, high))) = omega (arith, ints)
    outside (inl (inr n)) = n
    outside (inr (low, high)) = omega (arith, ints)

-- ---- runs_below

one_run_is_below_three : runs_below (pos 3) ((pos 1, pos 2) ∷ (pos 4, pos 5) ∷ []) ≡ 1
one_run_is_below_three = refl

-- a run that holds the number is not below it
no_run_is_below_two : runs_below (pos 2) ((pos 1, pos 2) ∷ (pos 4, pos 5) ∷ []) ≡ 0
no_run_is_below_two = refl

all_runs_are_below_nine : runs_below (pos 9) ((pos 1, pos 2) ∷ (pos 4, pos 5) ∷ []) ≡ 2
all_runs_are_below_nine = refl

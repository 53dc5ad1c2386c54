-- Days out of which the busy days of a room are taken, one run after the other.
use Rattle.std.proofs.Common.{◌≡◌, ◌⊎◌, ⊎_elim, inl, inr, ◌<◌, ℤ, ◌≤ℤ◌, ◌<ℤ◌, ◌+ℤ◌, ◌-ℤ◌, pos, ℕ, List, [], ◌∷◌, ◌++◌, ◌∙◌, Option, None, Some, ap, append_assoc, arith, subst, sym}
use Rattle.std.specs.Prelude.{MatchOption, String}
use Rattle.std.specs.Global.{Global}
use Rattle.std.proofs.lemmas.Int.{ints, by_lt_z, clamps}
use Rattle.ivl_laws.specs.Bounds.{width_of}
use Rattle.ivl_laws.proofs.Intervals.{pos-non_negative_part, width_of-filled}
use Rattle.ivl_laws.specs.Runs.{Covers, IsMaximal, IsRunsOf}
use Rattle.ivl_laws.specs.Sets.{AtLeast, HasNone, IsBetween, IsSubset, Without}
use Rattle.ivl_places.specs.Neighbours.{IsLeast, IsRunWith}
use Rattle.ivl_map.specs.Entries.{intervals_of}
use Rattle.ivl_calendar.specs.Rooms.{IsRunFrom}

-- those of all that are free, or at least not before some day
abbrev pub IsLeftFrom : List (ℤ × ℤ) → List (ℤ × ℤ) → ℤ → ℤ → Type 0
IsLeftFrom all busy from z = Covers all z × (Covers busy z → from ≤ℤ z)

-- how much of the window is above the end of the next run
abbrev pub width_left : Option (ℤ × ℤ) → ℤ × ℤ → ℕ
width_left None window = 0
width_left (Some run) window = width_of (run.1, window.1)

module _ (all busy : List (ℤ × ℤ)) where
  pub left_first : (from : ℤ) (window : ℤ × ℤ) → from ≡ window.0 → IsMaximal all → IsSubset (Covers all) (IsBetween window) → IsRunsOf all (IsLeftFrom all busy from)
  left_first from window is maximal within =
      record { maximal = maximal; members = λ z. ((λ m. (m, λ b. let low = (within z m).0 in omega (arith, ints))), (λ m. m.0)) }

  -- a busy day that is not before `from`, and not in the run, is above it
  above : (from z : ℤ) (run : ℤ × ℤ) → IsRunFrom from (Covers busy) run → from ≤ℤ z → Covers busy z → (IsBetween run z → ⊥) → run.1 <ℤ z
  above from z run ends at b out = by_lt_z run.1 z (λ l. l) (λ l. absurd (out (ends.2 z (b, at) l)))

  module _ (left new : List (ℤ × ℤ)) (from : ℤ) (run : ℤ × ℤ) (h : IsRunsOf left (IsLeftFrom all busy from)) (ends : IsRunFrom from (Covers busy) run) (k : IsRunsOf new (Without (Covers left) (IsBetween run))) where
    -- a run is taken, and others may follow
    pub left_next : (next : ℤ) → next ≡ run.1 +ℤ pos 1 → IsRunsOf new (IsLeftFrom all busy next)
    left_next next is =
        record {
          maximal = k.maximal;
          members = λ z. (
            (λ m.
                let w = (k.members z).0 m in
                let a = (h.members z).0 w.0 in
                (a.0, λ b. let up = above from z run ends (a.1 b) b w.1 in omega (arith, ints))),
            (λ m.
                let low : from ≤ℤ run.1 = ends.0 in
                (k.members z).1 ((h.members z).1 (m.0, λ b. let up = m.1 b in omega (arith, ints)), λ inside. let up = m.1 (ends.1 z inside) in let top = inside.1 in omega (arith, ints))),
          );
        }

    -- the last run that reaches the window is taken
    pub left_last : (window : ℤ × ℤ) → IsSubset (Covers all) (IsBetween window) → window.1 ≤ℤ run.1 → IsRunsOf new (Without (Covers all) (Covers busy))
    left_last window within top =
        record {
          maximal = k.maximal;
          members = λ z. (
            (λ m.
                let w = (k.members z).0 m in
                let a = (h.members z).0 w.0 in
                (a.0, λ b. let up = above from z run ends (a.1 b) b w.1 in let below = (within z a.0).1 in omega (arith, ints))),
            (λ m. (k.members z).1 ((h.members z).1 (m.0, λ b. absurd (m.1 b)), λ inside. m.1 (ends.1 z inside))),
          );
        }

  -- no busy day is left
  pub left_none : (left : List (ℤ × ℤ)) (from : ℤ) → IsRunsOf left (IsLeftFrom all busy from) → HasNone (AtLeast from (Covers busy)) → IsRunsOf left (Without (Covers all) (Covers busy))
  left_none left from h none =
      record {
        maximal = h.maximal;
        members = λ z. ((λ m. let a = (h.members z).0 m in (a.0, λ b. none z (b, a.1 b))), (λ m. (h.members z).1 (m.0, λ b. absurd (m.1 b))));
      }

-- the run that holds the next busy day
run_holds : (busy : List (ℤ × ℤ)) (day next : ℤ) (o : Option (ℤ × ℤ)) → IsLeast next (AtLeast day (Covers busy)) → MatchOption o (¬ (Covers busy next)) (IsRunWith next (Covers busy)) → MatchOption o (HasNone (AtLeast day (Covers busy))) (IsRunFrom day (Covers busy))
run_holds busy day next None least h = absurd (h least.0.0)
run_holds busy day next (Some run) least h =
    let low = h.holds.0 in
    let high = h.holds.1 in
    let from = least.0.1 in (
      omega (arith, ints),
      h.inside,
      λ z m le. let after = least.1 z m in (omega (arith, ints), le),
    )

-- the same, where the numbers are named otherwise
pub run_is : (busy : List (ℤ × ℤ)) (day next from at : ℤ) (o : Option (ℤ × ℤ)) → from ≡ day → at ≡ next → IsLeast next (AtLeast from (Covers busy)) → MatchOption o (¬ (Covers busy at)) (IsRunWith at (Covers busy)) → MatchOption o (HasNone (AtLeast day (Covers busy))) (IsRunFrom day (Covers busy))
run_is busy day next from at o is_day is_next least h =
    run_holds busy day next o (subst (λ (v : ℤ). IsLeast next (AtLeast v (Covers busy))) is_day least)
    (subst (λ (v : ℤ). MatchOption o (¬ (Covers busy v)) (IsRunWith v (Covers busy))) is_next h)

-- a later run ends nearer to the end of the window, or beyond it
pub width_smaller : (run : ℤ × ℤ) (next : Option (ℤ × ℤ)) (from : ℤ) (busy : List (ℤ × ℤ)) (window : ℤ × ℤ) → run.1 <ℤ window.1 → from ≡ run.1 +ℤ pos 1 → MatchOption next (HasNone (AtLeast from (Covers busy))) (IsRunFrom from (Covers busy)) → width_left next window < width_left (Some run) window
width_smaller run None from busy window below is h = let wide = width_of-filled (run.1, window.1) (omega (arith, ints)) in omega (arith, ints, clamps, wide)
width_smaller run (Some later) from busy window below is h =
    let up = h.0 in
    let wide = width_of-filled (run.1, window.1) (omega (arith, ints)) in
    let less = pos-non_negative_part ((window.1 -ℤ later.1) +ℤ pos 1) in
    omega (arith, ints, clamps, wide, less)

module _ (days : List (ℤ × ℤ)) (window : ℤ × ℤ) (h : IsRunsOf days (IsBetween window)) where
  pub within_window : IsSubset (Covers days) (IsBetween window)
  within_window z m = (h.members z).0 m

  -- the days of the window out of which busy days are taken
  pub taken_from_window : (new : List (ℤ × ℤ)) (busy : ℤ → Type 0) → IsRunsOf new (Without (Covers days) busy) → IsRunsOf new (Without (IsBetween window) busy)
  taken_from_window new busy k =
      record {
        maximal = k.maximal;
        members = λ z. ((λ m. let w = (k.members z).0 m in ((h.members z).0 w.0, w.1)), (λ m. (k.members z).1 ((h.members z).1 m.0, m.1)));
      }

-- ---- bookings with a name, one after the other

abbrev Kept : Type 0
Kept = List ((ℤ × ℤ) × String Global)

covers_before : (done : Kept) (booking : (ℤ × ℤ) × String Global) (z : ℤ) → Covers (intervals_of done) z → Covers (intervals_of (done ++ booking ∷ [])) z
covers_before [] booking z c = absurd c
covers_before (e ∷ done) booking z (inl b) = inl b
covers_before (e ∷ done) booking z (inr c) = inr (covers_before done booking z c)

covers_last : (done : Kept) (booking : (ℤ × ℤ) × String Global) (z : ℤ) → IsBetween booking.0 z → Covers (intervals_of (done ++ booking ∷ [])) z
covers_last [] booking z b = inl b
covers_last (e ∷ done) booking z b = inr (covers_last done booking z b)

covers_either : (done : Kept) (booking : (ℤ × ℤ) × String Global) (z : ℤ) → Covers (intervals_of (done ++ booking ∷ [])) z → Covers (intervals_of done) z ⊎ IsBetween booking.0 z
covers_either [] booking z c = ⊎_elim (λ b. inr b) (λ n. absurd n) c
covers_either (e ∷ done) booking z c = ⊎_elim (λ b. inl (inl b)) (λ d. ⊎_elim (λ k. inl (inr k)) (λ b. inr b) (covers_either done booking z d)) c

-- one booking more is taken
pub named_next : (all free new : List (ℤ × ℤ)) (done : Kept) (booking : (ℤ × ℤ) × String Global) → IsRunsOf free (Without (Covers all) (Covers (intervals_of done))) → IsRunsOf new (Without (Covers free) (IsBetween booking.0))
    → IsRunsOf new (Without (Covers all) (Covers (intervals_of (done ++ booking ∷ []))))
named_next all free new done booking h k =
    record {
      maximal = k.maximal;
      members = λ z. (
        (λ m.
            let w = (k.members z).0 m in
            let a = (h.members z).0 w.0 in
            (a.0, λ c. ⊎_elim a.1 w.1 (covers_either done booking z c))),
        (λ m. (k.members z).1 ((h.members z).1 (m.0, λ c. m.1 (covers_before done booking z c)), λ b. m.1 (covers_last done booking z b))),
      );
    }

pub next_booking : (done left later all : Kept) (booking : (ℤ × ℤ) × String Global) → left ≡ booking ∷ later → done ++ left ≡ all → (done ++ booking ∷ []) ++ later ≡ all
next_booking done left later all booking is h = append_assoc done (booking ∷ []) later ∙ ap (λ (more : Kept). done ++ more) (sym is) ∙ h

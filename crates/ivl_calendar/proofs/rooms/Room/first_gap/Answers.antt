use Rattle.std.proofs.Common.{ℕ, ℤ, List, Option, Some, None, MatchOption}
use Rattle.ivl_laws.specs.Runs.{Covers, IsRunsOf}
use Rattle.ivl_laws.specs.Sets.{IsBetween, Without}
use Rattle.ivl_places.specs.FirstFit.{FitsAt, IsFirstFit}
use Rattle.ivl_calendar.specs.Rooms.{IsBusy}
use Rattle.ivl_calendar.proofs.Taking.{taken_from_window, within_window}
use Rattle.ivl_calendar.proofs.rooms.Room.first_gap.Goals as goal

-- what fits first in the members of a list of runs fits first in the set of which they are the runs
gap_is : (n : ℕ) (L : List (ℤ × ℤ)) (S : ℤ → Type 0) (o : Option (ℤ × ℤ)) → IsRunsOf L S → MatchOption o ((v : ℤ) → ¬ (FitsAt n (Covers L) v)) (IsFirstFit n (Covers L))
    → MatchOption o ((v : ℤ) → ¬ (FitsAt n S v)) (IsFirstFit n S)
gap_is n L S None r m = λ v f. m v (λ z b. (r.members z).1 (f z b))
gap_is n L S (Some run) r m = record { count = m.count; members = λ z b. (r.members z).0 (m.members z b); lowest = λ v f. m.lowest v (λ z b. (r.members z).1 (f z b)) }

pub take_busy-requires : goal.take_busy-requires
take_busy-requires c = within_window c.in_ok-free.free c.args.window c.in_ok-free.ensures

pub returns : goal.returns
returns c =
    gap_is c.args.days _ (Without (IsBetween c.args.window) (IsBusy c.args.self.now)) c.first_fit.result (taken_from_window c.in_ok-free.free c.args.window c.in_ok-free.ensures _ (IsBusy c.args.self.now) c.in_ok-take_busy.ensures) c.first_fit.ensures

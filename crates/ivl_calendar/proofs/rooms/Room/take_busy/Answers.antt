use Rattle.std.proofs.Common.{subst}
use Rattle.std.proofs.lemmas.Result.{on_ok_weaker}
use Rattle.ivl_laws.specs.Runs.{Covers, IsRunsOf}
use Rattle.ivl_laws.specs.Sets.{Without}
use Rattle.ivl_calendar.specs.Rooms.{Bookings, IsBusy}
use Rattle.ivl_calendar.proofs.Named.{busy_taken}
use Rattle.ivl_calendar.proofs.rooms.Room.take_busy.Goals as goal

pub returns : goal.returns
returns c = on_ok_weaker c.take_named.result
    (λ h. subst (λ (room : Bookings). IsRunsOf c.take_named.new.free (Without (Covers c.args.free.now) (IsBusy room))) c.self.view_is
    (busy_taken c.args.free.now c.take_unnamed.new.free c.take_named.new.free c.self.inside.unnamed c.self.inside.named c.overlapping.result.now c.args.window c.requires c.in_ok-take_unnamed.ensures h c.overlapping.ensures.held c.overlapping.ensures.part))
    c.take_named.ensures

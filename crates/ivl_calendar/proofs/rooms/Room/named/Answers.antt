use Rattle.ivl_calendar.proofs.Named.{kept_dates}
use Rattle.ivl_calendar.proofs.rooms.Room.named.Goals as goal

pub returns-clause-dates : goal.returns-clause-dates
returns-clause-dates c = kept_dates c.self.inside.named c.entries.result.now c.entries.ensures.same c.self.invariant.0

use Rattle.std.proofs.Common.{◌∙◌}
use Rattle.ivl_calendar.proofs.Maps.{looked_up}
use Rattle.ivl_calendar.proofs.calendar.Calendar.room.Goals as goal

pub returns : goal.returns
returns c = c.get.ensures.value ∙ looked_up c.self.inside.rooms c.args.self.now c.args.name.now c.self.view_is

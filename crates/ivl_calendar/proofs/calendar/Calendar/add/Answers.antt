use Rattle.ivl_calendar.proofs.Maps.{added}
use Rattle.ivl_calendar.proofs.calendar.Calendar.add.Goals as goal

pub returns-clause-ok : goal.returns-clause-ok
returns-clause-ok c =
    added c.self.inside.rooms c.insert.new.self c.args.self.now c.args.name.now c.in_ok-key.key c.new.result c.self.view_is c.in_ok-key.ensures.ok c.new.ensures c.requires c.in_ok-insert.ensures.entries

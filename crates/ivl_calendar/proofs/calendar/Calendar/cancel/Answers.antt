use Rattle.std.proofs.Common.{sym}
use Rattle.ivl_calendar.proofs.Maps.{cancelled, unbooked, none_there}
use Rattle.ivl_calendar.proofs.calendar.Calendar.cancel.Goals as goal
use Rattle.ivl_calendar.proofs.calendar.Calendar.cancel.Goals.{in-Ok, in-Err}

pub returns-in_default-clause-unknown : goal.returns-in_default-clause-unknown
returns-in_default-clause-unknown c = none_there c.self.inside.rooms c.get_mut.follows.lender-at-none c.args.self.now c.args.name.now c.self.view_is (sym c.in_default.ensures.value) c.get_mut.follows.holds-at-none

pub returns-clause-known : goal.returns-clause-known
returns-clause-known c = elim c.match-cancel.branch [
  | in-Ok w ↦
      let of = w.in-Ok.ensures in
      rw w.result-is (cancelled w.in-Ok.done c.self.inside.rooms (c.get_mut.follows.lender c.cancel.new.self) c.args.self.now c.args.name.now c.args.days c.in-Some.room.now c.cancel.new.self c.self.view_is (sym c.in-Some.ensures.value)
      (c.get_mut.follows.holds c.cancel.new.self).0 of.freed of.if_busy of.refused)
  | in-Err w ↦ rw w.result-is tt
]

pub returns-clause-err : goal.returns-clause-err
returns-clause-err c = elim c.match-cancel.branch [
  | in-Ok w ↦ rw w.result-is tt
  | in-Err w ↦
      rw w.result-is (unbooked c.self.inside.rooms (c.get_mut.follows.lender c.cancel.new.self) c.args.self.now c.args.name.now c.in-Some.room.now c.cancel.new.self c.self.view_is (sym c.in-Some.ensures.value)
      (c.get_mut.follows.holds c.cancel.new.self).0 w.in-Err.ensures.err)
]

use Rattle.std.proofs.Common.{arith}
use Rattle.std.proofs.lemmas.Int.{ints}
use Rattle.ivl_calendar.proofs.Taking.{run_is}
use Rattle.ivl_calendar.proofs.rooms.run_from.Goals as goal

pub returns : goal.returns
returns c = run_is c.args.days.now c.args.day c.in_ok-next.next _ _ c.run_at.result (omega (arith, ints)) (omega (arith, ints)) c.in_ok-next.ensures c.run_at.ensures

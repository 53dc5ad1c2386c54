use Rattle.std.proofs.lemmas.Result.{on_ok_weaker}
use Rattle.ivl_calendar.proofs.Named.{freed_named, freed_unnamed}
use Rattle.ivl_calendar.proofs.rooms.Room.free.Goals as goal

pub returns-then-has_all_named-clause-ok : goal.returns-then-has_all_named-clause-ok
returns-then-has_all_named-clause-ok c = on_ok_weaker c.remove_named.result
    (λ h. freed_named c.args.self.now c.remove_named.new.self c.args.days c.has_all_named.ensures.maximal (c.has_all_named.ensures.none.0 c.if-has_all_named.true) h)
    c.remove_named.ensures.ok

pub returns-then-has_no_named-clause-ok : goal.returns-then-has_no_named-clause-ok
returns-then-has_no_named-clause-ok c = on_ok_weaker c.remove_unnamed.result
    (λ h. freed_unnamed c.args.self.now c.remove_unnamed.new.self c.args.days (c.has_no_named.ensures c.if-has_no_named.true) h)
    c.remove_unnamed.ensures.ok

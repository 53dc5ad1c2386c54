use Rattle.std.proofs.Common.{rules, ◌≢◌, length}
use Rattle.ivl_json.proofs.Elements.{elements_read-not_two}
use Rattle.ivl_json.proofs.intervals.pair_from.Goals as goal
use Rattle.ivl_json.proofs.intervals.pair_from.Goals.{in_default-via-then-elements-lt2, in_default-via-else-elements-lt2+else-elements-lt3}

pub returns-in_default-clause-fault : goal.returns-in_default-clause-fault
returns-in_default-clause-fault g c =
    let other : length c.args.elements.now ≢ 2 =
    elim c.in_default.branch [
      | in_default-via-then-elements-lt2 w ↦ search rules
      | in_default-via-else-elements-lt2+else-elements-lt3 w ↦ search rules
    ] in
    elements_read-not_two g.B.Width.whole c.args.elements.now other

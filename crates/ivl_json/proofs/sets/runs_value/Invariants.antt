use Rattle.std.proofs.Common.{◌≡◌, map, take}
use Rattle.serde_json.specs.View.{view}
use Rattle.ivl_json.specs.Writing.{interval_json}
use Rattle.ivl_json.proofs.sets.runs_value.Given as goal

abbrev pub invariant-loop-run : goal.invariant-loop-run
invariant-loop-run g l = map view l.items.items ≡ map interval_json (take l.run-index l.runs)

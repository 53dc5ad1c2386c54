use Rattle.std.proofs.Common.{◌≡◌, drop}
use Rattle.serde_json.specs.View.{items_view}
use Rattle.ivl_json.specs.SetReading.{items_read}
use Rattle.ivl_json.proofs.Items.{after}
use Rattle.ivl_json.proofs.sets.intervals_from.Given as goal

-- all items read as the intervals so far, with those that the rest reads as
abbrev pub invariant-loop-place : goal.invariant-loop-place
invariant-loop-place g l = items_read g.B.Width.whole 0 (items_view l.items) ≡ after l.list.items (items_read g.B.Width.whole l.place-counter (items_view (drop l.place-counter l.items)))

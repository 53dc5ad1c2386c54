use Rattle.std.proofs.Common.{◌≡◌, ◌≤◌, length, map, take}
use Rattle.std.specs.Vec.{vec_capacity, vec_len}
use Rattle.intervallum.proofs.interval_set.IntervalSet.of_members.Given as goal

abbrev pub invariant-loop-item : goal.invariant-loop-item
invariant-loop-item g l = record {
  written : l.list.items ≡ map (λ x. (g.B.Width.value x, g.B.Width.value x)) (take l.item-index l.items);
  count : vec_len l.list ≡ l.item-index;
  room : length l.items ≤ vec_capacity l.list;
}

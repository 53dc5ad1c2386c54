use Rattle.std.proofs.Common.{◌≡◌, ◌≤◌, length, map, take}
use Rattle.std.specs.Range.{range_inclusive_end, range_inclusive_start}
use Rattle.std.specs.Vec.{vec_capacity, vec_len}
use Rattle.intervallum.proofs.interval_set.ranges.of_ranges.Given as goal

abbrev pub invariant-loop-range : goal.invariant-loop-range
invariant-loop-range g l = record {
  written : l.list.items ≡ map (λ range. (g.B.Width.value (range_inclusive_start range), g.B.Width.value (range_inclusive_end range))) (take l.range-index l.ranges);
  count : vec_len l.list ≡ l.range-index;
  room : length l.ranges ≤ vec_capacity l.list;
}

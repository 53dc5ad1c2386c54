use Rattle.std.proofs.Common.{◌≡◌, ◌≤◌, length, map, take}
use Rattle.std.specs.Vec.{vec_capacity, vec_len}
use Rattle.intervallum.proofs.interval_set.conversions.of_pairs.Given as goal

abbrev pub invariant-loop-lower : goal.invariant-loop-lower
invariant-loop-lower g l = record {
  written : l.list.items ≡ map (λ p. (g.B.Width.value p.0, g.B.Width.value p.1)) (take l.lower-index l.pairs);
  count : vec_len l.list ≡ l.lower-index;
  room : length l.pairs ≤ vec_capacity l.list;
}

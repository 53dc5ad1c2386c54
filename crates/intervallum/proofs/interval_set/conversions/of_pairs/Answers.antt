use Rattle.std.proofs.Common.{map, take_all, ap, ◌∙◌, arith}
use Rattle.std.proofs.lemmas.List.Elements.{All-get_or}
use Rattle.ivl_laws.specs.Sets.{IsInRange}
use Rattle.ivl_places.proofs.Collecting.{next_written}
use Rattle.intervallum.proofs.interval_set.conversions.of_pairs.Goals as goal

pub new-requires : goal.new-requires
new-requires g c =
    rw c.loop-lower-item.is (All-get_or (λ p. IsInRange g.B.Width.whole (g.B.Width.value p.0, g.B.Width.value p.1)) c.args.pairs.now c.loop-lower.lower-index c.loop-lower-item.result c.loop-lower-test.true c.requires)

pub push_reserved-requires : goal.push_reserved-requires
push_reserved-requires g c = let filled = c.loop-lower.invariant.count in let room = c.loop-lower.invariant.room in let less = c.loop-lower-test.true in omega arith

pub loop-lower-preserved : goal.loop-lower-preserved
loop-lower-preserved g c = record {
  written = next_written _ c.args.pairs.now c.loop-lower.lower-index c.loop-lower-item.result c.loop-lower.list.items c.push_reserved.new.self.items c.new.result
      c.loop-lower-test.true c.loop-lower-item.is c.loop-lower.invariant.written c.push_reserved.ensures.items c.new.ensures.value;
  count = (let before = c.loop-lower.invariant.count in let more = c.push_reserved.ensures.len in omega arith);
  room = (let before = c.loop-lower.invariant.room in let same = c.push_reserved.ensures.capacity in omega arith);
}

pub returns : goal.returns
returns g c = rw (← (c.loop-lower.invariant.written ∙ ap (map _) (take_all c.loop-lower.lower-index c.args.pairs.now c.loop-lower-test.false))) c.coalesce.ensures

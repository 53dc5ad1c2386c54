use Rattle.std.proofs.Common.{map, take_all, ap, subst, ◌∙◌, arith, ℤ, List}
use Rattle.std.proofs.lemmas.List.Elements.{All-get_or}
use Rattle.std.proofs.lemmas.Result.{IfOk-weaker}
use Rattle.ivl_laws.specs.Sets.{IsBetween}
use Rattle.ivl_laws.specs.Runs.{Covers, IsRunsOf}
use Rattle.ivl_laws.proofs.SetLaws.{IsRunsOf-same}
use Rattle.ivl_places.proofs.Collecting.{next_written, singles_cover}
use Rattle.intervallum.proofs.interval_set.IntervalSet.of_members.Goals as goal

pub singleton-requires : goal.singleton-requires
singleton-requires g c =
    rw c.item-item.is (All-get_or (λ x. IsBetween g.B.Width.whole (g.B.Width.value x)) c.args.items.now c.loop-item.item-index c.item-item.result c.loop-item-test.true c.requires)

pub push_reserved-requires : goal.push_reserved-requires
push_reserved-requires g c = let filled = c.loop-item.invariant.count in let room = c.loop-item.invariant.room in let less = c.loop-item-test.true in omega arith

pub loop-item-preserved : goal.loop-item-preserved
loop-item-preserved g c = record {
  written = next_written _ c.args.items.now c.loop-item.item-index c.item-item.result c.loop-item.list.items c.push_reserved.new.self.items c.singleton.result
      c.loop-item-test.true c.item-item.is c.loop-item.invariant.written c.push_reserved.ensures.items c.singleton.ensures.value;
  count = (let before = c.loop-item.invariant.count in let more = c.push_reserved.ensures.len in omega arith);
  room = (let before = c.loop-item.invariant.room in let same = c.push_reserved.ensures.capacity in omega arith);
}

pub returns : goal.returns
returns g c =
    let all = c.loop-item.invariant.written ∙ ap (map _) (take_all c.loop-item.item-index c.args.items.now c.loop-item-test.false) in
    IfOk-weaker c.coalesce.result _ _ (λ L r. IsRunsOf-same _ _ L (singles_cover g.B.Width.value c.args.items.now)
    (subst (λ (M : List (ℤ × ℤ)). IsRunsOf L (Covers M)) all r)) c.coalesce.ensures

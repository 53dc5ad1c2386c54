use Rattle.ivl_places.proofs.Lopsided.{without_shared}
use Rattle.intervallum.proofs.interval_set.lopsided.few_without.Goals as goal

pub returns : goal.returns
returns g c =
    let few = c.args.few.now in
    let shared = c.in_ok-shared.shared in
    record {
      members = without_shared c.without.result c.new-2.result.left c.new-3.result.left few shared c.args.many.now c.new-2.ensures.left c.new-3.ensures.left
          c.in_ok-shared.ensures.members c.without.ensures.members;
    }

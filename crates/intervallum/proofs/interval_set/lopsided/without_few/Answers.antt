use Rattle.ivl_places.proofs.Lopsided.{without_free}
use Rattle.intervallum.proofs.interval_set.lopsided.without_few.Goals as goal

pub returns : goal.returns
returns g c = record {
  members = without_free c.common_with_few.result g.B.Width.whole c.in_ok-free.free c.args.many.now c.args.few.now c.in_whole.ensures c.in_ok-free.ensures.members c.common_with_few.ensures.members;
}

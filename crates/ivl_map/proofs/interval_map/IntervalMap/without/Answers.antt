use Rattle.std.proofs.lemmas.Result.{IfOk-weaker}
use Rattle.ivl_laws.specs.Runs.{Covers}
use Rattle.ivl_map.specs.Entries.{HasAt, IsEntriesOf, NotAt, OnlyAt}
use Rattle.ivl_map.proofs.Kept.{only_others}
use Rattle.ivl_map.proofs.interval_map.IntervalMap.without.Goals as goal

pub returns : goal.returns
returns g c =
    let eq = g.V.PartialEq.eq in
    let F = HasAt eq c.args.self.now in
    let L = c.in_ok-others.others in
    IfOk-weaker c.restrict_to.result (λ E. IsEntriesOf eq E (OnlyAt (Covers L) F)) (λ E. IsEntriesOf eq E (NotAt (Covers c.args.set.now) F))
    (λ E d. only_others eq E (Covers L) (Covers c.args.set.now) g.B.Width.whole F c.in_ok-others.ensures.members.members (λ z v k. c.in_order.ensures.entries.within z (v, k)) d)
    c.restrict_to.ensures

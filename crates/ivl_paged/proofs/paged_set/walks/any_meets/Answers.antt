use Rattle.std.proofs.Common.{refl}
use Rattle.ivl_laws.specs.Runs.{Covers}
use Rattle.ivl_laws.proofs.Adding.{untrue}
use Rattle.ivl_paged.proofs.Iterating.{never}
use Rattle.ivl_paged.proofs.Walking.{missed_all, missed_hit, missed_next, missed_none}
use Rattle.ivl_paged.proofs.paged_set.walks.any_meets.Goals as goal

pub runs-init : goal.runs-init
runs-init g c = missed_none c.args.few (Covers (g.S.Walkable.runs c.args.many.now))

pub returns-then-meets : goal.returns-then-meets
returns-then-meets g c =
    let hit = missed_hit c.args.few c.runs.few c.next.new.self (Covers (g.S.Walkable.runs c.args.many.now)) c.in-Some.run' c.runs.invariant c.in-Some.ensures.steps (c.meets.ensures.0 c.if-meets.true) in
    ((λ _. hit), (λ _. refl))

pub runs-preserved : goal.runs-preserved
runs-preserved g c =
    missed_next c.args.few c.runs.few c.next.new.self (Covers (g.S.Walkable.runs c.args.many.now)) c.in-Some.run' c.runs.invariant c.in-Some.ensures.steps (untrue _ c.if-meets.false c.meets.ensures)

pub returns : goal.returns
returns g c = never _ (missed_all c.args.few c.runs.few c.next.new.self (Covers (g.S.Walkable.runs c.args.many.now)) c.next.result c.runs.invariant c.next.ensures.steps c.in_default.not-Some)

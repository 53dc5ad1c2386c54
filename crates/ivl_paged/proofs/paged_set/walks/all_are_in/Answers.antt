use Rattle.std.proofs.Common.{refl}
use Rattle.ivl_laws.specs.Runs.{Covers}
use Rattle.ivl_laws.proofs.Adding.{untrue}
use Rattle.ivl_paged.proofs.Iterating.{never}
use Rattle.ivl_paged.proofs.Walking.{in_all, in_next, in_none, not_in}
use Rattle.ivl_paged.proofs.paged_set.walks.all_are_in.Goals as goal

pub runs-init : goal.runs-init
runs-init g c = in_none c.args.few (Covers (g.S.Walkable.runs c.args.many.now))

pub returns-then-not-has_all : goal.returns-then-not-has_all
returns-then-not-has_all g c =
    never _ (not_in c.args.few c.runs.few c.next.new.self (Covers (g.S.Walkable.runs c.args.many.now)) c.in-Some.run' c.runs.invariant c.in-Some.ensures.steps (untrue _ c.if-not-has_all.true c.has_all.ensures))

pub runs-preserved : goal.runs-preserved
runs-preserved g c =
    in_next c.args.few c.runs.few c.next.new.self (Covers (g.S.Walkable.runs c.args.many.now)) c.in-Some.run' c.runs.invariant c.in-Some.ensures.steps (c.has_all.ensures.0 c.if-not-has_all.false)

pub returns : goal.returns
returns g c =
    let all = in_all c.args.few c.runs.few c.next.new.self (Covers (g.S.Walkable.runs c.args.many.now)) c.next.result c.runs.invariant c.next.ensures.steps c.in_default.not-Some in
    ((λ _. all), (λ _. refl))

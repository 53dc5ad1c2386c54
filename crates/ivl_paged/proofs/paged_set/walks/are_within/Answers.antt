use Rattle.std.proofs.Common.{refl}
use Rattle.ivl_laws.proofs.Adding.{untrue}
use Rattle.ivl_paged.specs.Walks.{put_back}
use Rattle.ivl_paged.proofs.Iterating.{never}
use Rattle.ivl_paged.proofs.Walking.{held_ends, held_next, not_held, not_held_stops}
use Rattle.ivl_paged.proofs.paged_set.walks.are_within.Goals as goal

pub returns-in_default-read_to : goal.returns-in_default-read_to
returns-in_default-read_to g c =
    never _ (not_held_stops c.args.a c.args.b c.runs.a c.next.new.self (put_back c.runs.other c.runs.b) c.read_to.new.left c.in-Some.run' (g.B.Width.value c.lower_bound.result) c.runs.invariant c.in-Some.ensures.steps c.lower_bound.ensures
    c.read_to.result c.read_to.ensures c.in_default-read_to.not-Some)

pub returns-then-not-is_subset : goal.returns-then-not-is_subset
returns-then-not-is_subset g c =
    never _ (not_held c.args.a c.args.b c.runs.a c.next.new.self (put_back c.runs.other c.runs.b) c.read_to.new.left c.in-Some.run' (g.B.Width.value c.lower_bound.result) c.runs.invariant c.in-Some.ensures.steps c.lower_bound.ensures
    c.in-Some-read_to.next c.in-Some-read_to.ensures (untrue _ c.if-not-is_subset.true c.is_subset.ensures))

pub runs-preserved : goal.runs-preserved
runs-preserved g c =
    held_next c.args.a c.args.b c.runs.a c.next.new.self (put_back c.runs.other c.runs.b) c.read_to.new.left c.in-Some.run' (g.B.Width.value c.lower_bound.result) c.runs.invariant c.in-Some.ensures.steps c.lower_bound.ensures
    c.in-Some-read_to.next c.in-Some-read_to.ensures (c.is_subset.ensures.0 c.if-not-is_subset.false)

pub returns : goal.returns
returns g c =
    let all = held_ends c.args.a c.args.b c.runs.a c.next.new.self (put_back c.runs.other c.runs.b) c.next.result c.runs.invariant c.next.ensures.steps c.in_default.not-Some in
    ((λ _. all), (λ _. refl))

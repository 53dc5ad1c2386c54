use Rattle.std.proofs.Common.{ℤ, ◌≤ℤ◌, refl, subst}
use Rattle.std.specs.Prelude.{◌<ℤ◌}
use Rattle.ivl_laws.proofs.Orders.{le_number, not_le_number}
use Rattle.ivl_paged.specs.Walks.{put_back}
use Rattle.ivl_paged.proofs.Iterating.{never}
use Rattle.ivl_paged.proofs.Walking.{facing_meets, facing_next, facing_stops}
use Rattle.ivl_paged.proofs.paged_set.walks.share_a_number.Goals as goal

pub returns-in_default-read_to : goal.returns-in_default-read_to
returns-in_default-read_to g c =
    never _ (facing_stops c.args.a c.args.b c.runs.a c.next.new.self (put_back c.runs.other c.runs.b) c.read_to.new.left c.in-Some.run' (g.B.Width.value c.lower_bound.result) c.runs.invariant c.in-Some.ensures.steps c.lower_bound.ensures
    c.read_to.result c.read_to.ensures c.in_default-read_to.not-Some)

pub returns-then-le : goal.returns-then-le
returns-then-le g c =
    let low : c.in-Some-read_to.next.0 ≤ℤ g.B.Width.value c.upper_bound.result = subst (λ (u : ℤ). u ≤ℤ g.B.Width.value c.upper_bound.result) c.lower_bound-in-Some.ensures ((le_number g.met.B.Width.ordered _ _ _ c.le.ensures).0 c.if-le.true) in
    let meets = facing_meets c.args.a c.args.b c.runs.a c.next.new.self (put_back c.runs.other c.runs.b) c.read_to.new.left c.in-Some.run' (g.B.Width.value c.lower_bound.result) c.runs.invariant c.in-Some.ensures.steps c.lower_bound.ensures
    c.in-Some-read_to.next c.in-Some-read_to.ensures (subst (λ (u : ℤ). c.in-Some-read_to.next.0 ≤ℤ u) c.upper_bound.ensures low) in
    ((λ _. meets), (λ _. refl))

pub runs-preserved : goal.runs-preserved
runs-preserved g c =
    let high : g.B.Width.value c.upper_bound.result <ℤ c.in-Some-read_to.next.0 = subst (λ (u : ℤ). g.B.Width.value c.upper_bound.result <ℤ u) c.lower_bound-in-Some.ensures (not_le_number g.met.B.Width.ordered _ _ _ c.le.ensures c.if-le.false) in
    facing_next c.args.a c.args.b c.runs.a c.next.new.self (put_back c.runs.other c.runs.b) c.read_to.new.left c.in-Some.run' (g.B.Width.value c.lower_bound.result) c.runs.invariant c.in-Some.ensures.steps c.lower_bound.ensures
    c.in-Some-read_to.next c.in-Some-read_to.ensures (subst (λ (u : ℤ). u <ℤ c.in-Some-read_to.next.0) c.upper_bound.ensures high)

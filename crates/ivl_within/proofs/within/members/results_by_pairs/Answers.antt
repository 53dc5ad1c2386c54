use Rattle.std.proofs.Common.{arith}
use Rattle.std.proofs.lemmas.Result.{IfOk-weaker}
use Rattle.ivl_laws.specs.Sets.{Intersection}
use Rattle.ivl_laws.specs.Runs.{Covers}
use Rattle.ivl_laws.proofs.SetLaws.{IsRunsOf-same}
use Rattle.ivl_within.specs.Within.{SumsBy}
use Rattle.ivl_within.proofs.Reaching.{results_in_hull, results_in_one_run}
use Rattle.ivl_within.proofs.within.members.results_by_pairs.Goals as goal

pub returns-then-interval_count-eq1 : goal.returns-then-interval_count-eq1
returns-then-interval_count-eq1 g c =
    results_in_one_run c.args.x.now c.in_ok-made.made (SumsBy c.args.op (Covers c.args.a.now) (Covers c.args.b.now)) c.hull.result c.hull.ensures c.in_ok-made.ensures (omega arith)

pub returns : goal.returns
returns g c =
    let S = SumsBy c.args.op (Covers c.args.a.now) (Covers c.args.b.now) in
    let X = Covers c.args.x.now in
    let same = results_in_hull c.args.x.now c.in_ok-made.made S c.hull.result c.hull.ensures c.in_ok-made.ensures in
    IfOk-weaker c.intersection.result _ _ (λ N h. IsRunsOf-same (Intersection X (Covers c.in_ok-made.made)) (Intersection X S) N same h) c.intersection.ensures.members

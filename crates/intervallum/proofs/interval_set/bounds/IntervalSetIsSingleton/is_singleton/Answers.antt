use Rattle.std.proofs.Common.{arith}
use Rattle.ivl_places.proofs.Finding.{one_run_is_one, many_runs_are_not_one}
use Rattle.intervallum.proofs.interval_set.bounds.IntervalSetIsSingleton.is_singleton.Goals as goal

pub returns-then-len-ne1 : goal.returns-then-len-ne1
returns-then-len-ne1 g c =
    let v = c.self.inside.intervals in
    many_runs_are_not_one v.items c.args.self.now c.self.view_is (λ h. let n = c.if-len-ne1.true in omega (arith, v.ok.0, c.len.ensures, n, h)) c.self.invariant.0.maximal

pub returns : goal.returns
returns g c =
    let v = c.self.inside.intervals in
    one_run_is_one v.items c.args.self.now c.index.result.now c.is_singleton.result c.self.view_is
    (let n = c.if-len-ne1.false in omega (arith, v.ok.0, c.len.ensures, n)) c.index.ensures c.is_singleton.ensures.bounds c.self.invariant.0.maximal

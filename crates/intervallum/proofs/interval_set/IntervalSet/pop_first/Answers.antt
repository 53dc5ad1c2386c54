use Rattle.std.proofs.Common.{◌≡◌, ℤ, List, [], sym, subst, None, arith}
use Rattle.std.proofs.lemmas.Result.{IfOk-at_ok}
use Rattle.ivl_laws.specs.Sets.{Only, Without}
use Rattle.ivl_laws.specs.Runs.{Covers, IsRunsOf}
use Rattle.ivl_laws.proofs.Ranges.{IsRunListIn-runs}
use Rattle.ivl_laws.proofs.SetLaws.{IsRunsOf-same}
use Rattle.ivl_places.specs.Edits.{replaced}
use Rattle.ivl_walks.specs.HeldRun.{led_by}
use Rattle.ivl_places.proofs.Popping.{some_member, without_least}
use Rattle.intervallum.proofs.interval_set.IntervalSet.pop_first.Goals as goal

pub lower-least-requires : goal.lower-least-requires
lower-least-requires g c =
    let e = c.is_empty.ensures in
    let f = c.if-is_empty.false in
    some_member c.as_runs-runs.result.now c.args.self.now c.as_runs-runs.ensures.same c.as_runs-runs.ensures.runs.maximal (grind (arith, e, f))

pub replace-requires-clause-runs : goal.replace-requires-clause-runs
replace-requires-clause-runs g c =
    let L = c.args.self.now in
    let v = g.B.Width.value c.lower-least.result in
    let e = c.is_empty.ensures in
    let f = c.if-is_empty.false in
    let rest = IsRunsOf-same _ _ (led_by c.if_filled.result []) c.strict_shrink_left-rest.ensures c.if_filled.ensures in
    IsRunListIn-runs g.B.Width.whole (replaced L 0 1 c.if_filled.result None) (Without (Covers L) (Only v))
    (without_least c.as_runs-runs.result.now L c.index-runs-0.result v c.if_filled.result c.as_runs-runs.ensures.same c.as_runs-runs.ensures.runs.maximal (grind (arith, e, f))
    c.index-runs-0.is c.lower-least.ensures.member c.lower-least.ensures.least rest)
    (λ z w. c.as_runs-runs.ensures.runs.within z w.0)

pub returns-clause-others : goal.returns-clause-others
returns-clause-others g c =
    let L = c.args.self.now in
    let v = g.B.Width.value c.lower-least.result in
    let e = c.is_empty.ensures in
    let f = c.if-is_empty.false in
    let rest = IsRunsOf-same _ _ (led_by c.if_filled.result []) c.strict_shrink_left-rest.ensures c.if_filled.ensures in
    let new = IfOk-at_ok (λ _. c.replace.new.self ≡ replaced L 0 1 c.if_filled.result None) c.unwrap.ensures c.replace.ensures.ok in
    subst (λ (N : List (ℤ × ℤ)). IsRunsOf N (Without (Covers L) (Only v))) (sym new)
    (without_least c.as_runs-runs.result.now L c.index-runs-0.result v c.if_filled.result c.as_runs-runs.ensures.same c.as_runs-runs.ensures.runs.maximal (grind (arith, e, f))
    c.index-runs-0.is c.lower-least.ensures.member c.lower-least.ensures.least rest)

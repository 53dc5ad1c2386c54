use Rattle.std.proofs.Common.{◌≡◌, ◌-◌, ℤ, List, [], length, sym, subst, None, arith}
use Rattle.std.proofs.lemmas.Result.{IfOk-at_ok}
use Rattle.ivl_laws.specs.Sets.{Only, Without}
use Rattle.ivl_laws.specs.Runs.{Covers, IsRunsOf}
use Rattle.ivl_laws.proofs.Ranges.{IsRunListIn-runs}
use Rattle.ivl_laws.proofs.SetLaws.{IsRunsOf-same}
use Rattle.ivl_places.specs.Edits.{replaced}
use Rattle.ivl_walks.specs.HeldRun.{led_by}
use Rattle.ivl_places.proofs.Popping.{some_member, without_greatest}
use Rattle.intervallum.proofs.interval_set.IntervalSet.pop_last.Goals as goal

pub upper-greatest-requires : goal.upper-greatest-requires
upper-greatest-requires g c =
    let f = c.if-count-eq0.false in
    some_member c.as_runs-runs.result.now c.args.self.now c.as_runs-runs.ensures.same c.as_runs-runs.ensures.runs.maximal (omega (arith, f))

pub replace-requires-clause-runs : goal.replace-requires-clause-runs
replace-requires-clause-runs g c =
    let L = c.args.self.now in
    let K = c.as_runs-runs.result.now in
    let v = g.B.Width.value c.upper-greatest.result in
    let f = c.if-count-eq0.false in
    let rest = IsRunsOf-same _ _ (led_by c.if_filled.result []) c.strict_shrink_right-rest.ensures c.if_filled.ensures in
    IsRunListIn-runs g.B.Width.whole (replaced L (length K - 1) (length K) c.if_filled.result None) (Without (Covers L) (Only v))
    (without_greatest K L (length K - 1) (length K) c.index-runs-count.result v c.if_filled.result c.as_runs-runs.ensures.same c.as_runs-runs.ensures.runs.maximal (omega (arith, f)) (omega (arith, f))
    c.index-runs-count.is c.upper-greatest.ensures.member c.upper-greatest.ensures.greatest rest)
    (λ z w. c.as_runs-runs.ensures.runs.within z w.0)

pub returns-clause-others : goal.returns-clause-others
returns-clause-others g c =
    let L = c.args.self.now in
    let K = c.as_runs-runs.result.now in
    let v = g.B.Width.value c.upper-greatest.result in
    let f = c.if-count-eq0.false in
    let rest = IsRunsOf-same _ _ (led_by c.if_filled.result []) c.strict_shrink_right-rest.ensures c.if_filled.ensures in
    let new = IfOk-at_ok (λ _. c.replace.new.self ≡ replaced L (length K - 1) (length K) c.if_filled.result None) c.unwrap.ensures c.replace.ensures.ok in
    subst (λ (N : List (ℤ × ℤ)). IsRunsOf N (Without (Covers L) (Only v))) (sym new)
    (without_greatest K L (length K - 1) (length K) c.index-runs-count.result v c.if_filled.result c.as_runs-runs.ensures.same c.as_runs-runs.ensures.runs.maximal (omega (arith, f)) (omega (arith, f))
    c.index-runs-count.is c.upper-greatest.ensures.member c.upper-greatest.ensures.greatest rest)

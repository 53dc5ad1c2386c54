use Rattle.std.proofs.Common.{ℤ}
use Rattle.std.proofs.lemmas.Result.{IfOk-weaker}
use Rattle.ivl_laws.specs.Sets.{IsBetween, Without}
use Rattle.ivl_laws.specs.Runs.{Covers, IsRunsOf}
use Rattle.ivl_laws.proofs.SetLaws.{IsRunsOf-same}
use Rattle.ivl_map.specs.Entries.{HasAt, HasValue}
use Rattle.ivl_map.proofs.Numbers.{gaps_are}
use Rattle.ivl_map.proofs.interval_map.IntervalMap.gaps_within.Goals as goal

pub returns : goal.returns
returns g c =
    let eq = g.V.PartialEq.eq in
    let W = c.args.window in
    let A = c.in_ok-all.all in
    let N = c.in_ok-numbers.numbers in
    let S : ℤ → Type 0 = Without (Covers A) (Covers N) in
    let U : ℤ → Type 0 = Without (IsBetween W) (HasValue (HasAt eq c.args.self.now)) in
    IfOk-weaker c.difference.result (λ L. IsRunsOf L S) (λ L. IsRunsOf L U)
    (λ L r. IsRunsOf-same S U L (gaps_are A N W (HasAt eq c.overlapping.result.now) (HasAt eq c.args.self.now) c.in_ok-all.ensures.members c.in_ok-numbers.ensures.values c.overlapping.ensures.held) r)
    c.difference.ensures.members

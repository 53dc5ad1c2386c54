use Rattle.std.proofs.Common.{ℤ}
use Rattle.ivl_laws.specs.Sets.{IsBetween, Without}
use Rattle.ivl_places.specs.FirstFit.{IsFirstFit}
use Rattle.ivl_map.specs.Entries.{HasAt, HasValue}
use Rattle.ivl_map.proofs.Gaps.{gaps_same}
use Rattle.ivl_map.proofs.Lookups.{option_weaker}
use Rattle.ivl_map.proofs.Numbers.{FitsAt-same, IsFirstFit-same}
use Rattle.ivl_map.proofs.interval_map.IntervalMap.first_fit.Goals as goal

pub returns-clause-fit : goal.returns-clause-fit
returns-clause-fit g c =
    let eq = g.V.PartialEq.eq in
    let n = g.B.Output.SizeNumber.size c.args.count in
    let W = c.args.window in
    let F = HasAt eq c.overlapping.result.now in
    let G = HasAt eq c.args.self.now in
    let S : ℤ → Type 0 = Without (IsBetween W) (HasValue F) in
    let U : ℤ → Type 0 = Without (IsBetween W) (HasValue G) in
    let same = gaps_same W F G c.overlapping.ensures.held in
    option_weaker (λ p. IsFirstFit n S p) (λ p. IsFirstFit n U p) c.first_gap.result
    (λ f v t. f v (FitsAt-same n U S v (λ z. ((same z).1, (same z).0)) t)) (λ p f. IsFirstFit-same n S U p same f) c.first_gap.ensures

use Rattle.std.proofs.Common.{◌≡◌, ◌∙◌, length, arith}
use Rattle.std.proofs.lemmas.Int.{ints}
use Rattle.std.proofs.lemmas.Result.{IfOk-weaker}
use Rattle.ivl_paged.specs.Pages.{flattened}
use Rattle.ivl_paged.proofs.Freeing.{gaps_of_none}
use Rattle.ivl_paged.proofs.gaps.gaps_of.Goals as goal

pub returns-then-count-eq0 : goal.returns-then-count-eq0
returns-then-count-eq0 g c =
    let none : length c.args.pages.now ≡ 0 = omega (arith, c.len-count.ensures.value, c.if-count-eq0.true) in
    let low = g.met.B.Width.range.low_at_most in
    let high = g.met.B.Width.range.high_at_least in
    IfOk-weaker c.pages_of.result _ _
    (λ Q e. gaps_of_none g.B.Width.whole c.args.pages.now (flattened Q) none (omega (arith, ints, low, high)) (e ∙ c.runs.ensures.same ∙ c.in_ok-whole.ensures))
    c.pages_of.ensures

pub gaps_between-requires-clause-some : goal.gaps_between-requires-clause-some
gaps_between-requires-clause-some g c = omega (arith, c.len-count.ensures.value, c.if-count-eq0.false)

use Rattle.std.proofs.Common.{rules}
use borrow.Author.Tests.{tests}
use Rattle.std.proofs.lemmas.Iterator.{cases_from_all, YieldsList-from_slice}
use Rattle.ivl_laws.specs.Sets.{IsInRange}
use Rattle.ivl_calculator.proofs.Elements.{tells_all}
use Rattle.ivl_calculator.proofs.calc.writes.are_in_range.Goals as goal

pub returns : goal.returns
returns g c =
    let cases = cases_from_all _ _ _ (λ p. IsInRange g.B.Width.whole (g.B.Width.value p.0, g.B.Width.value p.1)) (λ p. ¬ (IsInRange g.B.Width.whole (g.B.Width.value p.0, g.B.Width.value p.1)))
    c.all.ensures.ran (YieldsList-from_slice c.args.list.now c.iter.ensures.rest) (λ x q k. search (rules, tests)) (λ x q k. search (rules, tests)) in
    tells_all (IsInRange g.B.Width.whole) (λ p. (g.B.Width.value p.0, g.B.Width.value p.1)) c.args.list.now c.all.result cases
